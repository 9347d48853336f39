-- Lists of checks: parts in a row, steps of a loop over numbers, and what an answer says of the checks.
use Rattle.std.proofs.Common.{◌≡◌, ℕ, zero, suc, ◌+◌, ◌-◌, ◌<◌, ◌≤◌, Bool, true, false, cond, List, [], ◌∷◌, ◌++◌, map, refl, sym, ap, ◌∙◌, subst, arith, inl, inr}
use Rattle.std.proofs.Math.Nat.{eq-or-lt_of_le}
use Rattle.std.proofs.lemmas.Bool.{cond-true, cond-false}
use Rattle.std.specs.Prelude.{Result, Ok, Err, flat_map, IfOk}
use Rattle.std.specs.List.{range_with_len}
use Rattle.std.proofs.lemmas.List.FromFn.{map-range_with_len_more}
use Rattle.lk_base.specs.declared.defects.Flaw.{Flaw}
use Rattle.lk_base.specs.declared.defects.ReadFault.{ReadFault}
use Rattle.lk_base.specs.declared.defects.ReadFault.TheVariants.{Bad, Memory}
use Rattle.lk_tables.specs.Checks.{Check, checked, passes, from_on, NoneBroken, IsFirstBroken, Fails, Gives}

abbrev pub after : {A : Type 0} → Result (Unit {0}) Flaw → Result A Flaw → Result A Flaw
after (Ok u) r = r
after (Err f) r = Err f

cond_after : {A : Type 0} (b : Bool) (f : Flaw) (r : Result (Unit {0}) Flaw) (s t : Result A Flaw) → t ≡ after r s → cond b (Err f) t ≡ after (cond b (Err f) r) s
cond_after true f r s t e = refl
cond_after false f r s t e = e

-- two parts in a row
pub checked_append : {A : Type 0} (cs ds : List Check) (v : A) → checked (cs ++ ds) v ≡ after (passes cs) (checked ds v)
checked_append [] ds v = refl
checked_append (c ∷ cs) ds v = cond_after c.broken c.flaw (passes cs) (checked ds v) (checked (cs ++ ds) v) (checked_append cs ds v)

cond_failed : {A B : Type 0} (b : Bool) (f g : Flaw) (r : Result A Flaw) (s : Result B Flaw) → (r ≡ Err g → s ≡ Err g) → cond b (Err f) r ≡ Err g → cond b (Err f) s ≡ Err g
cond_failed true f g r s k e = cc
cond_failed false f g r s k e = k e

-- a failure is the same whatever the value
pub checked_failed : {A B : Type 0} (cs : List Check) (u : A) (v : B) (g : Flaw) → checked cs u ≡ Err g → checked cs v ≡ Err g
checked_failed [] u v g e = cc
checked_failed (c ∷ cs) u v g e = cond_failed c.broken c.flaw g (checked cs u) (checked cs v) (checked_failed cs u v g) e

cond_passed : {A B : Type 0} (b : Bool) (f : Flaw) (r : Result A Flaw) (s : Result B Flaw) (x : A) (v : B) → (r ≡ Ok x → s ≡ Ok v) → cond b (Err f) r ≡ Ok x → cond b (Err f) s ≡ Ok v
cond_passed true f r s x v k e = cc
cond_passed false f r s x v k e = k e

-- and so is a success
pub checked_passed : {A B : Type 0} (cs : List Check) (u : A) (v : B) (x : A) → checked cs u ≡ Ok x → checked cs v ≡ Ok v
checked_passed [] u v x e = refl
checked_passed (c ∷ cs) u v x e = cond_passed c.broken c.flaw (checked cs u) (checked cs v) x v (checked_passed cs u v x) e

cond_value : {A : Type 0} (b : Bool) (f : Flaw) (r : Result A Flaw) (u x : A) → (r ≡ Ok x → x ≡ u) → cond b (Err f) r ≡ Ok x → x ≡ u
cond_value true f r u x k e = cc
cond_value false f r u x k e = k e

-- what passes is the value
pub checked_value : {A : Type 0} (cs : List Check) (u x : A) → checked cs u ≡ Ok x → x ≡ u
checked_value [] u x e = cc
checked_value (c ∷ cs) u x e = cond_value c.broken c.flaw (checked cs u) u x (checked_value cs u x) e

-- the checks from i on are those of i and those from i + 1 on
from_more : (f : ℕ → List Check) (i n : ℕ) → i < n → from_on f i n ≡ f i ++ from_on f (i + 1) n
from_more f i n lt =
    let e : n - i ≡ suc (n - (i + 1)) = omega arith in
    ap (λ k. flat_map f (range_with_len i k)) e

from_none : (f : ℕ → List Check) (i n : ℕ) → n ≤ i → from_on f i n ≡ []
from_none f i n le =
    let e : n - i ≡ 0 = omega arith in
    ap (λ k. flat_map f (range_with_len i k)) e

-- a loop's step, its exit with a flaw and its end, if what is left of the checks passes as all do
pub step_passes : {A : Type 0} (f : ℕ → List Check) (i n : ℕ) (u x : A) (whole : Result (Unit {0}) Flaw) → i < n → passes (from_on f i n) ≡ whole → checked (f i) u ≡ Ok x → passes (from_on f (i + 1) n) ≡ whole
step_passes f i n u x whole lt so_far ok =
    sym (ap passes (from_more f i n lt) ∙ checked_append (f i) (from_on f (i + 1) n) tt
    ∙ ap (λ r. after r (passes (from_on f (i + 1) n))) (checked_passed (f i) u tt x ok)) ∙ so_far

pub step_fails : {A : Type 0} (f : ℕ → List Check) (i n : ℕ) (u : A) (g : Flaw) (whole : Result (Unit {0}) Flaw) → i < n → passes (from_on f i n) ≡ whole → checked (f i) u ≡ Err g → whole ≡ Err g
step_fails f i n u g whole lt so_far bad =
    sym so_far ∙ (ap passes (from_more f i n lt) ∙ checked_append (f i) (from_on f (i + 1) n) tt
    ∙ ap (λ r. after r (passes (from_on f (i + 1) n))) (checked_failed (f i) u tt g bad))

pub all_pass : (f : ℕ → List Check) (i n : ℕ) (whole : Result (Unit {0}) Flaw) → n ≤ i → passes (from_on f i n) ≡ whole → whole ≡ Ok tt
all_pass f i n whole le so_far = sym so_far ∙ ap passes (from_none f i n le)

-- the list of what was read grows by what this step read
pub step_items : {A : Type 0} (cs : List Check) (g : ℕ → A) (i : ℕ) (x : A) (old new : List A) → old ≡ map g (range_with_len 0 i) → new ≡ old ++ (x ∷ []) → checked cs (g i) ≡ Ok x → new ≡ map g (range_with_len 0 (i + 1))
step_items cs g i x old new before push ok =
    push ∙ ap (λ xs. xs ++ (x ∷ [])) before
    ∙ ap (λ y. map g (range_with_len 0 i) ++ (y ∷ [])) (checked_value cs (g i) x ok)
    ∙ sym (map-range_with_len_more g 0 i i (omega arith))

-- if a callee's fault is handed on
pub fails_as : {X Y : Type 0} (e : ReadFault) (r : Result X Flaw) (s : Result Y Flaw) → ((f : Flaw) → r ≡ Err f → s ≡ Err f) → Fails e r → Fails e s
fails_as Memory r s k h = tt
fails_as (Bad f) r s k h = k f h

after_passed : {A : Type 0} (r : Result (Unit {0}) Flaw) (s : Result A Flaw) (x : A) → after r s ≡ Ok x → (r ≡ Ok tt) × (s ≡ Ok x)
after_passed (Ok u) s x e = (refl, e)
after_passed (Err f) s x e = cc

-- parts in a row pass if each passes
pub both_pass : {A : Type 0} (cs ds : List Check) (v x : A) → checked (cs ++ ds) v ≡ Ok x → (passes cs ≡ Ok tt) × (checked ds v ≡ Ok x)
both_pass cs ds v x e = after_passed (passes cs) (checked ds v) x (sym (checked_append cs ds v) ∙ e)

-- the first part fails; the first passes and so the second decides
pub first_fails : {A : Type 0} (cs ds : List Check) (v : A) (g : Flaw) → passes cs ≡ Err g → checked (cs ++ ds) v ≡ Err g
first_fails cs ds v g e = checked_append cs ds v ∙ ap (λ r. after r (checked ds v)) e

pub second_decides : {A : Type 0} (cs ds : List Check) (v : A) → passes cs ≡ Ok tt → checked (cs ++ ds) v ≡ checked ds v
second_decides cs ds v e = checked_append cs ds v ∙ ap (λ r. after r (checked ds v)) e

each_step : (f : ℕ → List Check) (m i k : ℕ) → (i + 1 ≤ k → k < i + 1 + m → passes (f k) ≡ Ok tt) → passes (f i) ≡ Ok tt → i ≤ k → k < i + suc m → passes (f k) ≡ Ok tt
each_step f m i k later here low high =
    elim (eq-or-lt_of_le low) [ inl same ↦ subst (λ (j : ℕ). passes (f j) ≡ Ok tt) same here | inr lt ↦ later (omega arith) (omega arith) ]

-- checks over numbers that pass do so at each
each_in : (f : ℕ → List Check) (m i k : ℕ) → passes (flat_map f (range_with_len i m)) ≡ Ok tt → i ≤ k → k < i + m → passes (f k) ≡ Ok tt
each_in f zero i k e low high = absurd (omega arith)
each_in f (suc m) i k e low high =
    let parts = both_pass (f i) (flat_map f (range_with_len (i + 1) m)) tt tt e in
    each_step f m i k (each_in f m (i + 1) k parts.1) parts.0 low high

pub each : (f : ℕ → List Check) (i n k : ℕ) → passes (from_on f i n) ≡ Ok tt → i ≤ k → k < n → passes (f k) ≡ Ok tt
each f i n k e low high = each_in f (n - i) i k e low (omega arith)

unless : {A : Type 0} (b : Bool) (f : Flaw) (r : Result A Flaw) (x : A) → cond b (Err f) r ≡ Ok x → (b ≡ false) × (r ≡ Ok x)
unless true f r x e = cc
unless false f r x e = (refl, e)

-- a list of checks that passes: the first is not broken, and the rest passes
pub line_passes : {A : Type 0} (c : Check) (cs : List Check) (v x : A) → checked (c ∷ cs) v ≡ Ok x → (c.broken ≡ false) × (checked cs v ≡ Ok x)
line_passes c cs v x e = unless c.broken c.flaw (checked cs v) x e

-- what passes has no broken check, and the other way round
pub none_from_ok : {A : Type 0} (cs : List Check) (u x : A) → checked cs u ≡ Ok x → NoneBroken cs
none_from_ok [] u x e = tt
none_from_ok (c ∷ cs) u x e =
    let parts = line_passes c cs u x e in (parts.0, none_from_ok cs u x parts.1)

pub ok_from_none : {A : Type 0} (cs : List Check) (v : A) → NoneBroken cs → checked cs v ≡ Ok v
ok_from_none [] v h = refl
ok_from_none (c ∷ cs) v h = cond-false c.broken (Err c.flaw) (checked cs v) h.0 ∙ ok_from_none cs v h.1

first_step : {A : Type 0} (c : Check) (cs : List Check) (g : Flaw) (r : Result A Flaw) (b : Bool) → c.broken ≡ b → (r ≡ Err g → IsFirstBroken cs g) → cond b (Err c.flaw) r ≡ Err g → IsFirstBroken (c ∷ cs) g
first_step c cs g r true is k e =
    record { before = []; first = c; later = cs; parts = refl; passed = tt; broken = is; flaw_is = cc }
first_step c cs g r false is k e =
    let p = k e in
    record { before = c ∷ p.before; first = p.first; later = p.later; parts = ap (λ xs. c ∷ xs) p.parts; passed = (is, p.passed); broken = p.broken; flaw_is = p.flaw_is }

-- a flaw is that of the first broken check
pub first_from_err : {A : Type 0} (cs : List Check) (u : A) (g : Flaw) → checked cs u ≡ Err g → IsFirstBroken cs g
first_from_err [] u g e = cc
first_from_err (c ∷ cs) u g e = first_step c cs g (checked cs u) c.broken refl (first_from_err cs u g) e

-- what a reader gives that gives the checked value
pub found_from : {X Y : Type 0} (view : X → Y) (cs : List Check) (fields : Y) (r : Result X ReadFault) → Gives view r (checked cs fields) → IfOk r (λ x. (view x ≡ fields) × NoneBroken cs)
found_from view cs fields (Ok x) e = (checked_value cs fields (view x) e, none_from_ok cs fields (view x) e)
found_from view cs fields (Err e) h = tt

pub refused_from : {X Y : Type 0} (view : X → Y) (cs : List Check) (fields : Y) (r : Result X ReadFault) (f : Flaw) → Gives view r (checked cs fields) → r ≡ Err (Bad f) → IsFirstBroken cs f
refused_from view cs fields (Ok x) f e is = cc
refused_from view cs fields (Err Memory) f e is = cc
refused_from view cs fields (Err (Bad g)) f e is =
    let same : checked cs fields ≡ Err f = cc in first_from_err cs fields f same

-- a first broken check is the answer
err_after : {A : Type 0} (before later : List Check) (first : Check) (v : A) → NoneBroken before → first.broken ≡ true → checked (before ++ (first ∷ later)) v ≡ Err first.flaw
err_after [] later first v none is = cond-true first.broken (Err first.flaw) (checked later v) is
err_after (c ∷ cs) later first v none is =
    rw none.0 (err_after cs later first v none.1 is)

pub err_from_first : {A : Type 0} (cs : List Check) (v : A) (flaw : Flaw) → IsFirstBroken cs flaw → checked cs v ≡ Err flaw
err_from_first cs v flaw h =
    ap (λ xs. checked xs v) h.parts ∙ err_after h.before h.later h.first v h.passed h.broken ∙ ap Err (sym h.flaw_is)
