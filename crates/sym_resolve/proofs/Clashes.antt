-- The first name that two strong offers define, found by one look at each offer.
use Rattle.std.proofs.Common.{◌≡◌, ℕ, zero, suc, ◌+◌, ◌^◌, ◌<◌, ◌≤◌, ◌&&◌, ◌==◌, nat_lt, min, Bool, true, false, if◌then◌else◌, Option, Some, None, List, [], ◌∷◌, ◌++◌, map, filter, get_or, All, refl, sym, ap, ◌∙◌, subst, ⊎_elim, arith}
use Rattle.std.specs.Prelude.{flat_map, find}
use Rattle.std.specs.List.{range_with_len}
use Rattle.std.specs.Str.{bytes_eq}
use Rattle.std.proofs.lemmas.List.Elements.{All-nil, All-cons, All-head, All-tail, All-weaker}
use Rattle.std.proofs.lemmas.Bool.{cond-true, cond-false, cases_Bool, both_ways, and_left, and_right, and_from, lt-ltb, le-ltb, ltb-false, eq-eqb, ne_eqb}
use Rattle.std.proofs.lemmas.Slice.Eq.{bytes_eq-Decides}
use Rattle.claim_core.specs.Events.{event}
use Rattle.lk_base.specs.declared.defects.Defect.{Defect}
use Rattle.lk_base.specs.declared.kinds.TheConstants.{DUPLICATE}
use Rattle.lk_base.specs.Firsts.{IsFirst}
use Rattle.lk_tables.specs.Binding.{Offer, least_rank, is_strong, duplicate_of, duplicates_of}
use Rattle.lk_tables.specs.Ranks.{no_rank, class_of_rank, file_of, symbol_of_rank}
use Rattle.sym_resolve.specs.declared.duplicates.Clash.{Clash}
use Rattle.sym_resolve.specs.Claims.{rank_at}
use Rattle.sym_resolve.specs.StrongPairs.{clash, no_clash, least_clash, defect_of}

-- the look at one offer, and at all; L has the least rank of each name
abbrev looked : (List ℕ → ℕ) → Clash → Offer → Clash
looked L best o = if (nat_lt (L o.name) o.rank && class_of_rank o.rank == 0) && nat_lt (L o.name) best.first then clash (L o.name) o.rank else best

abbrev pub looked_at : (List ℕ → ℕ) → Clash → List Offer → Clash
looked_at L best [] = best
looked_at L best (o ∷ os) = looked_at L (looked L best o) os

pub looks : (row : List ℕ) (W : List ℕ → ℕ) (best : Clash) (os : List Offer) → least_clash row best (map (λ o. event (W o.name) o.rank) os) ≡ looked_at (λ t. rank_at row (W t)) best os
looks row W best [] = refl
looks row W best (o ∷ os) = looks row W (looked (λ t. rank_at row (W t)) best o) os

passed : (L : List ℕ → ℕ) (best : Clash) (o : Offer) → o.rank ≤ L o.name → looked L best o ≡ best
passed L best o le =
    cond-false _ (clash (L o.name) o.rank) best (and_left (nat_lt (L o.name) o.rank && class_of_rank o.rank == 0) (nat_lt (L o.name) best.first) (and_left (nat_lt (L o.name) o.rank) (class_of_rank o.rank == 0) (le-ltb (L o.name) o.rank le)))

weak_class : (rank : ℕ) → nat_lt rank (2 ^ 56) ≡ false → (class_of_rank rank == 0) ≡ false
weak_class rank is = let le = ltb-false rank (2 ^ 56) is in ne_eqb (class_of_rank rank) 0 (λ e. omega arith)

strong_class : (rank : ℕ) → rank < 2 ^ 56 → (class_of_rank rank == 0) ≡ true
strong_class rank lt = eq-eqb (class_of_rank rank) 0 (omega arith)

weak : (L : List ℕ → ℕ) (best : Clash) (o : Offer) → is_strong o ≡ false → looked L best o ≡ best
weak L best o is =
    cond-false _ (clash (L o.name) o.rank) best (and_left (nat_lt (L o.name) o.rank && class_of_rank o.rank == 0) (nat_lt (L o.name) best.first) (and_right (nat_lt (L o.name) o.rank) (class_of_rank o.rank == 0) (weak_class o.rank is)))

no_less : (L : List ℕ → ℕ) (best : Clash) (o : Offer) → best.first ≤ L o.name → looked L best o ≡ best
no_less L best o le =
    cond-false _ (clash (L o.name) o.rank) best (and_right (nat_lt (L o.name) o.rank && class_of_rank o.rank == 0) (nat_lt (L o.name) best.first) (le-ltb (L o.name) best.first le))

taken : (L : List ℕ → ℕ) (best : Clash) (o : Offer) → L o.name < o.rank → o.rank < 2 ^ 56 → L o.name < best.first → looked L best o ≡ clash (L o.name) o.rank
taken L best o a b c =
    cond-true _ (clash (L o.name) o.rank) best (and_from (nat_lt (L o.name) o.rank && class_of_rank o.rank == 0) (nat_lt (L o.name) best.first) (and_from (nat_lt (L o.name) o.rank) (class_of_rank o.rank == 0) (lt-ltb (L o.name) o.rank a) (strong_class o.rank b)) (lt-ltb (L o.name) best.first c))

-- offers that are not strong are passed over
looked_if : (L : List ℕ → ℕ) (best : Clash) (o : Offer) (os kept : List Offer) (b : Bool) → is_strong o ≡ b → ((c : Clash) → looked_at L c os ≡ looked_at L c kept) → looked_at L (looked L best o) os ≡ looked_at L best (if b then o ∷ kept else kept)
looked_if L best o os kept true is later = later (looked L best o)
looked_if L best o os kept false is later = ap (λ c. looked_at L c os) (weak L best o is) ∙ later best

pub strong_alone : (L : List ℕ → ℕ) (best : Clash) (os : List Offer) → looked_at L best os ≡ looked_at L best (filter is_strong os)
strong_alone L best [] = refl
strong_alone L best (o ∷ os) = looked_if L best o os (filter is_strong os) (is_strong o) refl (λ c. strong_alone L c os)

-- ranks that rise, from a number on, up to another
abbrev pub RisesFrom : ℕ → List Offer → ℕ → Type 0
RisesFrom low [] high = low ≤ high
RisesFrom low (o ∷ os) high = (low ≤ o.rank) × RisesFrom (o.rank + 1) os high

pub rises_lower : (os : List Offer) (a b high : ℕ) → a ≤ b → RisesFrom b os high → RisesFrom a os high
rises_lower [] a b high le up = omega arith
rises_lower (o ∷ os) a b high le up = let low = up.0 in (omega arith, up.1)

pub rises_higher : (os : List Offer) (a high more : ℕ) → high ≤ more → RisesFrom a os high → RisesFrom a os more
rises_higher [] a high more le up = omega arith
rises_higher (o ∷ os) a high more le up = (up.0, rises_higher os (o.rank + 1) high more le up.1)

pub rises_append : (xs ys : List Offer) (a b c : ℕ) → RisesFrom a xs b → RisesFrom b ys c → RisesFrom a (xs ++ ys) c
rises_append [] ys a b c up more = rises_lower ys a b c up more
rises_append (x ∷ xs) ys a b c up more = (up.0, rises_append xs ys (x.rank + 1) b c up.1 more)

rises_end : (os : List Offer) (a high : ℕ) → RisesFrom a os high → a ≤ high
rises_end [] a high up = up
rises_end (o ∷ os) a high up = let low = up.0 in let later = rises_end os (o.rank + 1) high up.1 in omega arith

pub rises_range : (B : ℕ → ℕ) (g : ℕ → List Offer) (a n : ℕ) → ((j : ℕ) → a ≤ j → j < a + n → RisesFrom (B j) (g j) (B (j + 1))) → RisesFrom (B a) (flat_map g (range_with_len a n)) (B (a + n))
rises_range B g a zero each = let e : a ≡ a + 0 = omega arith in omega (arith, ap B e)
rises_range B g a (suc n) each =
    let e : a + 1 + n ≡ a + suc n = omega arith in
    let P : ℕ → Type 0 = λ k. RisesFrom (B (a + 1)) (flat_map g (range_with_len (a + 1) n)) k in
    rises_append (g a) (flat_map g (range_with_len (a + 1) n)) (B a) (B (a + 1)) (B (a + suc n)) (each a (omega arith) (omega arith))
    (subst P (ap B e) (rises_range B g (a + 1) n (λ j low high. each j (omega arith) (omega arith))))

min_above : (b : Bool) (a rank later : ℕ) → a ≤ rank → a ≤ later → a ≤ (if b then min rank later else later)
min_above true a rank later low le = omega arith
min_above false a rank later low le = le

-- no offer that rises from a number on is below it
least_above : (text : List ℕ) (os : List Offer) (a high : ℕ) → a ≤ no_rank → RisesFrom a os high → a ≤ least_rank text os
unfolding least_rank
least_above text [] a high le up = le
least_above text (o ∷ os) a high le up =
    let low = up.0 in
    min_above (bytes_eq o.name text) a o.rank (least_rank text os) up.0 (least_above text os a high le (rises_lower os a (o.rank + 1) high (omega arith) up.1))

-- the first of a rising list is the least of its name
own_least : (o : Offer) (os : List Offer) (high : ℕ) → high ≤ 2 ^ 56 → RisesFrom (o.rank + 1) os high → least_rank o.name (o ∷ os) ≡ o.rank
unfolding least_rank
own_least o os high most up =
    let d = bytes_eq-Decides o.name o.name in
    let end = rises_end os (o.rank + 1) high up in
    let later = least_above o.name os (o.rank + 1) high (omega arith) up in
    cond-true (bytes_eq o.name o.name) (min o.rank (least_rank o.name os)) (least_rank o.name os) (d.1 refl) ∙ (let e : min o.rank (least_rank o.name os) ≡ o.rank = omega arith in e)

other_least : (text : List ℕ) (o : Offer) (os : List Offer) → bytes_eq o.name text ≡ false → least_rank text (o ∷ os) ≡ least_rank text os
unfolding least_rank
other_least text o os ne = cond-false (bytes_eq o.name text) (min o.rank (least_rank text os)) (least_rank text os) ne

-- what L has for the offers after o
record IsAfter (L : List ℕ → ℕ) (o q : Offer) : Type 0 where
  same : bytes_eq q.name o.name ≡ true → L q.name ≡ o.rank
  other : bytes_eq q.name o.name ≡ false → o.rank < L q.name

after_le : (L : List ℕ → ℕ) (o q : Offer) → IsAfter L o q → o.rank ≤ L q.name
after_le L o q h = ⊎_elim
    (λ (eq : bytes_eq q.name o.name ≡ true). let e = h.same eq in omega arith)
    (λ (ne : bytes_eq q.name o.name ≡ false). let lt = h.other ne in omega arith)
    (cases_Bool (bytes_eq q.name o.name))

-- nothing lesser is met
stays : (L : List ℕ → ℕ) (best : Clash) (os : List Offer) → All (λ q. best.first ≤ L q.name) os → looked_at L best os ≡ best
stays L best [] all = refl
stays L best (q ∷ os) all =
    ap (λ c. looked_at L c os) (no_less L best q (All-head (λ (x : Offer). best.first ≤ L x.name) q os all))
    ∙ stays L best os (All-tail (λ (x : Offer). best.first ≤ L x.name) q os all)

above_if : (b : Bool) (c best : Clash) (low : ℕ) → low < c.first → low < best.first → low < (if b then c else best).first
above_if true c best low also have = also
above_if false c best low also have = have

-- a look at another name leaves or takes a later first
looked_above : (L : List ℕ → ℕ) (best : Clash) (q : Offer) (low : ℕ) → low < best.first → low < L q.name → low < (looked L best q).first
looked_above L best q low have also = above_if ((nat_lt (L q.name) q.rank && class_of_rank q.rank == 0) && nat_lt (L q.name) best.first) (clash (L q.name) q.rank) best low also have

found_at : (L : List ℕ → ℕ) (o q p : Offer) (os : List Offer) (best : Clash) (b : Bool) → bytes_eq q.name o.name ≡ b → IsAfter L o q → All (IsAfter L o) os → o.rank < q.rank → q.rank < 2 ^ 56 → o.rank < best.first
    → ((c : Clash) → o.rank < c.first → find (λ r. bytes_eq r.name o.name) os ≡ Some p → looked_at L c os ≡ clash o.rank p.rank)
    → (if b then Some q else find (λ r. bytes_eq r.name o.name) os) ≡ Some p → looked_at L (looked L best q) os ≡ clash o.rank p.rank
found_at L o q p os best true is here later_ones lt strong above later e =
    let least : L q.name ≡ o.rank = here.same is in
    let same : q ≡ p = cc in
    let P : Clash → Type 0 = λ c. looked_at L c os ≡ c in
    let took : looked L best q ≡ clash o.rank q.rank = taken L best q (omega arith) strong (omega arith) ∙ ap (λ k. clash k q.rank) least in
    ap (λ c. looked_at L c os) took ∙ stays L (clash o.rank q.rank) os (All-weaker (IsAfter L o) (λ (r : Offer). o.rank ≤ L r.name) (λ r h. after_le L o r h) os later_ones)
    ∙ ap (λ (r : Offer). clash o.rank r.rank) same
found_at L o q p os best false is here later_ones lt strong above later e =
    later (looked L best q) (looked_above L best q o.rank above (here.other is)) e

-- the first of a name, with the next
finds : (L : List ℕ → ℕ) (o p : Offer) (os : List Offer) (best : Clash) (high : ℕ) → high ≤ 2 ^ 56 → RisesFrom (o.rank + 1) os high → All (IsAfter L o) os → o.rank < best.first → find (λ r. bytes_eq r.name o.name) os ≡ Some p → looked_at L best os ≡ clash o.rank p.rank
finds L o p [] best high most up later_ones above e = cc
finds L o p (q ∷ os) best high most up later_ones above e =
    let low = up.0 in
    let end = rises_end os (q.rank + 1) high up.1 in
    found_at L o q p os best (bytes_eq q.name o.name) refl (All-head (IsAfter L o) q os later_ones) (All-tail (IsAfter L o) q os later_ones) (omega arith) (omega arith) above
    (λ c also found. finds L o p os c high most (rises_lower os (o.rank + 1) (q.rank + 1) high (omega arith) up.1) (All-tail (IsAfter L o) q os later_ones) also found) e

none_if : (o q : Offer) (os : List Offer) (b : Bool) → bytes_eq q.name o.name ≡ b → (find (λ r. bytes_eq r.name o.name) os ≡ None → All (λ r. bytes_eq r.name o.name ≡ false) os) → (if b then Some q else find (λ r. bytes_eq r.name o.name) os) ≡ None → All (λ r. bytes_eq r.name o.name ≡ false) (q ∷ os)
none_if o q os true is later e = absurd cc
none_if o q os false is later e = All-cons (λ (r : Offer). bytes_eq r.name o.name ≡ false) q os is (later e)

none_found : (o : Offer) (os : List Offer) → find (λ r. bytes_eq r.name o.name) os ≡ None → All (λ r. bytes_eq r.name o.name ≡ false) os
none_found o [] e = All-nil (λ (r : Offer). bytes_eq r.name o.name ≡ false)
none_found o (q ∷ os) e = none_if o q os (bytes_eq q.name o.name) refl (none_found o os) e

bytes_eq_back : (s t : List ℕ) → bytes_eq s t ≡ false → bytes_eq t s ≡ false
bytes_eq_back s t ne = ⊎_elim
    (λ (eq : bytes_eq t s ≡ true). let d = bytes_eq-Decides t s in let b = bytes_eq-Decides s t in absurd (both_ways (bytes_eq s t) ne (b.1 (sym (d.0 eq)))))
    (λ (no' : bytes_eq t s ≡ false). no')
    (cases_Bool (bytes_eq t s))

abbrev pub Agrees : (List ℕ → ℕ) → List Offer → Type 0
Agrees L os = All (λ p. L p.name ≡ least_rank p.name os) os

all_after : (L : List ℕ → ℕ) (o : Offer) (os : List Offer) (high : ℕ) → high ≤ 2 ^ 56 → RisesFrom (o.rank + 1) os high → All (λ p. L p.name ≡ least_rank p.name (o ∷ os)) os → All (IsAfter L o) os
all_after L o os high most up agrees =
    let end = rises_end os (o.rank + 1) high up in
    All-weaker (λ (p : Offer). L p.name ≡ least_rank p.name (o ∷ os)) (IsAfter L o)
    (λ q is. record {
      same = λ eq. let d = bytes_eq-Decides q.name o.name in is ∙ ap (λ t. least_rank t (o ∷ os)) (d.0 eq) ∙ own_least o os high most up;
      other = λ ne. let later = least_above q.name os (o.rank + 1) high (omega arith) up in omega (arith, other_least q.name o os (bytes_eq_back q.name o.name ne));
    })
    os agrees

all_later : (L : List ℕ → ℕ) (o : Offer) (os : List Offer) → All (λ p. L p.name ≡ least_rank p.name (o ∷ os)) os → All (λ r. bytes_eq r.name o.name ≡ false) os → Agrees L os
all_later L o os agrees others = λ k d lt. agrees k d lt ∙ other_least (get_or os k d).name o os (bytes_eq_back (get_or os k d).name o.name (others k d lt))

strong_defect : (o p : Offer) → o.rank < 2 ^ 56 → defect_of (clash o.rank p.rank) ≡ Some (record { kind = DUPLICATE; file = file_of o.rank; section = 0; place = symbol_of_rank o.rank; symbol = symbol_of_rank o.rank; other = file_of p.rank })
strong_defect o p lt = cond-false (o.rank == no_rank) None _ (ne_eqb o.rank no_rank (λ e. omega arith))

by_find : (L : List ℕ → ℕ) (o : Offer) (os : List Offer) (high : ℕ) (r : Option Offer) → find (λ p. bytes_eq p.name o.name) os ≡ r → high ≤ 2 ^ 56 → RisesFrom (o.rank + 1) os high → All (λ p. L p.name ≡ least_rank p.name (o ∷ os)) os
    → (Agrees L os → IsFirst (duplicates_of os) (defect_of (looked_at L no_clash os))) → IsFirst (duplicate_of o r ++ duplicates_of os) (defect_of (looked_at L no_clash os))
by_find L o os high None is most up agrees later = later (all_later L o os agrees (none_found o os is))
by_find L o os high (Some p) is most up agrees later =
    let end = rises_end os (o.rank + 1) high up in
    let P : Option Defect → Type 0 = IsFirst (duplicate_of o (Some p) ++ duplicates_of os) in
    subst P (sym (ap defect_of (finds L o p os no_clash high most up (all_after L o os high most up agrees) (omega arith) is) ∙ strong_defect o p (omega arith))) (duplicates_of os, refl)

pub first_duplicate : (L : List ℕ → ℕ) (os : List Offer) (a high : ℕ) → high ≤ 2 ^ 56 → RisesFrom a os high → Agrees L os → IsFirst (duplicates_of os) (defect_of (looked_at L no_clash os))
first_duplicate L [] a high most up agrees = refl
first_duplicate L (o ∷ os) a high most up agrees =
    let own : L o.name ≡ o.rank = All-head (λ (p : Offer). L p.name ≡ least_rank p.name (o ∷ os)) o os agrees ∙ own_least o os high most up.1 in
    let P : Clash → Type 0 = λ c. IsFirst (duplicates_of (o ∷ os)) (defect_of (looked_at L c os)) in
    subst P (sym (passed L no_clash o (omega arith)))
    (by_find L o os high (find (λ p. bytes_eq p.name o.name) os) refl most up.1 (All-tail (λ (p : Offer). L p.name ≡ least_rank p.name (o ∷ os)) o os agrees)
    (λ also. first_duplicate L os (o.rank + 1) high most up.1 also))
