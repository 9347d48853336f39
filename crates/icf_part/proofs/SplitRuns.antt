-- Class after class, by the runs of their items.
use Rattle.std.proofs.Common.{◌≡◌, ◌≢◌, ℕ, ◌/◌, ◌%◌, ◌<◌, ◌≤◌, ◌^◌, Bool, List, length, get_or, Contains, refl, sym, ap, ◌∙◌, subst, ⊎_elim, arith}
use Rattle.std.proofs.lemmas.Bool.{cases_lt}
use Rattle.icf_part.specs.declared.classes.Classes.{Classes}
use Rattle.icf_part.specs.Classes.{AreKept, AreSplit, GoesOn, IsPartSplit, Stands, class_count, label_of, word}
use Rattle.icf_part.specs.Runs.{IsCut}
use Rattle.icf_part.proofs.Listed.{has_at, place_of}

pub stands_first : (n : ℕ) (c : Classes) (s : ℕ) → AreKept n c → Stands n c c s s
stands_first n c s kept = record { kept = kept; goes = record { finer = λ a b la lb e. e; settled = λ x y lx ly h. h; turns = omega arith }; steps = refl }

pub stands_then : (n : ℕ) (a b c : Classes) (s t u : ℕ) → Stands n a b s t → Stands n b c t u → Stands n a c s u
stands_then n a b c s t u one two =
    let f = one.goes in
    let g = two.goes in
    let tf = f.turns in
    let tg = g.turns in
    let sf = one.steps in
    let sg = two.steps in
    record {
      kept = two.kept;
      goes = record {
        finer = λ x y lx ly e. f.finer x y lx ly (g.finer x y lx ly e);
        settled = λ x y lx ly h. g.settled x y lx ly (f.settled x y lx ly h);
        turns = omega (arith, tf, tg);
      };
      steps = omega (arith, sf, sg);
    }

-- the runs before a place are done
pub record IsUnderSplit (n : ℕ) (keys : List ℕ) (at : ℕ) (old now : Classes) (s t : ℕ) : Type 0 where
  pub stands : Stands n old now s t
  pub cut : IsCut keys at
  pub apart : (i a b : ℕ) → i < at → i < length keys → a < n → b < n → label_of old a ≡ get_or keys i 0 / 2 ^ 32 → label_of now a ≡ label_of now b →
      Contains keys (word (label_of old a) a) → Contains keys (word (label_of old b) b)
  pub together : (a b : ℕ) → a < n → b < n → (Contains keys (word (label_of old a) a) → Contains keys (word (label_of old b) b)) →
      (Contains keys (word (label_of old b) b) → Contains keys (word (label_of old a) a)) → label_of old a ≡ label_of old b → label_of now a ≡ label_of now b
  pub rest : (a : ℕ) → a < n → ((i : ℕ) → i < at → i < length keys → get_or keys i 0 / 2 ^ 32 ≢ label_of old a) → label_of now a ≡ label_of old a

pub under_first : (n : ℕ) (keys : List ℕ) (c : Classes) (s : ℕ) → AreKept n c → IsUnderSplit n keys 0 c c s s
under_first n keys c s kept = record {
  stands = stands_first n c s kept;
  cut = record { lower = λ i j li lj lt. absurd (omega arith) };
  apart = λ i a b li. absurd (omega arith);
  together = λ a b la lb there back e. e;
  rest = λ a la other. refl;
}

module _ (n : ℕ) (keys part : List ℕ) (at end from : ℕ) (old now next : Classes) (s t u : ℕ) (few : n < 2 ^ 31)
    (told : (w : ℕ) → Contains keys w → (w % 2 ^ 32 < n) × (label_of old (w % 2 ^ 32) ≡ w / 2 ^ 32)) (is : IsUnderSplit n keys at old now s t)
    (within : at < length keys) (upper : from ≡ get_or keys at 0 / 2 ^ 32) (more : at < end) (cut : IsCut keys end)
    (same : (i : ℕ) → at ≤ i → i < end → get_or keys i 0 / 2 ^ 32 ≡ get_or keys at 0 / 2 ^ 32)
    (all : (x : ℕ) → x < 2 ^ 32 → Contains keys (word (get_or keys at 0 / 2 ^ 32) x) → Contains part x)
    (only : (x : ℕ) → Contains part x → (x < 2 ^ 32) × Contains keys (word (get_or keys at 0 / 2 ^ 32) x)) where
  -- the items of the run's class still have its label
  still : (a : ℕ) → a < n → label_of old a ≡ from → label_of now a ≡ from
  still a la own = is.rest a la (λ i lt inside e. let low = is.cut.lower i at lt (omega arith) within in omega (arith, low, e, own, upper)) ∙ own

  back : (a : ℕ) → a < n → label_of now a ≡ from → label_of old a ≡ from
  back a la own =
      let head = told (get_or keys at 0) (has_at keys (get_or keys at 0) at within refl) in
      let x = get_or keys at 0 % 2 ^ 32 in
      let had : label_of old x ≡ from = head.1 ∙ sym upper in
      is.stands.goes.finer a x la head.0 (own ∙ sym (still x head.0 had)) ∙ had

  pub run_items : (a : ℕ) → Contains part a → (a < n) × (label_of now a ≡ from)
  run_items a has =
      let w = only a has in
      let fits = w.0 in
      let is_at = told (word (get_or keys at 0 / 2 ^ 32) a) w.1 in
      let low : word (get_or keys at 0 / 2 ^ 32) a % 2 ^ 32 ≡ a = omega (arith, fits) in
      let high : word (get_or keys at 0 / 2 ^ 32) a / 2 ^ 32 ≡ get_or keys at 0 / 2 ^ 32 = omega (arith, fits) in
      let la : a < n = omega (arith, is_at.0, low) in
      let own : label_of old a ≡ from = ap (label_of old) (sym low) ∙ is_at.1 ∙ high ∙ sym upper in
      (la, still a la own)

  in_part : (a : ℕ) → a < n → label_of old a ≡ from → Contains keys (word (label_of old a) a) → Contains part a
  in_part a la own has =
      let P : ℕ → Type 0 = λ l. Contains keys (word l a) in
      all a (omega (arith, la, few)) (subst P (own ∙ upper) has)

  in_keys : (a : ℕ) → label_of old a ≡ from → Contains part a → Contains keys (word (label_of old a) a)
  in_keys a own has =
      let P : ℕ → Type 0 = λ l. Contains keys (word l a) in
      subst P (sym (own ∙ upper)) (only a has).1

  pub under_next : Stands n now next t u → IsPartSplit n from part now.labels.items next.labels.items → IsUnderSplit n keys end old next s u
  under_next stands split = record {
    stands = stands_then n old now next s t u is.stands stands;
    cut = cut;
    apart = λ i a b lt inside la lb own e has.
        let e_now = stands.goes.finer a b la lb e in
        ⊎_elim
        (λ (early : i < at). is.apart i a b early inside la lb own e_now has)
        (λ (here : at ≤ i).
        let mine : label_of old a ≡ from = own ∙ same i here lt ∙ sym upper in
        let others : label_of old b ≡ from = sym (is.stands.goes.finer a b la lb e_now) ∙ mine in
        in_keys b others (split.apart a b la lb (still a la mine) e (in_part a la mine has)))
        (cases_lt i at);
    together = λ a b la lb there back2 e. split.together a b la lb
        (λ has. let ia = run_items a has in let oa = back a la ia.1 in in_part b lb (sym e ∙ oa) (there (in_keys a oa has)))
        (λ has. let ib = run_items b has in let ob = back b lb ib.1 in in_part a la (e ∙ ob) (back2 (in_keys b ob has)))
        (is.together a b la lb there back2 e);
    rest = λ a la other.
        let before = is.rest a la (λ i lt inside. other i (omega (arith, lt, more)) inside) in
        split.others a la (λ own. other at more within (sym upper ∙ sym own ∙ before)) ∙ before;
  }

apart_at : (n : ℕ) (keys : List ℕ) (at : ℕ) (old now : Classes) (s t : ℕ) → length keys ≤ at → n < 2 ^ 31 → IsUnderSplit n keys at old now s t → (a b : ℕ) → a < n → b < n →
    label_of now a ≡ label_of now b → Contains keys (word (label_of old a) a) → Contains keys (word (label_of old a) a) → Contains keys (word (label_of old b) b)
apart_at n keys at old now s t le few is a b la lb e listed has =
    let found = place_of keys (word (label_of old a) a) listed in
    let lt = found.within in
    let at_i = found.is in
    is.apart found.k a b (omega (arith, lt, le)) lt la lb (omega (arith, at_i, la, few)) e has

pub under_last : (n : ℕ) (keys : List ℕ) (at : ℕ) (old now : Classes) (s t : ℕ) → length keys ≤ at → n < 2 ^ 31 → IsUnderSplit n keys at old now s t →
    AreSplit n (λ a. Contains keys (word (label_of old a) a)) old.labels.items now.labels.items
under_last n keys at old now s t le few is = record {
  apart = λ a b la lb e has. apart_at n keys at old now s t le few is a b la lb e has has;
  together = is.together;
}

-- clauses speak of the number of labels, which is that of the items
pub kept_here : (n : ℕ) (c : Classes) → AreKept n c → AreKept (length c.labels.items) c
kept_here n c kept = let P : ℕ → Type 0 = λ k. AreKept k c in subst P (sym kept.wide) kept

pub stands_here : (n : ℕ) (c next : Classes) (t u : ℕ) → AreKept n c → Stands (length c.labels.items) c next t u → Stands n c next t u
stands_here n c next t u kept stands = let P : ℕ → Type 0 = λ k. Stands k c next t u in subst P kept.wide stands

pub part_here : (n from : ℕ) (part : List ℕ) (c : Classes) (new : List ℕ) → AreKept n c → IsPartSplit (length c.labels.items) from part c.labels.items new → IsPartSplit n from part c.labels.items new
part_here n from part c new kept split = let P : ℕ → Type 0 = λ k. IsPartSplit k from part c.labels.items new in subst P kept.wide split

pub split_here : (n : ℕ) (list : List ℕ) (c : Classes) (new : List ℕ) → AreKept n c → AreSplit (length c.labels.items) (λ a. Contains list a) c.labels.items new →
    AreSplit n (λ a. Contains list a) c.labels.items new
split_here n list c new kept split = let P : ℕ → Type 0 = λ k. AreSplit k (λ a. Contains list a) c.labels.items new in subst P kept.wide split

-- a change of what else is noted of classes
pub stands_from : (n : ℕ) (old mid new : Classes) (s t : ℕ) → Stands n mid new s t → mid.labels.items ≡ old.labels.items → mid.waits.items ≡ old.waits.items → mid.queue.items ≡ old.queue.items → Stands n old new s t
stands_from n old mid new s t stands labels waits queue =
    let G1 : List ℕ → Type 0 = λ l. GoesOn n l mid.waits.items mid.queue.items new.labels.items new.waits.items new.queue.items in
    let G2 : List Bool → Type 0 = λ l. GoesOn n old.labels.items l mid.queue.items new.labels.items new.waits.items new.queue.items in
    let G3 : List ℕ → Type 0 = λ l. GoesOn n old.labels.items old.waits.items l new.labels.items new.waits.items new.queue.items in
    let counted = ap (λ l. class_count l) labels in
    let steps = stands.steps in
    record { kept = stands.kept; goes = subst G3 queue (subst G2 waits (subst G1 labels stands.goes)); steps = omega (arith, steps, counted) }
