-- A class of which some items get a new label is two classes.
use Rattle.std.proofs.Common.{◌≡◌, ◌≢◌, ◌⊎◌, ℕ, zero, suc, ◌+◌, ◌<◌, ◌≤◌, ◌==◌, ◌&&◌, ◌||◌, Bool, true, false, cond, not, List, [], ◌∷◌, length, get_or, refl, sym, ap, ◌∙◌, ⊎_elim, arith}
use Rattle.std.specs.List.{list_any, range_with_len}
use Rattle.std.proofs.Math.Bool.{or-false}
use Rattle.std.proofs.lemmas.Bool.{cases_eq, eq-eqb, ne_eqb}
use Rattle.std.proofs.lemmas.List.Folds.{list_any-append}
use Rattle.lk_base.proofs.Loops.{range_more}
use Rattle.icf_part.specs.Classes.{class_count}
use Rattle.icf_part.specs.Counts.{how_many, is_new}
use Rattle.icf_part.proofs.Counting.{any_same, any_below, more, none, one_if}

or_true : (b : Bool) → (b || true) ≡ true
or_true true = refl
or_true false = refl

abbrev upto : (ℕ → Bool) → ℕ → Bool
upto p n = list_any p (range_with_len 0 n)

one_any : (p : ℕ → Bool) (n : ℕ) → list_any p (n ∷ []) ≡ p n
one_any p n = or-false (p n)

any_next : (p : ℕ → Bool) (n : ℕ) → upto p (n + 1) ≡ (upto p n || p n)
any_next p n = ap (list_any p) (range_more n) ∙ list_any-append p (range_with_len 0 n) (n ∷ []) ∙ ap (λ b. upto p n || b) (one_any p n)

or_of : (a b c d : Bool) → ((a || c) || (b || d)) ≡ ((a || b) || (c || d))
or_of true b c d = refl
or_of false true c d = or_true c
or_of false false c d = refl

any_or : (p q : ℕ → Bool) (n : ℕ) → upto (λ k. p k || q k) n ≡ (upto p n || upto q n)
any_or p q zero = refl
any_or p q (suc n) =
    let e : suc n ≡ n + 1 = omega arith in
    ap (upto (λ k. p k || q k)) e ∙ any_next (λ k. p k || q k) n ∙ ap (λ b. b || (p n || q n)) (any_or p q n)
    ∙ or_of (upto p n) (p n) (upto q n) (q n) ∙ sym (ap (λ k. upto p k || upto q k) e ∙ ap (λ b. b || upto q (n + 1)) (any_next p n) ∙ ap (λ b. (upto p n || p n) || b) (any_next q n))

one_goes : (p q : Bool) → cond (p && q) 1 0 + cond (not p) 1 0 ≡ cond (not (p || q)) 1 0 + cond ((p || true) && (q || false)) 1 0
one_goes true true = refl
one_goes true false = refl
one_goes false true = refl
one_goes false false = refl

two_goes : (p q : Bool) → cond (p && q) 1 0 + cond (not q) 1 0 ≡ cond (not (p || q)) 1 0 + cond ((p || false) && (q || true)) 1 0
two_goes true true = refl
two_goes true false = refl
two_goes false true = refl
two_goes false false = refl

none_goes : (p q : Bool) → one_if (p && q) ≡ one_if ((p || false) && (q || false))
none_goes true true = refl
none_goes true false = refl
none_goes false true = refl
none_goes false false = refl

-- the labels before and after
pub record IsParted (old new : List ℕ) (from to : ℕ) : Type 0 where
  pub wide : length new ≡ length old
  pub own : (a : ℕ) → a < length old → get_or old a 0 ≡ from → (get_or new a 0 ≡ from) ⊎ (get_or new a 0 ≡ to)
  pub others : (a : ℕ) → a < length old → get_or old a 0 ≢ from → get_or new a 0 ≡ get_or old a 0
  pub fresh : (a : ℕ) → a < length old → get_or old a 0 ≢ to
  pub apart : from ≢ to

module _ (old new : List ℕ) (from to : ℕ) (is : IsParted old new from to) where
  abbrev stay : ℕ → Bool
  stay b = get_or new b 0 == from

  abbrev go : ℕ → Bool
  go b = get_or new b 0 == to

  abbrev new_at : List ℕ → ℕ → Bool
  new_at l = is_new (λ b a. get_or l b 0 == get_or l a 0)

  -- of the class, one or the other
  either_is : (b : ℕ) → b < length old → (get_or old b 0 == from) ≡ (stay b || go b)
  either_is b lt = ⊎_elim
      (λ (e : get_or old b 0 ≡ from). eq-eqb (get_or old b 0) from e ∙ sym (⊎_elim
      (λ (s : get_or new b 0 ≡ from). ap (λ x. x || go b) (eq-eqb (get_or new b 0) from s))
      (λ (g : get_or new b 0 ≡ to). ap (λ x. stay b || x) (eq-eqb (get_or new b 0) to g) ∙ or_true (stay b))
      (is.own b lt e)))
      (λ (isnt : get_or old b 0 ≢ from).
      let kept = is.others b lt isnt in
      ne_eqb (get_or old b 0) from isnt
      ∙ sym (ap (λ x. x || go b) (ne_eqb (get_or new b 0) from (λ s. isnt (sym kept ∙ s))) ∙ ne_eqb (get_or new b 0) to (λ g. is.fresh b lt (sym kept ∙ g))))
      (cases_eq (get_or old b 0) from)

  abbrev both : ℕ → ℕ
  both n = cond (upto stay n && upto go n) 1 0

  old_new : (n : ℕ) → n < length old → get_or old n 0 ≡ from → new_at old n ≡ not (upto stay n || upto go n)
  old_new n lt e =
      ap not (any_same (λ b. get_or old b 0 == get_or old n 0) (λ b. stay b || go b) n (λ b lb. ap (λ k. get_or old b 0 == k) e ∙ either_is b (omega (arith, lb, lt))) ∙ any_or stay go n)

  other_new : (n : ℕ) → n < length old → get_or old n 0 ≢ from → new_at old n ≡ new_at new n
  other_new n lt isnt =
      let kept = is.others n lt isnt in
      ap not (any_same (λ b. get_or old b 0 == get_or old n 0) (λ b. get_or new b 0 == get_or new n 0) n (λ b lb.
      let inside : b < length old = omega (arith, lb, lt) in
      ⊎_elim
      (λ (e : get_or old b 0 ≡ from).
      ne_eqb (get_or old b 0) (get_or old n 0) (λ s. isnt (sym s ∙ e))
      ∙ sym (ne_eqb (get_or new b 0) (get_or new n 0) (λ s. ⊎_elim
      (λ (stays : get_or new b 0 ≡ from). isnt (sym kept ∙ sym s ∙ stays))
      (λ (goes : get_or new b 0 ≡ to). is.fresh n lt (sym kept ∙ sym s ∙ goes))
      (is.own b inside e))))
      (λ (other : get_or old b 0 ≢ from). ap (λ k. k == get_or old n 0) (sym (is.others b inside other)) ∙ ap (λ k. get_or new b 0 == k) (sym kept))
      (cases_eq (get_or old b 0) from)))

  counts : (n : ℕ) → n ≤ length old → how_many (new_at new) n ≡ how_many (new_at old) n + both n
  counts zero le = none (new_at new) ∙ sym (omega (arith, none (new_at old)))
  counts (suc n) le =
      let lt : n < length old = omega (arith, le) in
      let e : suc n ≡ n + 1 = omega arith in
      let before = counts n (omega (arith, le)) in
      let one = more (new_at new) n in
      let two = more (new_at old) n in
      let goes_on = ap (λ k. how_many (new_at new) k) e in
      let went_on = ap (λ k. how_many (new_at old) k) e in
      let next_both : both (suc n) ≡ cond ((upto stay n || stay n) && (upto go n || go n)) 1 0 =
      ap both e ∙ ap (λ b. one_if (b && upto go (n + 1))) (any_next stay n) ∙ ap (λ b. one_if ((upto stay n || stay n) && b)) (any_next go n) in
      ⊎_elim
      (λ (e : get_or old n 0 ≡ from). ⊎_elim
      (λ (s : get_or new n 0 ≡ from).
      let is_stay = eq-eqb (get_or new n 0) from s in
      let isnt_go = ne_eqb (get_or new n 0) to (λ g. is.apart (sym s ∙ g)) in
      let news : new_at new n ≡ not (upto stay n) = ap (λ k. not (upto (λ b. get_or new b 0 == k) n)) s in
      let a = ap one_if news in
      let b = ap one_if (old_new n lt e) in
      let c = next_both ∙ ap (λ b. one_if ((upto stay n || b) && (upto go n || go n))) is_stay ∙ ap (λ b. one_if ((upto stay n || true) && (upto go n || b))) isnt_go in
      omega (arith, before, one, two, goes_on, went_on, a, b, c, one_goes (upto stay n) (upto go n)))
      (λ (g : get_or new n 0 ≡ to).
      let is_go = eq-eqb (get_or new n 0) to g in
      let isnt_stay = ne_eqb (get_or new n 0) from (λ s. is.apart (sym s ∙ g)) in
      let news : new_at new n ≡ not (upto go n) = ap (λ k. not (upto (λ b. get_or new b 0 == k) n)) g in
      let a = ap one_if news in
      let b = ap one_if (old_new n lt e) in
      let c = next_both ∙ ap (λ b. one_if ((upto stay n || b) && (upto go n || go n))) isnt_stay ∙ ap (λ b. one_if ((upto stay n || false) && (upto go n || b))) is_go in
      omega (arith, before, one, two, goes_on, went_on, a, b, c, two_goes (upto stay n) (upto go n)))
      (is.own n lt e))
      (λ (isnt : get_or old n 0 ≢ from).
      let kept = is.others n lt isnt in
      let isnt_stay = ne_eqb (get_or new n 0) from (λ s. isnt (sym kept ∙ s)) in
      let isnt_go = ne_eqb (get_or new n 0) to (λ g. is.fresh n lt (sym kept ∙ g)) in
      let a = ap one_if (other_new n lt isnt) in
      let c = next_both ∙ ap (λ b. one_if ((upto stay n || b) && (upto go n || go n))) isnt_stay ∙ ap (λ b. one_if ((upto stay n || false) && (upto go n || b))) isnt_go in
      omega (arith, before, one, two, goes_on, went_on, a, c, none_goes (upto stay n) (upto go n)))
      (cases_eq (get_or old n 0) from)

  pub one_class_more : (p q : ℕ) → p < length old → q < length old → get_or new p 0 ≡ from → get_or new q 0 ≡ to → class_count new ≡ class_count old + 1
  one_class_more p q lp lq s g =
      let n = length old in
      let a = any_below stay n p lp (eq-eqb (get_or new p 0) from s) in
      let b = any_below go n q lq (eq-eqb (get_or new q 0) to g) in
      let c : both n ≡ 1 = ap (λ x. one_if (x && upto go n)) a ∙ ap (λ (x : Bool). one_if x) b in
      let wide = ap (how_many (new_at new)) is.wide in
      omega (arith, wide, counts n (omega arith), c)
