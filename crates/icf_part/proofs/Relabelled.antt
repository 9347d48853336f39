-- Items of a list that get another label, item after item.
use Rattle.std.proofs.Common.{◌≡◌, ◌≢◌, ℕ, ◌+◌, ◌<◌, ◌==◌, ◌&&◌, ◌||◌, Bool, true, false, cond, List, [], length, get_or, set, take, refl, sym, subst, ap, ◌∙◌, ⊎_elim, inl, inr, arith}
use Rattle.std.specs.List.{list_any}
use Rattle.std.proofs.Math.Bool.{or-false}
use Rattle.std.proofs.lemmas.Bool.{cases_Bool, cases_eq, eq-eqb, eqb-false, eqb-true, ne_eqb}
use Rattle.std.proofs.lemmas.List.{get_or-set_other, get_or-set_same, length-set}
use Rattle.std.proofs.lemmas.List.Folds.{list_any_more}
use Rattle.icf_part.specs.Classes.{relabelled, size_of}
use Rattle.icf_part.specs.Counts.{how_many}
use Rattle.icf_part.proofs.Counting.{one_more}

abbrev size_from : List ℕ → ℕ → ℕ → ℕ
size_from labels label n = how_many (λ a. get_or labels a 0 == label) n

pick : (from to value : ℕ) (own any : Bool) → ℕ
pick from to value own any = cond (own && any) to value

picked : (part : List ℕ) (from to : ℕ) (labels : List ℕ) (a : ℕ) → relabelled part from to labels a ≡ pick from to (get_or labels a 0) (get_or labels a 0 == from) (list_any (λ b. b == a) part)
unfolding relabelled pick
picked part from to labels a = refl

none_picked : (from to value : ℕ) (own : Bool) → pick from to value own false ≡ value
unfolding pick
none_picked from to value true = refl
none_picked from to value false = refl

own_picked : (from to value : ℕ) (any : Bool) → pick from to value true (any || true) ≡ to
unfolding pick
own_picked from to value true = refl
own_picked from to value false = refl

-- one more item is asked for, which is another
pub record IsRelabelled (old part : List ℕ) (from to : ℕ) (now : List ℕ) (moved : ℕ) : Type 0 where
  pub wide : length now ≡ length old
  pub each : (a : ℕ) → a < length old → get_or now a 0 ≡ relabelled part from to old a
  pub less : size_of from now + moved ≡ size_of from old
  pub more : size_of to now ≡ size_of to old + moved

pub relabelled_first : (old part : List ℕ) (from to : ℕ) → IsRelabelled old (take 0 part) from to old 0
relabelled_first old part from to = record {
  wide = refl;
  each = λ a lt. sym (picked [] from to old a ∙ none_picked from to (get_or old a 0) (get_or old a 0 == from));
  less = omega arith;
  more = omega arith;
}

-- an item that still has the label had it, and was not asked for
still : (from to value : ℕ) → from ≢ to → (own any : Bool) → (value == from) ≡ own → pick from to value own any ≡ from → (own ≡ true) × (any ≡ false)
unfolding pick
still from to value apart true true e is = absurd (apart (sym is))
still from to value apart true false e is = (refl, refl)
still from to value apart false any e is = absurd (eqb-false value from e is)

other_picked : (from to value : ℕ) (own any : Bool) → (value == from) ≡ own → (pick from to value own any ≡ from → ⊥) → pick from to value own any ≡ pick from to value own (any || true)
unfolding pick
other_picked from to value true true e isnt = refl
other_picked from to value true false e isnt = absurd (isnt (eqb-true value from e))
other_picked from to value false true e isnt = refl
other_picked from to value false false e isnt = refl

module _ (old part : List ℕ) (from to i : ℕ) (apart : from ≢ to) (lt : i < length part) (within : get_or part i 0 < length old) where
  next_picked : (a : ℕ) (b : Bool) → (get_or part i 0 == a) ≡ b →
      relabelled (take (i + 1) part) from to old a ≡ pick from to (get_or old a 0) (get_or old a 0 == from) (list_any (λ c. c == a) (take i part) || b)
  next_picked a b e =
      picked (take (i + 1) part) from to old a
      ∙ ap (λ any. pick from to (get_or old a 0) (get_or old a 0 == from) any) (list_any_more (λ c. c == a) part i 0 lt ∙ ap (λ x. list_any (λ c. c == a) (take i part) || x) e)

  other_item : (now : List ℕ) (moved a : ℕ) → IsRelabelled old (take i part) from to now moved → a < length old → get_or part i 0 ≢ a →
      get_or now a 0 ≡ relabelled (take (i + 1) part) from to old a
  other_item now moved a is la other =
      is.each a la ∙ picked (take i part) from to old a
      ∙ ap (λ any. pick from to (get_or old a 0) (get_or old a 0 == from) any) (sym (or-false (list_any (λ c. c == a) (take i part))))
      ∙ sym (next_picked a false (ne_eqb (get_or part i 0) a other))

  -- it has the label
  moves : (now : List ℕ) (moved : ℕ) → IsRelabelled old (take i part) from to now moved → get_or now (get_or part i 0) 0 ≡ from →
      IsRelabelled old (take (i + 1) part) from to (set now (get_or part i 0) to) (moved + 1)
  moves now moved is has =
      let x = get_or part i 0 in
      let wide = is.wide in
      let lx : x < length now = omega (arith, within, wide) in
      let any : Bool = list_any (λ c. c == x) (take i part) in
      let kept = still from to (get_or old x 0) apart (get_or old x 0 == from) any refl (sym (picked (take i part) from to old x) ∙ sym (is.each x within) ∙ has) in
      let own = get_or-set_same now x to 0 lx in
      let others : (k : ℕ) → k ≢ x → get_or (set now x to) k 0 ≡ get_or now k 0 = λ k other. get_or-set_other now x k to 0 other in
      let long = length-set now x to in
      let count_from = one_more (λ a. get_or (set now x to) a 0 == from) (λ a. get_or now a 0 == from) x (length now) lx
      (ne_eqb (get_or (set now x to) x 0) from (λ e. apart (sym e ∙ own))) (eq-eqb (get_or now x 0) from has) (λ k lk other. ap (λ v. v == from) (others k other)) in
      let count_to = one_more (λ a. get_or now a 0 == to) (λ a. get_or (set now x to) a 0 == to) x (length now) lx
      (ne_eqb (get_or now x 0) to (λ e. apart (sym has ∙ e))) (eq-eqb (get_or (set now x to) x 0) to own) (λ k lk other. ap (λ v. v == to) (sym (others k other))) in
      let f = ap (λ n. size_from (set now x to) from n) long in
      let t = ap (λ n. size_from (set now x to) to n) long in
      let less = is.less in
      let more = is.more in
      record {
        wide = long ∙ wide;
        each = λ a la. ⊎_elim
            (λ (here : a ≡ x).
            ap (λ k. get_or (set now x to) k 0) here ∙ own
            ∙ sym (own_picked from to (get_or old x 0) any)
            ∙ ap (λ o. pick from to (get_or old x 0) o (any || true)) (sym kept.0)
            ∙ sym (next_picked x true (eq-eqb x x refl)) ∙ ap (relabelled (take (i + 1) part) from to old) (sym here))
            (λ (other : a ≢ x). others a other ∙ other_item now moved a is la (λ e. other (sym e)))
            (cases_eq a x);
        less = omega (arith, count_from, f, less);
        more = omega (arith, count_to, t, more);
      }

  -- it has another
  stays : (now : List ℕ) (moved : ℕ) → IsRelabelled old (take i part) from to now moved → (get_or now (get_or part i 0) 0 ≡ from → ⊥) →
      IsRelabelled old (take (i + 1) part) from to now moved
  stays now moved is isnt =
      let x = get_or part i 0 in
      let any : Bool = list_any (λ c. c == x) (take i part) in
      record {
        wide = is.wide;
        each = λ a la. ⊎_elim
            (λ (here : a ≡ x).
            let e = is.each x within ∙ picked (take i part) from to old x in
            ap (λ k. get_or now k 0) here ∙ e
            ∙ other_picked from to (get_or old x 0) (get_or old x 0 == from) any refl (λ same. isnt (e ∙ same))
            ∙ sym (next_picked x true (eq-eqb x x refl)) ∙ ap (relabelled (take (i + 1) part) from to old) (sym here))
            (λ (other : a ≢ x). other_item now moved a is la (λ e. other (sym e)))
            (cases_eq a x);
        less = is.less;
        more = is.more;
      }

  pub relabelled_next : (now new : List ℕ) (moved one : ℕ) → IsRelabelled old (take i part) from to now moved →
      new ≡ cond (get_or now (get_or part i 0) 0 == from) (set now (get_or part i 0) to) now → one ≡ cond (get_or now (get_or part i 0) 0 == from) 1 0 →
      IsRelabelled old (take (i + 1) part) from to new (moved + one)
  relabelled_next now new moved one is news ones =
      let x = get_or part i 0 in
      let Next : List ℕ → ℕ → Type 0 = λ l m. IsRelabelled old (take (i + 1) part) from to l m in
      elim (cases_Bool (get_or now x 0 == from)) [
        | inl has ↦
            let eone : one ≡ 1 = ones ∙ ap (λ (b : Bool). cond b 1 0) has in
            let enew : new ≡ set now x to = news ∙ ap (λ (b : Bool). cond b (set now x to) now) has in
            let m : moved + 1 ≡ moved + one = omega (arith, eone) in
            let P : List ℕ → Type 0 = λ l. Next l (moved + one) in
            subst P (sym enew) (let Q : ℕ → Type 0 = λ k. Next (set now x to) k in subst Q m (moves now moved is (eqb-true (get_or now x 0) from has)))
        | inr not_it ↦
            let eone : one ≡ 0 = ones ∙ ap (λ (b : Bool). cond b 1 0) not_it in
            let enew : new ≡ now = news ∙ ap (λ (b : Bool). cond b (set now x to) now) not_it in
            let m : moved ≡ moved + one = omega (arith, eone) in
            let P : List ℕ → Type 0 = λ l. Next l (moved + one) in
            subst P (sym enew) (let Q : ℕ → Type 0 = λ k. Next now k in subst Q m (stays now moved is (eqb-false (get_or now x 0) from not_it)))
      ]
