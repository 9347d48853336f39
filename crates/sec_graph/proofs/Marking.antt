-- Marks that are set by a list of numbers.
use Rattle.std.proofs.Common.{◌≡◌, ℕ, ◌+◌, ◌-◌, ◌<◌, ◌≤◌, ◌==◌, ◌||◌, Bool, true, false, List, [], ◌∷◌, ◌++◌, length, get_or, set, map, replicate, drop, flat_map, inl, inr, refl, sym, ap, ◌∙◌, subst, arith}
use Rattle.std.specs.List.{list_any, range_with_len}
use Rattle.std.proofs.lemmas.Bool.{cases_eq, eq-eqb, ne_eqb}
use Rattle.std.proofs.lemmas.List.{at_drop_more, get_or-replicate, get_or-set_other, get_or-set_same, length-replicate, length-set}
use Rattle.std.proofs.lemmas.List.FromFn.{fill_by_all}
use Rattle.lk_base.proofs.Loops.{rest_end, rest_step}
use Rattle.lk_tables.specs.Reach.{with_marked}
use Rattle.lk_tables.proofs.Marking.{length_marked, marked_append}

or_true : (b : Bool) → (b || true) ≡ true
or_true true = refl
or_true false = refl

-- a place is marked where the list has it, or was before
pub marked_at : (marks : List Bool) (ns : List ℕ) (k : ℕ) → k < length marks →
    get_or (with_marked marks ns) k false ≡ (list_any (λ n. n == k) ns || get_or marks k false)
marked_at marks [] k lt = refl
marked_at marks (n ∷ ns) k lt =
    let later = marked_at (set marks n true) ns k (omega (arith, length-set marks n true)) in
    let any = list_any (λ m. m == k) ns in
    elim (cases_eq n k) [
      | inl same ↦
          let now : get_or (set marks n true) k false ≡ true =
          subst (λ m. get_or (set marks n true) m false ≡ true) same (get_or-set_same marks n true false (omega (arith, same))) in
          let on : (n == k) ≡ true = eq-eqb n k same in
          later ∙ ap (λ b. any || b) now ∙ or_true any ∙ sym (ap (λ b. (b || any) || get_or marks k false) on)
      | inr other ↦
          let off : (n == k) ≡ false = ne_eqb n k other in
          later ∙ ap (λ b. any || b) (get_or-set_other marks n k true false (λ e. other (sym e))) ∙ sym (ap (λ b. (b || any) || get_or marks k false) off)
    ]

-- marks over none are those of the list
pub marked_none : (n : ℕ) (ns : List ℕ) (marks : List Bool) → marks ≡ replicate n false →
    with_marked marks ns ≡ map (λ k. list_any (λ m. m == k) ns) (range_with_len 0 n)
marked_none n ns marks none =
    ap (λ m. with_marked m ns) none
    ∙ fill_by_all (λ k. list_any (λ m. m == k) ns) (with_marked (replicate n false) ns) n false
    (length_marked (replicate n false) ns ∙ length-replicate n false)
    (λ k lt.
    marked_at (replicate n false) ns k (omega (arith, length-replicate {A = Bool} n false))
    ∙ ap (λ b. list_any (λ m. m == k) ns || b) (get_or-replicate n k false false lt) ∙ or_false (list_any (λ m. m == k) ns))
  where
    or_false : (b : Bool) → (b || false) ≡ b
    or_false true = refl
    or_false false = refl

-- a loop that marks what each of a list gives, one element on
pub marks_item : {X : Type 0} (give : X → List ℕ) (xs : List X) (i : ℕ) (d : X) (now new whole : List Bool) → i < length xs →
    with_marked now (flat_map give (drop i xs)) ≡ whole → new ≡ with_marked now (give (get_or xs i d)) →
    with_marked new (flat_map give (drop (i + 1) xs)) ≡ whole
marks_item give xs i d now new whole lt held is =
    ap (λ m. with_marked m (flat_map give (drop (i + 1) xs))) is
    ∙ sym (marked_append now (give (get_or xs i d)) (flat_map give (drop (i + 1) xs)))
    ∙ sym (at_drop_more (λ l. with_marked now (flat_map give l)) xs i d lt) ∙ held

pub marks_step : (give : ℕ → List ℕ) (i n : ℕ) (now new whole : List Bool) → i < n →
    with_marked now (flat_map give (range_with_len i (n - i))) ≡ whole → new ≡ with_marked now (give i) →
    with_marked new (flat_map give (range_with_len (i + 1) (n - (i + 1)))) ≡ whole
marks_step give i n now new whole lt held is =
    ap (λ m. with_marked m (flat_map give (range_with_len (i + 1) (n - (i + 1))))) is
    ∙ sym (marked_append now (give i) (flat_map give (range_with_len (i + 1) (n - (i + 1)))))
    ∙ ap (with_marked now) (sym (rest_step give i n lt)) ∙ held

pub marks_end : (give : ℕ → List ℕ) (i n : ℕ) (now whole : List Bool) → n ≤ i →
    with_marked now (flat_map give (range_with_len i (n - i))) ≡ whole → now ≡ whole
marks_end give i n now whole le held = sym (ap (with_marked now) (rest_end give i n le)) ∙ held
