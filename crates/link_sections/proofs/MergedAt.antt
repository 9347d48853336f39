-- What is merged, by section number, in its plain form.
use Rattle.std.proofs.Common.{◌≡◌, ℕ, zero, suc, Option, Some, None, List, [], ◌∷◌, length, get_or, is_some, refl, sym, ap, ◌∙◌, subst, arith, inl, inr}
use Rattle.std.specs.Prelude.{All, option_map, slice_index_or}
use Rattle.std.proofs.lemmas.Bool.{cases_lt}
use Rattle.std.proofs.lemmas.List.{get_or_past}
use Rattle.link_sections.specs.declared.pieces.Merged.{Merged as HeldMerged}
use Rattle.link_sections.specs.declared.pieces.Part.{Part}
use Rattle.link_sections.specs.PoolViews.{is_merged, merged_at, merged_by, merged_view}
use Rattle.link_sections.specs.Pools.{AreInOrder}

pub merged_is : (rows : List (List Part)) (list : List (Option HeldMerged)) (n : ℕ) →
    merged_at (merged_by rows list) n ≡ option_map (merged_view rows) (slice_index_or list n None)
unfolding merged_by
merged_is rows [] n = refl
merged_is rows (m ∷ list) zero = refl
merged_is rows (m ∷ list) (suc n) = merged_is rows list n

pub some_map : {X Y : Type 0} (f : X → Y) (x : Option X) → is_some (option_map f x) ≡ is_some x
some_map f None = refl
some_map f (Some x) = refl

pub is_merged_by : (rows : List (List Part)) (list : List (Option HeldMerged)) (n : ℕ) →
    is_merged (merged_by rows list) n ≡ is_some (slice_index_or list n None)
is_merged_by rows list n = ap is_some (merged_is rows list n) ∙ some_map (merged_view rows) (slice_index_or list n None)

none_in_order : AreInOrder []
none_in_order = λ i j d le lt. absurd (omega arith)

-- the parts of each list, and of one past the last
pub parts_in : (rows : List (List Part)) (n : ℕ) → All AreInOrder rows → AreInOrder (get_or rows n [])
parts_in rows n all = elim (cases_lt n (length rows)) [
  | inl lt ↦ all n [] lt
  | inr past ↦ let P : List Part → Type 0 = AreInOrder in subst P (sym (get_or_past rows n [] past)) none_in_order
]
