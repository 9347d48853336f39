-- Where items lead: to items.
use Rattle.std.proofs.Common.{◌≡◌, ℕ, ◌<◌, ◌≤◌, Option, Some, None, List, [], ◌∷◌, length, get_or, Contains, refl, sym, ap, ◌∙◌, inl, inr, arith}
use Rattle.std.specs.Prelude.{map}
use Rattle.std.proofs.lemmas.Bool.{cases_lt}
use Rattle.std.proofs.lemmas.Grind.{get_or_default_zero}
use Rattle.std.proofs.lemmas.List.{get_or-map, get_or_past, length-map}
use Rattle.lk_base.proofs.Membership.{from_flat}
use Rattle.link_sections.specs.declared.targets.Target.{Target}
use Rattle.link_sections.specs.declared.targets.Target.TheVariants.{Section, Piece, Number, Zero, Linker, Unbound}
use Rattle.link_sections.specs.FoldItems.{FoldItem, sections_of}
use Rattle.icf_part.specs.Folding.{item_at, no_item}
use Rattle.icf_part.specs.Signatures.{all_places, place_list, place_of, places, reloc_places, target_places}
use Rattle.icf_part.proofs.SectionPlaces.{place_tells}
use Rattle.icf_part.proofs.Targets.{sections_wide}

of_place : (sections : List ℕ) (section : ℕ) (p : Option ℕ) (x : ℕ) → place_of sections section ≡ p → Contains (place_list p) x → x < length sections
of_place sections section None x is (k, lt, e) = absurd (omega arith)
of_place sections section (Some a) x is (k, lt, e) =
    let first : k ≡ 0 = omega arith in
    let same : a ≡ x = ap (λ j. get_or (a ∷ []) j x) (sym first) ∙ e in
    omega (arith, same, (place_tells sections section a is).within)

of_target : (sections : List ℕ) (t : Option Target) (x : ℕ) → Contains (target_places sections t) x → x < length sections
of_target sections None x (k, lt, e) = absurd (omega arith)
of_target sections (Some (Number n)) x (k, lt, e) = absurd (omega arith)
of_target sections (Some Zero) x (k, lt, e) = absurd (omega arith)
of_target sections (Some (Linker n)) x (k, lt, e) = absurd (omega arith)
of_target sections (Some Unbound) x (k, lt, e) = absurd (omega arith)
of_target sections (Some (Section s o r)) x has = of_place sections s (place_of sections s) x refl has
of_target sections (Some (Piece m p o r)) x (k, lt, e) = absurd (omega arith)

of_item : (sections : List ℕ) (i : FoldItem) (x : ℕ) → Contains (places sections i) x → x < length sections
unfolding places
of_item sections i x has = let part = from_flat (reloc_places sections) i.relocs x has in of_target sections part.x.target x part.part

past_end : (items : List FoldItem) (a : ℕ) → length items ≤ a → length (get_or (all_places items) a []) ≡ 0
unfolding all_places
past_end items a le = ap length (get_or_past (map (places (sections_of items)) items) a [] (omega (arith, le, length-map items (places (sections_of items)))))

pub places_within : (items : List FoldItem) (a k : ℕ) → k < length (get_or (all_places items) a []) → get_or (get_or (all_places items) a []) k 0 < length items
unfolding all_places
places_within items a k lt = elim (cases_lt a (length items)) [
  | inl la ↦
      let secs = sections_of items in
      let is = get_or-map (places secs) items a no_item [] la in
      let row = places secs (item_at items a) in
      let wide : k < length row = omega (arith, lt, ap length is) in
      let inside = of_item secs (item_at items a) (get_or row k 0) (k, wide, get_or_default_zero row k (get_or row k 0) wide) in
      omega (arith, inside, sections_wide items, ap (λ l. get_or l k 0) is)
  | inr le ↦ absurd (omega (arith, lt, past_end items a le))
]
