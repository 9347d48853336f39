-- Kinds whose places take every value: of their relocations there is nothing to test.
use Rattle.std.proofs.Common.{◌≡◌, ℕ, ◌==◌, ◌&&◌, ◌||◌, not, Bool, true, false, Option, List, [], ◌∷◌, refl, sym, ap, ◌∙◌}
use Rattle.std.specs.Prelude.{ℤ, None, Some, pos, is_some, if◌then◌else◌}
use Rattle.std.specs.List.{list_all}
use Rattle.std.proofs.lemmas.Bool.{and_parts, eqb-true}
use Rattle.lk_base.specs.Reaches.{Reach, any, from_to, even_from_to}
use Rattle.lk_base.specs.RelocKinds.{is_among, is_lower, is_uleb, kind_of}
use Rattle.lk_base.specs.declared.kinds.TheConstants as kinds
use Rattle.lk_tables.specs.declared.objects.Reloc.{Reloc}
use Rattle.lk_tables.specs.declared.section_places.SectionPlace.{SectionPlace}
use Rattle.lk_tables.specs.Binding.{Bindings}
use Rattle.lk_tables.specs.Files.{File}
use Rattle.lk_tables.specs.Sites as sites
use Rattle.lk_tables.specs.Walks.{reloc_defect}
use Rattle.lk_tables.specs.Misfits.{value_defects}
use Rattle.link_sections.specs.Calls.{acting_kind, acting_number, call_size, is_call, kind_by_size}
use Rattle.link_sections.specs.Cuts.{Cut}
use Rattle.link_sections.specs.LaidOut.{LaidOut, cuts_at}
use Rattle.reloc_apply.specs.Relocated.{operand, reach_in, reloc_defects, width_at}
use Rattle.reloc_apply.specs.Sites.{every_kinds, takes_every}
use Rattle.reloc_apply.specs.Values.{partner_of, value_of}

abbrev is_any : Reach → Bool
is_any any = true
is_any (from_to low high) = false
is_any (even_from_to low high) = false

any_is : (q : Reach) → is_any q ≡ true → q ≡ any
any_is any is = refl
any_is (from_to low high) is = let no : ⊥ = cc in absurd no
any_is (even_from_to low high) is = let no : ⊥ = cc in absurd no

-- of a kind
abbrev is_free : ℕ → Bool
is_free n = not (is_lower n) && (not (is_uleb n) && (not (is_call n) && is_any (kind_of n).reach))

all_free : list_all is_free every_kinds ≡ true
unfolding is_lower is_uleb is_call kind_of
all_free = refl

among_free : (ns : List ℕ) (n : ℕ) → is_among ns n ≡ true → list_all is_free ns ≡ true → is_free n ≡ true
among_free [] n is all = let no : ⊥ = cc in absurd no
among_free (m ∷ ms) n is all =
    let both = and_parts (is_free m) (list_all is_free ms) all in
    go (m == n) refl is both.0 (λ rest. among_free ms n rest both.1)
  where
    go : (t : Bool) → (m == n) ≡ t → (t || is_among ms n) ≡ true → is_free m ≡ true → (is_among ms n ≡ true → is_free n ≡ true) → is_free n ≡ true
    go true same is one rest = ap is_free (sym (eqb-true m n same)) ∙ one
    go false same is one rest = rest is

free_is : (n : ℕ) → takes_every n ≡ true → is_free n ≡ true
unfolding takes_every
free_is n is = among_free every_kinds n is all_free

off_is : (b : Bool) → not b ≡ true → b ≡ false
off_is true is = cc
off_is false is = refl

-- a value of any size has no defect
none_wrong : (place : SectionPlace) (r : Reloc) (v : Option ℤ) → value_defects place r any v ≡ []
none_wrong place r None = refl
none_wrong place r (Some v) = refl

reach_free : (cuts : List Cut) (r : Reloc) (width : ℕ) → is_uleb r.kind ≡ false → is_call r.kind ≡ false → is_any (kind_of r.kind).reach ≡ true →
    reach_in (is_uleb r.kind) (acting_kind cuts r) width ≡ any
unfolding acting_number
reach_free cuts r width uleb call free =
    ap (λ u. reach_in u (acting_kind cuts r) width) uleb
    ∙ ap (λ t. (kind_of (if t then kind_by_size (call_size cuts r.offset) r.kind else r.kind)).reach) call
    ∙ any_is (kind_of r.kind).reach free

module _ (files : List File) (b : Bindings) (leaders : List (Option ℕ)) (laid : LaidOut) (n : ℕ) (r : Reloc) (is : takes_every r.kind ≡ true) where
  pub every_defects : (p : Reloc) → reloc_defects files b leaders laid n p r ≡ []
  unfolding reloc_defects
  every_defects p =
      let place = sites.place_of files n in
      let width = width_at files b leaders laid n r in
      let reach = reach_in (is_uleb r.kind) (acting_kind (cuts_at laid n) r) width in
      let value = value_of files b leaders laid n r (operand files b leaders laid n p r (pos 0)) in
      let one = and_parts (not (is_lower r.kind)) (not (is_uleb r.kind) && (not (is_call r.kind) && is_any (kind_of r.kind).reach)) (free_is r.kind is) in
      let two = and_parts (not (is_uleb r.kind)) (not (is_call r.kind) && is_any (kind_of r.kind).reach) one.1 in
      let three = and_parts (not (is_call r.kind)) (is_any (kind_of r.kind).reach) two.1 in
      ap (λ t. if t && not (is_some (partner_of files b leaders laid n r)) then reloc_defect kinds.NO_PARTNER place.file place.index r 0 ∷ [] else value_defects place r reach value) (off_is (is_lower r.kind) one.0)
      ∙ ap (λ q. value_defects place r q value) (reach_free (cuts_at laid n) r width (off_is (is_uleb r.kind) two.0) (off_is (is_call r.kind) three.0) three.1)
      ∙ none_wrong place r value
