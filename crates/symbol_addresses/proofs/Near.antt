-- The offset at which a symbol stands in a section is at most the greatest size of one.
use Rattle.std.proofs.Common.{◌≡◌, ℕ, ◌<◌, ◌≤◌, ◌==◌, ◌&&◌, Bool, true, false, List, length, refl, sym, ap, ◌∙◌, subst, arith, inl, inr, Some, None}
use Rattle.std.specs.Prelude.{Option, if◌then◌else◌}
use Rattle.std.proofs.lemmas.Bool.{and_parts, cases_lt, ltb-true}
use Rattle.std.proofs.lemmas.List.{get_or_past}
use Rattle.lk_base.specs.declared.abi.TheConstants.{NOBITS_MAX}
use Rattle.lk_tables.specs.declared.bounds.Bound.{Bound}
use Rattle.lk_tables.specs.declared.bounds.Bound.TheVariants.{InSection, Number, Linker, Nobody}
use Rattle.lk_tables.specs.declared.commons.BoundCommon.{BoundCommon}
use Rattle.lk_tables.specs.declared.heads.Place.{Place}
use Rattle.lk_tables.specs.declared.heads.Place.TheVariants.{Undef, Absolute, Common, Within}
use Rattle.lk_tables.specs.declared.heads.Symbol.{Symbol}
use Rattle.lk_tables.specs.declared.tables.Tables.{Tables}
use Rattle.lk_tables.specs.Binding.{Bindings}
use Rattle.lk_tables.specs.BoundNames.{IsBindingOf}
use Rattle.lk_tables.specs.Files.{File, IsSound, file_at, is_frame_at, is_section_symbol, no_section, no_symbol, section_at, section_no, symbol_at, writes}
use Rattle.lk_tables.specs.FixedSymbols.{frame_start_no}
use Rattle.lk_tables.specs.Inside.{IsHeadInside, IsLinked, IsPlaceWithin}
use Rattle.lk_tables.specs.TablesView.{files_of}
use Rattle.lk_tables.specs.Targets.{bound, defined_by, definition, offset_in, room_of}
use Rattle.lk_tables.proofs.BoundHas.{OfDefinitions, bound_has}
use Rattle.lk_tables.proofs.SoundFiles.{inside_body, inside_head, sound_file}

-- what stands in a section stands at such an offset
abbrev pub IsNear : Bound → Type 0
IsNear (InSection section offset) = offset ≤ NOBITS_MAX
IsNear (Number n) = Unit {0}
IsNear (Linker n) = Unit {0}
IsNear Nobody = Unit {0}

room_near : (o : Option BoundCommon) → IsNear (room_of o)
room_near None = tt
room_near (Some c) = omega arith

either_near : (d : Bool) (x y : Bound) → IsNear x → IsNear y → IsNear (if d then x else y)
either_near true x y one other = one
either_near false x y one other = other

written_near : (d start : Bool) (section offset value : ℕ) → (d ≡ true → offset ≤ NOBITS_MAX) →
    IsNear (if d then InSection section offset else (if start then Linker frame_start_no else Number value))
written_near true start section offset value near = near refl
written_near false true section offset value near = tt
written_near false false section offset value near = tt

offset_most : (d : Bool) (value : ℕ) → (if d then 0 else value) ≤ value
offset_most true value = omega arith
offset_most false value = omega arith

-- the value of a symbol of a sound file in a written section
value_near : (file : File) (i k : ℕ) → IsSound file → (symbol_at file i).place ≡ Within k → writes file k ≡ true → (symbol_at file i).value ≤ NOBITS_MAX
value_near file i k sound place written =
    elim (cases_lt i (length file.head.symbols)) [
      | inl lt ↦
          let head : IsHeadInside file.bytes file.head = inside_head file sound in
          let both = and_parts _ _ written in
          let low : 0 < k = ltb-true 0 k both.0 in
          let P : Place → Type 0 = λ p. IsPlaceWithin (length file.head.sections) p in
          let among : (0 < k) × (k < length file.head.sections) = subst P place (head.places i no_symbol lt) in
          let within : (symbol_at file i).value ≤ (section_at file k).size = head.values i no_symbol lt k no_section place both.1 in
          let linked : IsLinked (length file.head.sections) (section_at file k) = (inside_body file sound).linked k no_section among.1 low both.1 in
          omega (arith, within, linked.size)
      | inr le ↦
          let none : Undef ≡ Within k = sym (ap (λ (s : Symbol). s.place) (get_or_past file.head.symbols i no_symbol le)) ∙ place in
          let no : ⊥ = cc in absurd no
    ]

near_by : (files : List File) (b : Bindings) (f i : ℕ) (place : Place) → IsSound (file_at files f) → (symbol_at (file_at files f) i).place ≡ place →
    IsNear (defined_by files b place f i (symbol_at (file_at files f) i))
near_by files b f i Undef sound is = tt
near_by files b f i Absolute sound is = tt
near_by files b f i Common sound is = room_near _
near_by files b f i (Within k) sound is =
    let s = symbol_at (file_at files f) i in
    either_near _ Nobody _ tt
    (written_near (writes (file_at files f) k) (is_frame_at (file_at files f) k && s.value == 0) (section_no files f k) (offset_in s) s.value (λ written.
    omega (arith, offset_most (is_section_symbol s) s.value, value_near (file_at files f) i k sound is written)))

definitions_near : (tables : Tables) (b : Bindings) → OfDefinitions (files_of tables) b IsNear
unfolding definition
definitions_near tables b = λ f i lt live.
    let files = files_of tables in
    near_by files b f i (symbol_at (file_at files f) i).place (sound_file tables f live) refl

-- what a symbol of a live file is bound to
pub bound_near : (tables : Tables) (b : Bindings) (f i : ℕ) → IsBindingOf (files_of tables) b → f < length (files_of tables) → (file_at (files_of tables) f).live ≡ true →
    IsNear (bound (files_of tables) b f i)
bound_near tables b f i is lt live =
    bound_has (files_of tables) b IsNear f i is tables.few tt (λ name n has. tt) (definitions_near tables b) lt live
