-- S + A by a relocation's target is the symbol's address and the addend, unless the symbol is a SECTION symbol and the addend is not 0. Only
-- symbols of files that take part have addresses.
use Rattle.std.proofs.Common.{◌≡◌, ℕ, ◌<◌, ◌==◌, ◌&&◌, Bool, true, false, List, [], ◌∷◌, refl, sym, subst, ap, ◌∙◌, ℤ, pos, ◌+ℤ◌, ◌-ℤ◌, Option, Some, None, arith, inl, inr}
use Rattle.std.specs.Prelude.{if◌then◌else◌, find, not}
use Rattle.std.proofs.lemmas.Bool.{and_parts, cases_Bool, cond-true, le-leb}
use Rattle.lk_base.specs.RelocKinds.{goes_by_got}
use Rattle.lk_base.specs.declared.abi.TheConstants.{STB_LOCAL, STB_WEAK, STT_SECTION}
use Rattle.lk_tables.specs.declared.bounds.Bound.{Bound}
use Rattle.lk_tables.specs.declared.bounds.Bound.TheVariants.{InSection, Number, Linker, Nobody}
use Rattle.lk_tables.specs.declared.bounds.Spot.TheVariants as spots
use Rattle.lk_tables.specs.declared.commons.BoundCommon.{BoundCommon}
use Rattle.lk_tables.specs.declared.heads.Place.{Place}
use Rattle.lk_tables.specs.declared.heads.Place.TheVariants.{Undef, Absolute, Common, Within}
use Rattle.lk_tables.specs.declared.heads.Symbol.{Symbol}
use Rattle.lk_tables.specs.declared.objects.Reloc.{Reloc}
use Rattle.lk_tables.specs.declared.section_places.SectionPlace.{SectionPlace}
use Rattle.lk_tables.specs.Binding.{Bindings, is_discarded}
use Rattle.lk_tables.specs.Files.{File, file_at, is_frame_at, is_section_symbol, section_no, symbol_at, symbol_no, writes}
use Rattle.lk_tables.specs.FixedSymbols.{frame_start_no}
use Rattle.lk_tables.specs.Sites.{IsPlaceOf}
use Rattle.lk_tables.specs.Targets.{bound, bound_by, clamped, commons_at, defined_by, definition, offset_in, rank_at, room_of, size_of, spot_by, spot_of, unwritten}
use Rattle.lk_tables.proofs.BoundHas.{either}
use Rattle.link_sections.specs.declared.targets.Target.{Target}
use Rattle.link_sections.specs.declared.targets.Target.TheVariants as targets
use Rattle.link_sections.specs.Addresses.{address_of, byte_address, linker_address, symbol_address, target_address}
use Rattle.link_sections.specs.LaidOut.{LaidOut}
use Rattle.link_sections.specs.PieceTargets.{in_section, piece_target}
use Rattle.link_sections.specs.PoolViews.{Merged, merged_at}
use Rattle.link_sections.specs.Sums.{addend_of}

-- a file that has a section with a number takes part
live_if : (live : Bool) (k count : ℕ) → k < (if live then count else 0) → live ≡ true
live_if true k count lt = refl
live_if false k count lt = absurd (omega (arith, lt))

pub live_place : (files : List File) (n : ℕ) (place : SectionPlace) → IsPlaceOf files n place → (file_at files place.file).live ≡ true
live_place files n place law = live_if (file_at files place.file).live place.index _ law.index

-- a SECTION symbol stands at the start of its section, which is the byte that an addend of 0 chooses
abbrev IsStart : Bound → Type 0
IsStart (InSection section offset) = offset ≡ 0
IsStart (Number n) = Unit {0}
IsStart (Linker n) = Unit {0}
IsStart Nobody = Unit {0}

room_start : (p : BoundCommon → Bool) (cs : List BoundCommon) → IsStart (room_of (find p cs))
room_start p [] = tt
room_start p (c ∷ cs) = either (λ o. IsStart (room_of o)) (p c) (Some c) (find p cs) refl (room_start p cs)

module _ (files : List File) (b : Bindings) (leaders : List (Option ℕ)) (laid : LaidOut) where
  abbrev sum_by : Target → Reloc → ℤ
  sum_by t r = pos (target_address files b leaders laid t) +ℤ addend_of t r

  -- the byte of a piece stands where it stands, whatever is to be added to it
  byte_sum : (m : Option Merged) (section o : ℕ) (r : Reloc) →
      pos (target_address files b leaders laid (in_section m section o (pos 0))) +ℤ r.addend ≡ sum_by (in_section m section o r.addend) r
  byte_sum None section o r = refl
  byte_sum (Some m) section o r = refl

  section_sum : (d : Bool) (section o c : ℕ) (r : Reloc) → d ≡ false →
      pos (byte_address files b leaders laid section o) +ℤ r.addend
      ≡ sum_by (piece_target laid.merging.merged (if d then spots.Section section c (r.addend -ℤ pos c) else spots.Section section o r.addend)) r
  unfolding byte_address piece_target
  section_sum true section o c r off = cc
  section_sum false section o c r off = byte_sum (merged_at laid.merging.merged section) section o r

  none_sum : (d : Bool) (r : Reloc) → pos 0 +ℤ r.addend ≡ sum_by (piece_target laid.merging.merged (if d then spots.Zero else spots.Unbound)) r
  unfolding piece_target
  none_sum true r = refl
  none_sum false r = refl

  off_and : (x y : Bool) → x ≡ false → (x && y) ≡ false
  off_and true y off = cc
  off_and false y off = refl

  bound_sum : (bound : Bound) (file : File) (s : Symbol) (r : Reloc) → is_section_symbol s ≡ false →
      pos (address_of files b leaders laid bound) +ℤ r.addend ≡ sum_by (piece_target laid.merging.merged (spot_by bound file s r)) r
  unfolding piece_target
  bound_sum (InSection section offset) file s r off =
      section_sum (is_section_symbol s && not (goes_by_got r.kind)) section offset (clamped (size_of file s.place) r.addend) r
      (off_and (is_section_symbol s) (not (goes_by_got r.kind)) off)
  bound_sum (Number n) file s r off = refl
  bound_sum (Linker n) file s r off = refl
  bound_sum Nobody file s r off = none_sum (s.binding == STB_WEAK) r

  live_address : (f i : ℕ) → (file_at files f).live ≡ true → symbol_address files b leaders laid f i ≡ address_of files b leaders laid (bound files b f i)
  unfolding symbol_address
  live_address f i live = cond-true (file_at files f).live (address_of files b leaders laid (bound files b f i)) 0 live

  pub sum_is : (f : ℕ) (r : Reloc) → (file_at files f).live ≡ true → is_section_symbol (symbol_at (file_at files f) r.symbol) ≡ false →
      pos (symbol_address files b leaders laid f r.symbol) +ℤ r.addend ≡ sum_by (piece_target laid.merging.merged (spot_of files b f r)) r
  unfolding spot_of
  sum_is f r live off =
      ap (λ a. pos a +ℤ r.addend) (live_address f r.symbol live)
      ∙ bound_sum (bound files b f r.symbol) (file_at files f) (symbol_at (file_at files f) r.symbol) r off

  place_start : (place : Place) (f i : ℕ) (s : Symbol) → is_section_symbol s ≡ true → IsStart (defined_by files b place f i s)
  place_start Undef f i s is = tt
  place_start Absolute f i s is = tt
  place_start Common f i s is = room_start (λ c. c.symbol == i) (commons_at b.commons f)
  place_start (Within k) f i s is =
      let file = file_at files f in
      let own : offset_in s ≡ 0 = cond-true (is_section_symbol s) 0 s.value is in
      let bare : IsStart (unwritten file k s) = either IsStart (is_frame_at file k && s.value == 0) (Linker frame_start_no) (Number s.value) tt tt in
      either IsStart (is_discarded files b.discarded f (Within k)) Nobody (if writes file k then InSection (section_no files f k) (offset_in s) else unwritten file k s) tt
      (either IsStart (writes file k) (InSection (section_no files f k) (offset_in s)) (unwritten file k s) own bare)

  section_start : (f i : ℕ) → is_section_symbol (symbol_at (file_at files f) i) ≡ true → IsStart (bound files b f i)
  unfolding bound definition
  section_start f i is =
      let s = symbol_at (file_at files f) i in
      let local = (and_parts (s.binding == STB_LOCAL) (s.sort == STT_SECTION) is).0 in
      let own = defined_by files b s.place f i s in
      let P : Bound → Type 0 = IsStart in
      subst P (sym (cond-true (s.binding == STB_LOCAL) own (bound_by files b (rank_at b (symbol_no files f i))) local)) (place_start s.place f i s is)

  chosen_sum : (d : Bool) (section o c : ℕ) (r : Reloc) → r.addend ≡ pos 0 → o ≡ 0 → c ≡ 0 →
      pos (byte_address files b leaders laid section o) +ℤ r.addend
      ≡ sum_by (piece_target laid.merging.merged (if d then spots.Section section c (r.addend -ℤ pos c) else spots.Section section o r.addend)) r
  chosen_sum true section o c r whole start none =
      let rest : r.addend -ℤ pos c ≡ pos 0 = ap (λ a. a -ℤ pos c) whole ∙ ap (λ n. pos 0 -ℤ pos n) none in
      let at : spots.Section section o r.addend ≡ spots.Section section c (r.addend -ℤ pos c) =
      ap (λ k. spots.Section section k r.addend) (start ∙ sym none) ∙ ap (λ a. spots.Section section c a) (whole ∙ sym rest) in
      section_sum false section o c r refl ∙ ap (λ t. sum_by (piece_target laid.merging.merged t) r) at
  chosen_sum false section o c r whole start none = section_sum false section o c r refl

  start_sum : (bound : Bound) (file : File) (s : Symbol) (r : Reloc) → r.addend ≡ pos 0 → IsStart bound →
      pos (address_of files b leaders laid bound) +ℤ r.addend ≡ sum_by (piece_target laid.merging.merged (spot_by bound file s r)) r
  unfolding piece_target
  start_sum (InSection section offset) file s r whole start =
      let none : clamped (size_of file s.place) r.addend ≡ 0 =
      ap (clamped (size_of file s.place)) whole ∙ ap (λ t. if t then 0 else size_of file s.place) (le-leb 0 (size_of file s.place) (omega arith)) in
      chosen_sum (is_section_symbol s && not (goes_by_got r.kind)) section offset (clamped (size_of file s.place) r.addend) r whole start none
  start_sum (Number n) file s r whole start = refl
  start_sum (Linker n) file s r whole start = refl
  start_sum Nobody file s r whole start = none_sum (s.binding == STB_WEAK) r

  pub zero_sum_is : (f : ℕ) (r : Reloc) → (file_at files f).live ≡ true → r.addend ≡ pos 0 →
      pos (symbol_address files b leaders laid f r.symbol) +ℤ r.addend ≡ sum_by (piece_target laid.merging.merged (spot_of files b f r)) r
  unfolding spot_of
  zero_sum_is f r live whole = elim (cases_Bool (is_section_symbol (symbol_at (file_at files f) r.symbol))) [
    | inl is ↦
        ap (λ a. pos a +ℤ r.addend) (live_address f r.symbol live)
        ∙ start_sum (bound files b f r.symbol) (file_at files f) (symbol_at (file_at files f) r.symbol) r whole (section_start f r.symbol is)
    | inr off ↦ sum_is f r live off
  ]

  -- what is a symbol of the linker's own
  no_linker : (m : Option Merged) (section o n : ℕ) (rest : ℤ) → in_section m section o rest ≡ targets.Linker n → ⊥
  no_linker None section o n rest is = cc
  no_linker (Some m) section o n rest is = cc

  section_linker : (d : Bool) (section o c n : ℕ) (r : Reloc) →
      piece_target laid.merging.merged (if d then spots.Section section c (r.addend -ℤ pos c) else spots.Section section o r.addend) ≡ targets.Linker n → ⊥
  unfolding piece_target
  section_linker true section o c n r is = no_linker (merged_at laid.merging.merged section) section c n (r.addend -ℤ pos c) is
  section_linker false section o c n r is = no_linker (merged_at laid.merging.merged section) section o n r.addend is

  none_linker : (d : Bool) (n : ℕ) → piece_target laid.merging.merged (if d then spots.Zero else spots.Unbound) ≡ targets.Linker n → ⊥
  unfolding piece_target
  none_linker true n is = cc
  none_linker false n is = cc

  bound_linker : (bound : Bound) (file : File) (s : Symbol) (r : Reloc) (n : ℕ) → piece_target laid.merging.merged (spot_by bound file s r) ≡ targets.Linker n →
      address_of files b leaders laid bound ≡ linker_address files b leaders laid n
  unfolding piece_target
  bound_linker (InSection section offset) file s r n is =
      absurd (section_linker (is_section_symbol s && not (goes_by_got r.kind)) section offset (clamped (size_of file s.place) r.addend) n r is)
  bound_linker (Number m) file s r n is = let no : ⊥ = cc in absurd no
  bound_linker (Linker m) file s r n is = let same : m ≡ n = cc in ap (linker_address files b leaders laid) same
  bound_linker Nobody file s r n is = absurd (none_linker (s.binding == STB_WEAK) n is)

  pub linker_is : (f : ℕ) (r : Reloc) (n : ℕ) → (file_at files f).live ≡ true → piece_target laid.merging.merged (spot_of files b f r) ≡ targets.Linker n →
      symbol_address files b leaders laid f r.symbol ≡ linker_address files b leaders laid n
  unfolding spot_of
  linker_is f r n live is =
      live_address f r.symbol live
      ∙ bound_linker (bound files b f r.symbol) (file_at files f) (symbol_at (file_at files f) r.symbol) r n is
