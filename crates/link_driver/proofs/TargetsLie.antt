-- The byte that a call's symbol means lies in its section, or at its end.
use Rattle.std.proofs.Common.{◌≡◌, ℕ, ◌-◌, ◌<◌, ◌≤◌, ◌%◌, ◌==◌, ◌&&◌, not, Bool, true, false, if◌then◌else◌, Option, Some, None, List, [], ◌∷◌, length, find, refl, sym, ap, ◌∙◌, arith, inl, inr, nat_lt, ℤ, pos, ◌-ℤ◌}
use Rattle.std.specs.Ordering.{int_eq}
use Rattle.std.proofs.lemmas.Bool.{and_parts, cases_lt, le-leb, lt-ltb}
use Rattle.std.proofs.lemmas.Bool.Decides.{Decides-int_eq}
use Rattle.std.proofs.lemmas.List.{get_or_past}
use Rattle.lk_base.specs.RelocKinds.{goes_by_got}
use Rattle.lk_tables.specs.declared.bounds.Bound.{Bound}
use Rattle.lk_tables.specs.declared.bounds.Bound.TheVariants.{InSection, Number, Linker, Nobody}
use Rattle.lk_tables.specs.declared.bounds.Spot.{Spot}
use Rattle.lk_tables.specs.declared.bounds.Spot.TheVariants as spots
use Rattle.lk_tables.specs.declared.commons.BoundCommon.{BoundCommon}
use Rattle.lk_tables.specs.declared.heads.Place.{Place}
use Rattle.lk_tables.specs.declared.heads.Place.TheVariants.{Undef, Absolute, Common, Within}
use Rattle.lk_tables.specs.declared.heads.Symbol.{Symbol}
use Rattle.lk_tables.specs.declared.objects.Reloc.{Reloc}
use Rattle.lk_tables.specs.declared.section_places.SectionPlace.{SectionPlace}
use Rattle.lk_tables.specs.declared.tables.Tables.{Tables}
use Rattle.lk_tables.specs.Binding.{Bindings, is_discarded}
use Rattle.lk_tables.specs.BoundNames.{IsBindingOf}
use Rattle.lk_tables.specs.Files.{AreFew, File, file_at, is_frame_at, first_section, is_section_symbol, no_section, no_symbol, section_at, section_count, section_no, section_total, symbol_at, writes}
use Rattle.lk_tables.specs.InputSections.{input_at, input_of, common_in, room_input, section_input}
use Rattle.lk_tables.specs.Sections.{is_written}
use Rattle.lk_tables.specs.Sites.{place_of}
use Rattle.lk_tables.specs.Sites as sites
use Rattle.lk_tables.specs.TablesView.{files_of}
use Rattle.lk_tables.specs.FixedSymbols.{frame_start_no}
use Rattle.lk_tables.specs.Targets.{bound, clamped, commons_at, defined_by, definition, offset_in, room_of, size_of, spot_by, spot_of, unwritten}
use Rattle.lk_tables.proofs.BoundHas.{OfDefinitions, bound_has, either}
use Rattle.lk_tables.proofs.FirstNumbers.{section_more}
use Rattle.lk_tables.proofs.LiveFiles.{counted}
use Rattle.lk_tables.proofs.Owners.{place_is, place_of_number, written_within}
use Rattle.lk_tables.proofs.SoundFiles.{inside_head, sound_file}
use Rattle.link_sections.specs.declared.targets.Target.TheVariants as targets
use Rattle.link_sections.specs.PieceTargets.{in_section, piece_target, target_at}
use Rattle.link_sections.specs.PoolViews.{Merged, merged_at}
use Rattle.relax.specs.CallSizes.{is_plain, reloc_of}
use Rattle.link_sections.specs.Calls.{is_call}
use Rattle.relax.proofs.Fitting.{live_from}

abbrev pub LiesIn : List File → Bindings → Bound → Type 0
LiesIn files b (InSection section offset) = offset ≤ (input_at files b section).size
LiesIn files b (Number n) = Unit {0}
LiesIn files b (Linker n) = Unit {0}
LiesIn files b Nobody = Unit {0}

-- a section of a file by its number
place_at : (files : List File) (f k : ℕ) → f < length files → k < section_count (file_at files f) → place_of files (section_no files f k) ≡ record { file = f; index = k }
place_at files f k lt below =
    let more = section_more files f lt in
    let is = place_is files (section_no files f k) f (record { file = lt; from = omega arith; below = omega (arith, more, below) }) in
    let index : section_no files f k - first_section files f ≡ k = omega arith in
    is ∙ ap (λ i. record { file = f; index = i }) index

own_input : (files : List File) (b : Bindings) (f k : ℕ) → k < length (file_at files f).head.sections → input_of files b f k ≡ section_input (file_at files f) k
unfolding input_of
own_input files b f k lt = ap (λ t. if t then section_input (file_at files f) k else room_input (common_in files b f k)) (lt-ltb k (length (file_at files f).head.sections) lt)

room_lies : (files : List File) (b : Bindings) (p : BoundCommon → Bool) (cs : List BoundCommon) → LiesIn files b (room_of (find p cs))
room_lies files b p [] = tt
room_lies files b p (c ∷ cs) = either (λ o. LiesIn files b (room_of o)) (p c) (Some c) (find p cs) (omega arith) (room_lies files b p cs)

module _ (tables : Tables) (b : Bindings) where
  abbrev files : List File
  files = files_of tables

  value_lies : (f i k : ℕ) → (file_at files f).live ≡ true → (symbol_at (file_at files f) i).place ≡ Within k → writes (file_at files f) k ≡ true
      → offset_in (symbol_at (file_at files f) i) ≤ (section_at (file_at files f) k).size
  value_lies f i k live place written = elim (cases_lt i (length (file_at files f).head.symbols)) [
    | inl lt ↦
        let file : File = file_at files f in
        let s : Symbol = symbol_at file i in
        let inside = inside_head file (sound_file tables f live) in
        let written_is : is_written file.bytes (section_at file k) ≡ true = (and_parts (nat_lt 0 k) (is_written file.bytes (section_at file k)) written).1 in
        let value = inside.values i no_symbol lt k no_section place written_is in
        offset_most (is_section_symbol s) s.value (section_at file k).size value
    | inr past ↦ absurd (no_place (sym (ap (λ (x : Symbol). x.place) (past_symbol past)) ∙ place))
  ]
    where
      offset_most : (t : Bool) (v m : ℕ) → v ≤ m → (if t then 0 else v) ≤ m
      offset_most true v m le = omega arith
      offset_most false v m le = le

      no_place : Undef ≡ Within k → ⊥
      no_place e = cc

      past_symbol : length (file_at files f).head.symbols ≤ i → symbol_at (file_at files f) i ≡ no_symbol
      past_symbol past = get_or_past (file_at files f).head.symbols i no_symbol past

  written_lies : (f i k : ℕ) (d : Bool) → f < length files → (file_at files f).live ≡ true → (symbol_at (file_at files f) i).place ≡ Within k → writes (file_at files f) k ≡ d
      → LiesIn files b (if d then InSection (section_no files f k) (offset_in (symbol_at (file_at files f) i)) else unwritten (file_at files f) k (symbol_at (file_at files f) i))
  written_lies f i k true lt live place written =
      let own = written_within (file_at files f) k written in
      let at = place_at files f k lt (omega (arith, own, counted (file_at files f) live)) in
      let input : input_at files b (section_no files f k) ≡ section_input (file_at files f) k = ap (λ (p : SectionPlace). input_of files b p.file p.index) at ∙ own_input files b f k own in
      omega (arith, value_lies f i k live place written, ap (λ (s : _). s.size) input)
  written_lies f i k false lt live place written =
      let s : Symbol = symbol_at (file_at files f) i in
      either (LiesIn files b) (is_frame_at (file_at files f) k && s.value == 0) (Linker frame_start_no) (Number s.value) tt tt

  defined_lies : (f i : ℕ) (place : Place) → f < length files → (file_at files f).live ≡ true → (symbol_at (file_at files f) i).place ≡ place
      → LiesIn files b (defined_by files b place f i (symbol_at (file_at files f) i))
  defined_lies f i Undef lt live is = tt
  defined_lies f i Absolute lt live is = tt
  defined_lies f i Common lt live is = room_lies files b (λ c. c.symbol == i) (commons_at b.commons f)
  defined_lies f i (Within k) lt live is =
      either (LiesIn files b) (is_discarded files b.discarded f (Within k)) Nobody
      (if writes (file_at files f) k then InSection (section_no files f k) (offset_in (symbol_at (file_at files f) i)) else unwritten (file_at files f) k (symbol_at (file_at files f) i)) tt
      (written_lies f i k (writes (file_at files f) k) lt live is refl)

  definitions_lie : OfDefinitions files b (LiesIn files b)
  unfolding definition
  definitions_lie f i lt live = defined_lies f i (symbol_at (file_at files f) i).place lt live refl

  pub bound_lies : (f i : ℕ) → IsBindingOf files b → AreFew files → f < length files → (file_at files f).live ≡ true → LiesIn files b (bound files b f i)
  bound_lies f i is few lt live = bound_has files b (LiesIn files b) f i is few tt (λ name n has. tt) definitions_lie lt live

  -- what a call means, without an addend
  pub record IsByte (section offset : ℕ) (rest : ℤ) : Type 0 where
    pub within : offset ≤ (input_at files b section).size
    pub none : rest ≡ pos 0

  spot_same : (s t o p : ℕ) (q r : ℤ) → spots.Section s o q ≡ spots.Section t p r → ((s ≡ t) × (o ≡ p)) × (q ≡ r)
  spot_same s t o p q r e = ((cc, cc), cc)

  byte_by : (bound_is : Bound) (file : File) (s : Symbol) (r : Reloc) (section offset : ℕ) (rest : ℤ) → LiesIn files b bound_is → r.addend ≡ pos 0
      → spot_by bound_is file s r ≡ spots.Section section offset rest → IsByte section offset rest
  byte_by (InSection t o) file s r section offset rest lies zero_is is = by (is_section_symbol s && not (goes_by_got r.kind)) is
    where
      c : ℕ
      c = clamped (size_of file s.place) r.addend

      c_zero : c ≡ 0
      c_zero = ap (clamped (size_of file s.place)) zero_is ∙ ap (λ t. if t then 0 else size_of file s.place) (le-leb 0 (size_of file s.place) (omega arith))

      by : (d : Bool) → (if d then spots.Section t c (r.addend -ℤ pos c) else spots.Section t o r.addend) ≡ spots.Section section offset rest → IsByte section offset rest
      by true is =
          let same = spot_same t section c offset (r.addend -ℤ pos c) rest is in
          let o_is = same.0.1 in
          record { within = omega (arith, o_is, c_zero); none = sym same.1 ∙ ap (λ a. a -ℤ pos c) zero_is ∙ ap (λ n. pos 0 -ℤ pos n) c_zero }
      by false is =
          let same = spot_same t section o offset r.addend rest is in
          let s_is = same.0.0 in
          let o_is = same.0.1 in
          record { within = omega (arith, lies, o_is, ap (λ n. (input_at files b n).size) s_is); none = sym same.1 ∙ zero_is }
  byte_by (Number n) file s r section offset rest lies zero_is is = cc
  byte_by (Linker n) file s r section offset rest lies zero_is is = cc
  byte_by Nobody file s r section offset rest lies zero_is is = by (s.binding == _) is
    where
      by : (d : Bool) → (if d then spots.Zero else spots.Unbound) ≡ spots.Section section offset rest → IsByte section offset rest
      by true is = cc
      by false is = cc

  spot_is : (merged : List (Option Merged)) (spot : Spot) (section offset : ℕ) (rest : ℤ) → piece_target merged spot ≡ targets.Section section offset rest → spot ≡ spots.Section section offset rest
  unfolding piece_target
  spot_is merged (spots.Section s o q) section offset rest is = by (merged_at merged s) is
    where
      by : (m : Option Merged) → in_section m s o q ≡ targets.Section section offset rest → spots.Section s o q ≡ spots.Section section offset rest
      by None is = cc
      by (Some m) is = cc
  spot_is merged (spots.Number n) section offset rest is = cc
  spot_is merged spots.Zero section offset rest is = cc
  spot_is merged (spots.Linker n) section offset rest is = cc
  spot_is merged spots.Unbound section offset rest is = cc

  plain_addend : (r : Reloc) → is_plain r ≡ true → r.addend ≡ pos 0
  unfolding is_plain
  plain_addend r is =
      let d = Decides-int_eq r.addend (pos 0) in
      d.0 (and_parts (int_eq r.addend (pos 0)) (r.offset % 2 == 0) (and_parts (is_call r.kind) (int_eq r.addend (pos 0) && r.offset % 2 == 0) is).1).0

  pub target_lies : (merged : List (Option Merged)) (n k section offset : ℕ) (rest : ℤ) → IsBindingOf files b → AreFew files → n < section_total files → is_plain (reloc_of files n k) ≡ true
      → target_at files b merged n k ≡ targets.Section section offset rest → IsByte section offset rest
  unfolding spot_of
  target_lies merged n k section offset rest is few lt plain target =
      let f : ℕ = (place_of files n).file in
      let r : Reloc = reloc_of files n k in
      let law = place_of_number files n lt in
      let live = live_from files f (place_of files n).index law.index in
      byte_by (bound files b f r.symbol) (file_at files f) (symbol_at (file_at files f) r.symbol) r section offset rest (bound_lies f r.symbol is few law.file live) (plain_addend r plain)
      (spot_is merged (sites.spot_at files b n k) section offset rest target)
