-- What a symbol, and so a relocation, stands for (RISC-V ELF psABI, "Relocations": S and A).
use Rattle.std.specs.Prelude.{ℕ, ℤ, ◌-ℤ◌, ◌&&◌, ◌==◌, not, nat_le, pos, negsuc, Bool, false, Option, Some, None, if◌then◌else◌, List, [], find, slice_index_or}
use Rattle.lk_base.specs.declared.abi.TheConstants.{STB_LOCAL, STB_WEAK}
use Rattle.lk_base.specs.RelocKinds.{goes_by_got}
use Rattle.lk_tables.specs.declared.commons.BoundCommon.{BoundCommon}
use Rattle.lk_tables.specs.declared.heads.Place.{Place}
use Rattle.lk_tables.specs.declared.heads.Place.TheVariants.{Undef, Absolute, Common, Within}
use Rattle.lk_tables.specs.declared.heads.Symbol.{Symbol}
use Rattle.lk_tables.specs.declared.objects.Reloc.{Reloc}
use Rattle.lk_tables.specs.declared.bounds.Bound.{Bound}
use Rattle.lk_tables.specs.declared.bounds.Bound.TheVariants.{InSection, Number, Linker, Nobody}
use Rattle.lk_tables.specs.declared.bounds.Spot.{Spot}
use Rattle.lk_tables.specs.declared.bounds.Spot.TheVariants as targets
use Rattle.lk_tables.specs.Binding.{Bindings, is_discarded}
use Rattle.lk_tables.specs.Files.{File, file_at, symbol_at, section_at, writes, is_frame_at, is_section_symbol, section_no, symbol_no}
use Rattle.lk_tables.specs.FixedSymbols.{frame_start_no}
use Rattle.lk_tables.specs.Ranks.{no_rank, file_of, is_linker_rank, symbol_of_rank}

-- where a symbol stands in its section: a SECTION symbol at the start
abbrev pub offset_in : Symbol → ℕ
offset_in s = if is_section_symbol s then 0 else s.value

-- in a section that is not written it is its value, but at the start of unwind records the start of `.eh_frame`
abbrev pub unwritten : File → (k : ℕ) → Symbol → Bound
unwritten file k s = if is_frame_at file k && s.value == 0 then Linker frame_start_no else Number s.value

-- the COMMON symbols of a file that get room
abbrev pub commons_at : List (List BoundCommon) → ℕ → List BoundCommon
commons_at commons f = slice_index_or commons f []

-- a COMMON symbol is the room that it gets
abbrev pub room_of : Option BoundCommon → Bound
room_of None = Nobody
room_of (Some c) = InSection c.section 0

-- a section that was discarded, and a symbol's rank, by their numbers
abbrev pub is_gone : Bindings → ℕ → Bool
is_gone b section = slice_index_or b.discarded section false

abbrev pub rank_at : Bindings → ℕ → ℕ
rank_at b symbol = slice_index_or b.ranks symbol no_rank

-- the addend of a SECTION symbol chooses a byte of its section: the offset of that, within the section and its end
abbrev pub clamped : (size : ℕ) → ℤ → ℕ
clamped size (pos a) = if nat_le a size then a else size
clamped size (negsuc a) = 0

abbrev pub size_of : File → Place → ℕ
size_of file (Within k) = (section_at file k).size
size_of file Undef = 0
size_of file Absolute = 0
size_of file Common = 0

-- the section with the offset and the rest of the addend; a kind that goes by the GOT means the section's start
abbrev pub in_section_of : File → Symbol → Reloc → (section offset : ℕ) → Spot
in_section_of file s r section offset = if is_section_symbol s && not (goes_by_got r.kind)
    then targets.Section section (clamped (size_of file s.place) r.addend) (r.addend -ℤ pos (clamped (size_of file s.place) r.addend))
    else targets.Section section offset r.addend

-- a symbol that nothing defines is zero if it is WEAK, and else undefined
abbrev pub unbound : Symbol → Spot
unbound s = if s.binding == STB_WEAK then targets.Zero else targets.Unbound

abbrev pub spot_by : Bound → File → Symbol → Reloc → Spot
spot_by (InSection section offset) file s r = in_section_of file s r section offset
spot_by (Number n) file s r = targets.Number n
spot_by (Linker n) file s r = targets.Linker n
spot_by Nobody file s r = unbound s

abbrev pub is_unbound : Bound → Symbol → Bool
is_unbound Nobody s = not (s.binding == STB_WEAK)
is_unbound (InSection section offset) s = false
is_unbound (Number n) s = false
is_unbound (Linker n) s = false

module _ (files : List File) (b : Bindings) where
  -- the definition of symbol i of file f: a section that was not discarded, with an offset, if that section is written
  abbrev pub defined_in : (f k : ℕ) → Symbol → Bound
  defined_in f k s = if is_discarded files b.discarded f (Within k) then Nobody
      else (if writes (file_at files f) k then InSection (section_no files f k) (offset_in s) else unwritten (file_at files f) k s)

  abbrev pub defined_by : Place → (f i : ℕ) → Symbol → Bound
  defined_by Undef f i s = Number 0
  defined_by Absolute f i s = Number s.value
  defined_by Common f i s = room_of (find (λ c. c.symbol == i) (commons_at b.commons f))
  defined_by (Within k) f i s = defined_in f k s

  unfoldable pub definition : (f i : ℕ) → Bound
  definition f i = defined_by (symbol_at (file_at files f) i).place f i (symbol_at (file_at files f) i)

  -- what a rank names: a symbol of a file, or one of the linker's own
  unfoldable pub bound_by : (rank : ℕ) → Bound
  bound_by rank = if rank == no_rank then Nobody
      else (if is_linker_rank rank then Linker (symbol_of_rank rank) else definition (file_of rank) (symbol_of_rank rank))

  -- what symbol i of file f stands for: a local one for itself, another for what its name is bound to
  unfoldable pub bound : (f i : ℕ) → Bound
  bound f i = if (symbol_at (file_at files f) i).binding == STB_LOCAL then definition f i
      else bound_by (rank_at b (symbol_no files f i))

  -- what the entry's name is bound to
  abbrev pub entry_bound : Bound
  entry_bound = bound_by b.entry

  -- what a relocation of file f stands for
  unfoldable pub spot_of : (f : ℕ) → Reloc → Spot
  spot_of f r = spot_by (bound f r.symbol) (file_at files f) (symbol_at (file_at files f) r.symbol) r

  -- its symbol is bound to nothing, or stands in a section that was discarded, and is not WEAK
  unfoldable pub is_undefined : (f i : ℕ) → Bool
  is_undefined f i = is_unbound (bound f i) (symbol_at (file_at files f) i)
