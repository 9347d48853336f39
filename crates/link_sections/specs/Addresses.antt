-- The addresses of symbols, once everything has its place (RISC-V ELF psABI, "Relocations": S).
use Rattle.std.specs.Prelude.{◌≡◌, ℕ, ◌+◌, ◌&&◌, Bool, true, false, pos, Option, Some, None, find, if◌then◌else◌, List, [], codes, reverse, slice_index, slice_index_or}
use Rattle.std.specs.Option.{option_map_or}
use Rattle.std.specs.Str.{bytes_eq}
use Rattle.lk_base.specs.Arithmetic.{bits_of}
use Rattle.lk_base.specs.declared.abi.TheConstants.{IMAGE_BASE}
use Rattle.lk_tables.specs.declared.bounds.Bound.{Bound}
use Rattle.lk_tables.specs.declared.bounds.Bound.TheVariants.{InSection, Number, Linker, Nobody}
use Rattle.lk_tables.specs.declared.classes.Class.{Class}
use Rattle.lk_tables.specs.declared.classes.Class.TheVariants.{R, Rx, TlsBits, TlsNobits, RwBits, RwNobits}
use Rattle.lk_tables.specs.declared.linker_symbols.Edge.{Edge}
use Rattle.lk_tables.specs.declared.linker_symbols.Edge.TheVariants.{ImageStart, CodeEnd, BitsEnd, NobitsEnd, Table, GlobalPointer, PreinitStart, PreinitEnd, InitStart, InitEnd, FiniStart, FiniEnd, FrameStart}
use Rattle.lk_tables.specs.Binding.{Bindings}
use Rattle.lk_tables.specs.Files.{File, file_at, by_symbol}
use Rattle.lk_tables.specs.LinkerSymbols.{bound_section, edge_of, is_bound_no, is_stop_no}
use Rattle.lk_tables.specs.Targets.{bound, entry_bound}
use Rattle.link_sections.specs.declared.addresses.Addresses.{Addresses}
use Rattle.link_sections.specs.declared.targets.Target.{Target}
use Rattle.link_sections.specs.declared.targets.Target.TheVariants as targets
use Rattle.link_sections.specs.InputSections.{input_at}
use Rattle.link_sections.specs.LaidOut.{LaidOut, OutputPlace, address_in}
use Rattle.link_sections.specs.PieceTargets.{in_section}
use Rattle.link_sections.specs.PoolViews.{PoolView, merged_at}

abbrev pub is_rw_bits : Class → Bool
is_rw_bits R = false
is_rw_bits Rx = false
is_rw_bits TlsBits = false
is_rw_bits TlsNobits = false
is_rw_bits RwBits = true
is_rw_bits RwNobits = false

abbrev pub has_name : (name : List ℕ) → OutputPlace → Bool
has_name name p = bytes_eq p.name name

abbrev pub has_name_in_rw : (name : List ℕ) → OutputPlace → Bool
has_name_in_rw name p = is_rw_bits p.class && bytes_eq p.name name

-- the start and the end of an output section that may be there; without one an address of their own
abbrev pub start_or : (without : ℕ) → Option OutputPlace → ℕ
start_or without place = option_map_or (λ (p : OutputPlace). p.start) place without

abbrev pub end_or : (without : ℕ) → Option OutputPlace → ℕ
end_or without place = option_map_or (λ (p : OutputPlace). p.end) place without

abbrev pub no_pool : PoolView
no_pool = record { first = 0; pieces = []; positions = []; size = 0 }

module _ (laid : LaidOut) where
  -- the first and the last output section of a name
  unfoldable pub first_place : (name : List ℕ) → Option OutputPlace
  first_place name = find (has_name name) laid.places

  unfoldable pub last_place : (name : List ℕ) → Option OutputPlace
  last_place name = find (has_name name) (reverse laid.places)

  unfoldable pub rw_place : (name : List ℕ) → Option OutputPlace
  rw_place name = find (has_name_in_rw name) laid.places

  -- the place of a list of functions to call: the one that is written, else the first of its name
  abbrev pub or_first : (name : List ℕ) → Option OutputPlace → Option OutputPlace
  or_first name (Some p) = Some p
  or_first name None = first_place name

  unfoldable pub array_place : (name : List ℕ) → Option OutputPlace
  array_place name = or_first name (rw_place name)

  -- the address of a symbol of the linker's that is no section's
  unfoldable pub edge_address : Edge → ℕ
  edge_address ImageStart = IMAGE_BASE
  edge_address CodeEnd = laid.bounds.rx_end
  edge_address BitsEnd = laid.bounds.bits_end
  edge_address NobitsEnd = laid.bounds.nobits_end
  edge_address Table = laid.got
  edge_address GlobalPointer = start_or laid.bounds.tls_bits_end (rw_place (codes ".sdata")) + 0x800
  edge_address PreinitStart = start_or IMAGE_BASE (array_place (codes ".preinit_array"))
  edge_address PreinitEnd = end_or IMAGE_BASE (array_place (codes ".preinit_array"))
  edge_address InitStart = start_or IMAGE_BASE (array_place (codes ".init_array"))
  edge_address InitEnd = end_or IMAGE_BASE (array_place (codes ".init_array"))
  edge_address FiniStart = start_or IMAGE_BASE (array_place (codes ".fini_array"))
  edge_address FiniEnd = end_or IMAGE_BASE (array_place (codes ".fini_array"))
  edge_address FrameStart = laid.bounds.frames

  -- the address of a byte of a piece of a pool
  unfoldable pub piece_address : (pool piece offset : ℕ) → ℕ
  piece_address pool piece offset =
      slice_index laid.pools pool + slice_index (slice_index_or laid.merging.pools pool no_pool).positions piece + offset

module _ (files : List File) (b : Bindings) (leaders : List (Option ℕ)) (laid : LaidOut) where
  -- the start or the end of the output section that has the name of a section
  unfoldable pub bound_address : (number : ℕ) → ℕ
  bound_address number =
      let name = (input_at files b (bound_section number)).name in
      if is_stop_no number then end_or IMAGE_BASE (last_place laid name) else start_or IMAGE_BASE (first_place laid name)

  unfoldable pub linker_address : (number : ℕ) → ℕ
  linker_address number = if is_bound_no number then bound_address number else edge_address laid (edge_of number)

  -- of what a relocation stands for; 0 if that is nothing
  abbrev pub target_address : Target → ℕ
  target_address (targets.Section section offset rest) = address_in leaders laid section offset
  target_address (targets.Piece pool piece offset rest) = piece_address laid pool piece offset
  target_address (targets.Number n) = n
  target_address targets.Zero = 0
  target_address (targets.Linker n) = linker_address n
  target_address targets.Unbound = 0

  -- of a byte of a section: that of its piece, if the section is merged
  unfoldable pub byte_address : (section offset : ℕ) → ℕ
  byte_address section offset = target_address (in_section (merged_at laid.merging.merged section) section offset (pos 0))

  -- of what a symbol stands for; 0 if it stands for nothing
  abbrev pub address_of : Bound → ℕ
  address_of (InSection section offset) = byte_address section offset
  address_of (Number n) = n
  address_of (Linker n) = linker_address n
  address_of Nobody = 0

  -- each symbol of a file that takes part, by its number
  unfoldable pub symbol_address : (f i : ℕ) → ℕ
  symbol_address f i = if (file_at files f).live then address_of (bound files b f i) else 0

  abbrev pub symbol_addresses : List ℕ
  symbol_addresses = by_symbol files symbol_address

  -- where the executable starts: at what the entry's name is bound to
  unfoldable pub entry_address : ℕ
  entry_address = bits_of (pos (address_of (entry_bound files b)))

-- addresses that are found are these
pub record AreAddresses (files : List File) (b : Bindings) (leaders : List (Option ℕ)) (laid : LaidOut) (found : Addresses) : Type 0 where
  pub symbols : found.symbols.items ≡ symbol_addresses files b leaders laid
  pub entry : found.entry ≡ entry_address files b leaders laid
