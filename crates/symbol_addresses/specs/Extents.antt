-- Where the output sections of a name start and end, and the addresses of the linker's symbols that are no section's.
use Rattle.std.specs.Prelude.{ℕ, ◌+◌, ◌<◌, ◌^◌, List, map, All}
use Rattle.std.specs.List.{range_with_len}
use Rattle.lk_base.specs.declared.abi.TheConstants.{IMAGE_BASE}
use Rattle.lk_tables.specs.LinkerSymbols.{edge_of, fixed_count}
use Rattle.link_sections.specs.Addresses.{array_place, edge_address, end_or, first_place, last_place, start_or}
use Rattle.link_sections.specs.LaidOut.{LaidOut, OutputPlace}
use Rattle.symbol_addresses.specs.declared.places.Extent.{Extent}

-- from the start of the first output section of a name to the end of the last
unfoldable pub extent_of : LaidOut → (name : List ℕ) → Extent
extent_of laid name = record { start = start_or IMAGE_BASE (first_place laid name); end = end_or IMAGE_BASE (last_place laid name) }

-- the extent of a list of functions to call
unfoldable pub array_extent : LaidOut → (name : List ℕ) → Extent
array_extent laid name = record { start = start_or IMAGE_BASE (array_place laid name); end = end_or IMAGE_BASE (array_place laid name) }

-- the address of each of these symbols, by its number
unfoldable pub fixed_addresses : LaidOut → List ℕ
fixed_addresses laid = map (λ n. edge_address laid (edge_of n)) (range_with_len 0 fixed_count)

-- there are addresses past the start of each output section
pub record HasRoom (laid : LaidOut) : Type 0 where
  pub pointer : laid.bounds.tls_bits_end + 2 ^ 31 < 2 ^ 64
  pub places : All (λ (p : OutputPlace). p.start + 2 ^ 31 < 2 ^ 64) laid.places
