-- What is noted of the names of output sections.
use Rattle.std.specs.Prelude.{◌≡◌, ℕ, Option, List, option_map, find, reverse}
use Rattle.std.specs.Borrow.{Bor}
use Rattle.std.specs.HashMap.{HashMap, get_by}
use Rattle.std.specs.Option.{option_map_or}
use Rattle.std.specs.Str.{bytes_eq}
use Rattle.link_sections.specs.Addresses.{has_name}
use Rattle.link_sections.specs.LaidOut.{OutputPlace}
use Rattle.symbol_addresses.specs.declared.extents.Extents.{Extents}
use Rattle.symbol_addresses.specs.declared.places.Extent.{Extent}

-- what is noted of a name
unfoldable pub noted : {S : Type 0} → HashMap (Bor (List ℕ)) Extent S → (name : List ℕ) → Option Extent
noted known name = get_by (λ k. bytes_eq name k.now) known

-- by name where the output sections of each start and end
abbrev pub extents_of : Extents → (name : List ℕ) → Option Extent
extents_of extents = noted extents.known

-- and once one more output section of the name is there
abbrev pub grown : Option Extent → OutputPlace → Extent
grown before p = record { start = option_map_or (λ (e : Extent). e.start) before p.start; end = p.end }

-- of each name the start of its first output section, and the end of its last
pub record AreExtents (places : List OutputPlace) (of : List ℕ → Option Extent) : Type 0 where
  pub starts : (name : List ℕ) → option_map (λ (e : Extent). e.start) (of name) ≡ option_map (λ (p : OutputPlace). p.start) (find (has_name name) places)
  pub ends : (name : List ℕ) → option_map (λ (e : Extent). e.end) (of name) ≡ option_map (λ (p : OutputPlace). p.end) (find (has_name name) (reverse places))
