-- How long a ULEB128 number is (DWARF, "Variable Length Data"): up to the first byte of which bit 7 is clear.
use Rattle.std.specs.Prelude.{ℕ, ◌+◌, nat_lt, Bool, Option, option_map, List, take, drop}
use Rattle.std.specs.List.{position}
use Rattle.lk_base.specs.declared.abi.TheConstants.{PLACE_MAX}

-- no byte of the number follows
abbrev pub is_last : ℕ → Bool
is_last byte = nat_lt byte 128

-- its bytes at an offset of a section's contents, if it ends within these and has no more than ten
unfoldable pub uleb_len : (contents : List ℕ) → (offset : ℕ) → Option ℕ
uleb_len contents offset = option_map (λ last. last + 1) (position is_last (take PLACE_MAX (drop offset contents)))
