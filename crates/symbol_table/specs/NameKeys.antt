-- The first bytes of a name as a number.
use Rattle.std.specs.Prelude.{ℕ, zero, suc, ◌+◌, ◌*◌, List, slice_index}

-- the first n bytes, the first one highest; those past the end are 0
unfoldable pub key_to : List ℕ → (n : ℕ) → ℕ
key_to name zero = 0
key_to name (suc n) = 256 * key_to name n + slice_index name n

unfoldable pub key_of : List ℕ → ℕ
key_of name = key_to name 8
