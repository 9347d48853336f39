-- The hash that gives a text its home in the table: FNV-1a of 64 bits, http://www.isthe.com/chongo/tech/comp/fnv/
use Rattle.std.specs.Prelude.{ℕ, ◌*◌, ◌/◌, ◌^◌, ◌%◌, List, [], ◌∷◌, bit_xor}

abbrev pub hash_from : ℕ → List ℕ → ℕ
hash_from h [] = h
hash_from h (b ∷ bs) = hash_from ((bit_xor h b * 0x100000001b3) % 2 ^ 64) bs

unfoldable pub hash_of : List ℕ → ℕ
hash_of text = hash_from 0xcbf29ce484222325 text

-- the tag of texts with this hash
unfoldable pub tag_of : ℕ → ℕ
tag_of hash = hash / 2 ^ 56
