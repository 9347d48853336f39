-- Keys of pools as plain records.
use Rattle.std.specs.Prelude.{ℕ, ◌&&◌, ◌==◌, Bool, List, map}
use Rattle.std.specs.List.{position_or_len}
use Rattle.std.specs.Borrow.{Bor}
use Rattle.std.specs.Str.{bytes_eq}
use Rattle.link_sections.specs.MergeSections.{PoolKey}

abbrev pub HeldKey : Type 0
HeldKey = Bor (List ℕ) × ℕ × ℕ × ℕ

abbrev pub key_view : HeldKey → PoolKey
key_view k = record { name = k.0.now; flags = k.1; entsize = k.2; align = k.3 }

abbrev pub key_views : List HeldKey → List PoolKey
key_views keys = map key_view keys

abbrev pub eq_keys : HeldKey → HeldKey → Bool
eq_keys a b = ((bytes_eq a.0.now b.0.now && a.1 == b.1) && a.2 == b.2) && a.3 == b.3

-- for each key the index of the first that is equal to it
unfoldable pub key_numbers : List HeldKey → List ℕ
key_numbers keys = map (λ k. position_or_len (λ known. eq_keys known k) keys) keys
