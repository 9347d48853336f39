-- How many classes there are.
use Rattle.std.specs.Prelude.{ℕ, ◌==◌, not, Bool, List, length, slice_index}
use Rattle.std.specs.List.{filter, list_any, range_with_len}
use Rattle.link_sections.specs.FoldItems.{FoldItem}
use Rattle.icf_part.specs.Folding.{item_at, key_of}
use Rattle.icf_part.specs.Leaders.{same_key}

-- how many of the first n numbers pass a test
unfoldable pub how_many : (ℕ → Bool) → (n : ℕ) → ℕ
how_many test n = length (filter test (range_with_len 0 n))

-- none before a number is the same
abbrev pub is_new : (same : ℕ → ℕ → Bool) → (a : ℕ) → Bool
is_new same a = not (list_any (λ b. same b a) (range_with_len 0 a))

-- the classes of leaders: items that are their own leaders
abbrev pub leader_count : (leaders : List ℕ) → ℕ
leader_count leaders = how_many (λ a. slice_index leaders a == a) (length leaders)

-- the classes of equal keys: items whose key none before has
abbrev pub key_count : List FoldItem → ℕ
key_count items = how_many (is_new (λ b a. same_key (key_of (item_at items b)) (key_of (item_at items a)))) (length items)
