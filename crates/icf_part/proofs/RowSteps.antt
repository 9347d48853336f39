-- How many rows there are.
use Rattle.std.proofs.Common.{◌≡◌, ℕ, List, length, ap, ◌∙◌}
use Rattle.std.proofs.lemmas.List.FromFn.{length-map-range_with_len}
use Rattle.icf_part.specs.Signatures.{AreRows, row_bytes}

pub all_rows : (words : ℕ → List ℕ) (n : ℕ) (rows : List (List ℕ)) → AreRows words n rows → length rows ≡ n
all_rows words n rows are = ap length are.rows_are ∙ length-map-range_with_len (λ a. row_bytes (words a)) 0 n
