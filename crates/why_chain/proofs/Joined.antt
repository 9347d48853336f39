-- Lists of bytes are equal where their lengths and all places are.
use Rattle.std.proofs.Common.{◌≡◌, ℕ, ◌<◌, true, List, length, get_or, bytes_eq}
use Rattle.std.proofs.lemmas.List.{ext_get_or}
use Rattle.std.proofs.lemmas.Slice.Eq.{bytes_eq-Decides}

pub same_bytes : (xs ys : List ℕ) → length xs ≡ length ys → ((k : ℕ) → k < length xs → get_or xs k 0 ≡ get_or ys k 0) → bytes_eq xs ys ≡ true
same_bytes xs ys wide each = (bytes_eq-Decides xs ys).1 (ext_get_or 0 xs ys wide each)
