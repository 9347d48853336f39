-- The file and the symbol that a rank is of.
use Rattle.std.proofs.Common.{◌≡◌, ℕ, ◌<◌, ◌≤◌, ◌^◌, arith}
use Rattle.lk_tables.specs.Ranks.{file_of, rank_of, symbol_of_rank}

pub file_is : (class f i : ℕ) → class ≤ 2 → f < 2 ^ 24 → i < 2 ^ 32 → file_of (rank_of class f i) ≡ f
file_is class f i few file symbol = omega arith

pub symbol_is : (class f i : ℕ) → i < 2 ^ 32 → symbol_of_rank (rank_of class f i) ≡ i
symbol_is class f i symbol = omega arith

-- the parts of a rank
pub file_back : (class f i : ℕ) → f < 2 ^ 24 → i < 2 ^ 31 → file_of (rank_of class f i) ≡ f
file_back class f i lt small = omega arith
