-- The rank of an offer as one number, in which claims race: the class, then the file, then the symbol. The least is the strongest.
use Rattle.std.specs.Prelude.{ℕ, ◌+◌, ◌*◌, ◌^◌, ◌/◌, ◌%◌, ◌==◌, Bool}

-- nobody offers the name
abbrev pub no_rank : ℕ
no_rank = 18446744073709551615

abbrev pub rank_of : (class file symbol : ℕ) → ℕ
rank_of class file symbol = class * 2 ^ 56 + file * 2 ^ 32 + symbol

abbrev pub class_of_rank : ℕ → ℕ
class_of_rank rank = rank / 2 ^ 56

abbrev pub file_of : ℕ → ℕ
file_of rank = rank / 2 ^ 32 % 2 ^ 24

abbrev pub symbol_of_rank : ℕ → ℕ
symbol_of_rank rank = rank % 2 ^ 32

-- a name that no file offers and the linker defines has a rank of a class of its own, with the number of the linker's symbol
abbrev pub linker_class : ℕ
linker_class = 4

abbrev pub linker_rank : (number : ℕ) → ℕ
linker_rank number = rank_of linker_class 0 number

abbrev pub is_linker_rank : ℕ → Bool
is_linker_rank rank = class_of_rank rank == linker_class
