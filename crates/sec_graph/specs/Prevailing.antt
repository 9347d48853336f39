-- Symbols that prevail: of all that offer their name, the one to which it is bound.
use Rattle.std.specs.Prelude.{◌≡◌, ℕ, ◌<◌, ◌&&◌, ◌==◌, Bool, true, false, List, length}
use Rattle.lk_tables.specs.declared.bounds.Bound.{Bound}
use Rattle.lk_tables.specs.declared.bounds.Bound.TheVariants.{InSection, Number, Linker, Nobody}
use Rattle.lk_tables.specs.Binding.{Bindings}
use Rattle.lk_tables.specs.Files.{File, file_at, symbol_no}
use Rattle.lk_tables.specs.Ranks.{file_of, no_rank, symbol_of_rank}
use Rattle.lk_tables.specs.Targets.{bound_by, rank_at}

abbrev pub is_nobody : Bound → Bool
is_nobody Nobody = true
is_nobody (InSection section offset) = false
is_nobody (Number n) = false
is_nobody (Linker n) = false

-- a rank names symbol i of file f
abbrev pub names : (rank f i : ℕ) → Bool
names rank f i = file_of rank == f && symbol_of_rank rank == i

-- what the name of symbol i of file f stands for, if that symbol prevails, is something
abbrev pub StandsIfPrevailing : List File → Bindings → (f i : ℕ) → Type 0
StandsIfPrevailing files b f i =
    rank_at b (symbol_no files f i) == no_rank ≡ false → names (rank_at b (symbol_no files f i)) f i ≡ true →
    is_nobody (bound_by files b (rank_at b (symbol_no files f i))) ≡ false

abbrev pub PrevailingStand : List File → Bindings → Type 0
PrevailingStand files b = (f i : ℕ) → f < length files → i < length (file_at files f).head.symbols → StandsIfPrevailing files b f i
