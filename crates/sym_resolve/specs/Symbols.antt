-- The symbols of the live files, in order of file and symbol.
use Rattle.std.specs.Prelude.{ℕ, if◌then◌else◌, List, [], length, flat_map}
use Rattle.std.specs.List.{range_with_len}
use Rattle.lk_tables.specs.Files.{File, file_at, commons_before}

-- what the symbols of a live file give, and what those of all live files give
abbrev pub in_file : {X : Type 0} → List File → (ℕ → ℕ → List X) → ℕ → List X
in_file files give f = if (file_at files f).live
    then flat_map (give f) (range_with_len 0 (length (file_at files f).head.symbols)) else []

abbrev pub over_symbols : {X : Type 0} → List File → (ℕ → ℕ → List X) → List X
over_symbols files give = flat_map (in_file files give) (range_with_len 0 (length files))

-- how many COMMON symbols a live file has
abbrev pub common_count : File → ℕ
common_count file = if file.live then commons_before file (length file.head.symbols) else 0
