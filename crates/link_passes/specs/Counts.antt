-- Counts of sections.
use Rattle.std.specs.Prelude.{ℕ, ◌+◌, length}
use Rattle.lk_tables.specs.Files.{File, commons_before}

-- the section numbers of a file that takes part: its sections, and one for each COMMON symbol
abbrev pub count_of : File → ℕ
count_of file = length file.head.sections + commons_before file (length file.head.symbols)
