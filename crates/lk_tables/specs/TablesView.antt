-- The files of a link as plain lists.
use Rattle.std.specs.Prelude.{Bool, List, is_some}
use Rattle.lk_tables.specs.declared.tables.Heads.{Heads}
use Rattle.lk_tables.specs.declared.tables.Tables.{Tables}
use Rattle.lk_tables.specs.FileView.{file_views}
use Rattle.lk_tables.specs.Files.{File}

-- the files of which the heads are read
abbrev pub heads_of : Heads → List File
heads_of heads = file_views heads.files.items

-- the numbers of the files' names are kept
abbrev pub are_numbered : Heads → Bool
are_numbered heads = is_some heads.names

-- the files of a link
abbrev pub files_of : Tables → List File
files_of tables = file_views tables.files.items

-- the numbers of their names came with them
abbrev pub have_numbers : Tables → Bool
have_numbers tables = is_some tables.names
