-- What holds of each file that takes part.
use Rattle.std.proofs.Common.{◌≡◌, ℕ, true, List}
use Rattle.lk_tables.specs.Files.{File, IsSound, file_at}
use Rattle.lk_tables.specs.declared.tables.Tables.{Tables}
use Rattle.lk_tables.specs.TablesView.{files_of}
use Rattle.lk_tables.proofs.SoundFiles.{sound_file}

-- the checks of each live file have passed
abbrev pub AllSound : List File → Type 0
AllSound files = (f : ℕ) → (file_at files f).live ≡ true → IsSound (file_at files f)

-- each file of a link that takes part in it is
pub all_sound : (tables : Tables) → AllSound (files_of tables)
all_sound tables = λ f live. sound_file tables f live
