-- The files that take part in a link are sound.
use Rattle.std.proofs.Common.{◌≡◌, ℕ, zero, suc, ◌≤◌, Bool, true, List, [], ◌∷◌, length, map}
use Rattle.std.specs.Prelude.{Option, Some, None, Ok, IfSome, is_some}
use Rattle.lk_base.specs.declared.abi.TheConstants.{FILE_MAX}
use Rattle.lk_tables.specs.declared.files.File.{File as LentFile}
use Rattle.lk_tables.specs.declared.objects.Object.{Object}
use Rattle.lk_tables.specs.declared.tables.Tables.{Tables}
use Rattle.lk_tables.specs.Files.{File, IsSound, file_at}
use Rattle.lk_tables.specs.FileView.{file_view, object_of_file}
use Rattle.lk_tables.specs.Heads.{HeadView, head_of, head_view}
use Rattle.lk_tables.specs.Inside.{IsHeadInside, IsBodyInside}
use Rattle.lk_tables.specs.Objects.{object_of, object_view}
use Rattle.lk_tables.specs.TablesView.{files_of}
use Rattle.lk_tables.proofs.SoundBody.{object_inside}
use Rattle.lk_tables.proofs.SoundHead.{head_of_is}

sound_by : (o : Option Object) (member : Bool) (b : List ℕ) (head : HeadView) → is_some o ≡ true → IfSome o (λ _. length b ≤ FILE_MAX) →
    IfSome o (λ _. head_of b ≡ Ok head) → IfSome o (λ object. object_of b ≡ Ok (object_view object)) →
    IsSound (record { live = is_some o; member = member; bytes = b; head = head; object = object_of_file o })
sound_by None member b head live short headed bodied = let no : ⊥ = cc in absurd no
sound_by (Some object) member b head live short headed bodied = record { short = short; head = headed; body = bodied }

sound_files : (files : List LentFile) (f : ℕ) → (file_at (map file_view files) f).live ≡ true → IsSound (file_at (map file_view files) f)
sound_files [] f live = let no : ⊥ = cc in absurd no
sound_files (x ∷ xs) zero live = sound_by x.object x.member x.bytes.now (head_view x.head) live x.short x.headed x.bodied
sound_files (x ∷ xs) (suc f) live = sound_files xs f live

pub sound_file : (tables : Tables) (f : ℕ) → (file_at (files_of tables) f).live ≡ true → IsSound (file_at (files_of tables) f)
sound_file tables f live = sound_files tables.files.items f live

-- what then holds of the head and of the body
pub inside_head : (file : File) → IsSound file → IsHeadInside file.bytes file.head
inside_head file sound = head_of_is file.bytes file.head sound.head

pub inside_body : (file : File) → IsSound file → IsBodyInside file.bytes file.head file.object
inside_body file sound = object_inside file.bytes file.head file.object sound.head sound.body sound.short
