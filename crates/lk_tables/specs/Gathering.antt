-- How the files of a link come together.
use Rattle.std.specs.Prelude.{◌≡◌, ◌<◌, ◌≤◌, ℕ, Bool, false, Option, Some, None, Ok, IfSome, is_some, List, length, map, slice_index_or}
use Rattle.std.specs.List.{range_with_len}
use Rattle.lk_tables.specs.declared.heads.Head.{Head}
use Rattle.lk_tables.specs.declared.objects.Object.{Object}
use Rattle.lk_tables.specs.Files.{File, file_at, no_head}
use Rattle.lk_tables.specs.FileView.{object_of_file}
use Rattle.lk_base.specs.declared.abi.TheConstants.{FILE_MAX}
use Rattle.lk_tables.specs.Heads.{HeadView, head_view, head_of}
use Rattle.lk_tables.specs.Objects.{object_view, object_of}

-- an archive by itself has no head
abbrev pub head_or_none : Option Head → HeadView
head_or_none None = no_head
head_or_none (Some head) = head_view head

-- a file that takes no part yet
abbrev pub added : List ℕ → Option Head → (member : Bool) → File
added bytes head member = record { live = false; member = member; bytes = bytes; head = head_or_none head; object = object_of_file None }

-- a file with its body, if it has one: then it takes part in the link
abbrev pub with_object : File → Option Object → File
with_object file object = record { live = is_some object; member = file.member; bytes = file.bytes; head = file.head; object = object_of_file object }

-- each file with its body
abbrev pub with_objects : List File → List (Option Object) → List File
with_objects files objects = map (λ f. with_object (file_at files f) (slice_index_or objects f None)) (range_with_len 0 (length files))

-- a body is of its file's bytes, and its file has a head of these bytes
pub record IsBodyOf (file : File) (object : Object) : Type 0 where
  pub short : length file.bytes ≤ FILE_MAX
  pub head : head_of file.bytes ≡ Ok file.head
  pub body : object_of file.bytes ≡ Ok (object_view object)

abbrev pub AreBodies : List File → List (Option Object) → Type 0
AreBodies files objects = (f : ℕ) → f < length files → IfSome (slice_index_or objects f None) (IsBodyOf (file_at files f))
