-- What the readers give, file by file.
use Rattle.std.specs.Prelude.{◌≡◌, ℕ, ◌<◌, ◌≤◌, ◌^◌, Bool, Option, Some, None, Ok, IfSome, is_some, List, [], length}
use Rattle.lk_base.specs.declared.abi.TheConstants.{FILE_MAX}
use Rattle.lk_tables.specs.declared.heads.Head.{Head}
use Rattle.lk_tables.specs.declared.objects.Object.{Object}
use Rattle.lk_tables.specs.Checks.{NoneBroken}
use Rattle.lk_tables.specs.Files.{File}
use Rattle.lk_tables.specs.Frames.{RecordList, list_views}
use Rattle.lk_tables.specs.Gathering.{head_or_none, IsBodyOf}
use Rattle.lk_tables.specs.Heads.{fields_of, head_of, head_view}
use Rattle.eh_frame.specs.Sections.{all_frame_checks}
use Rattle.link_passes.specs.declared.records.Body.{Body}
use Rattle.link_passes.specs.Frames.{lists_in}
use Rattle.link_passes.specs.Sources.{Source, has_body, head_in, headed, source_at, with_body}

-- a file whose head has no defect, and which is not too long
pub record IsHeaded (b : List ℕ) : Type 0 where
  pub head : head_of b ≡ Ok (fields_of b)
  pub short : length b ≤ FILE_MAX

-- a file whose symbols can be counted with those of all others
abbrev pub HasFewSymbols : File → Type 0
HasFewSymbols file = length file.head.symbols < 2 ^ 27

-- the head of a file: what its bytes say, and none of an archive by itself
pub record IsHeadOf (s : Source) (head : Option Head) : Type 0 where
  pub is : head_or_none head ≡ head_in s
  pub own : IfSome head (λ h. head_of s.bytes ≡ Ok (head_view h))
  pub few : length (head_in s).symbols < 2 ^ 27
  pub short : length s.bytes ≤ FILE_MAX

abbrev pub IsHeadAt : List Source → ℕ → Option Head → Type 0
IsHeadAt ss f head = IsHeadOf (source_at ss f) head

-- what is read of a file that takes part: its body, and its unwind records, none of which is wrong
pub record IsBody (file : File) (body : Body) : Type 0 where
  pub object : IsBodyOf file body.object
  pub records : list_views body.records.items ≡ lists_in (with_body file)
  pub sound : NoneBroken (all_frame_checks file.bytes)

-- the body of file f if that takes part, and none if it does not
pub record IsBodyAt (ss : List Source) (live : List Bool) (f : ℕ) (body : Option Body) : Type 0 where
  pub wanted : is_some body ≡ has_body ss live f
  pub is : IfSome body (IsBody (headed ss f))

-- the two parts of what is read
abbrev pub object_in : Option Body → Option Object
object_in None = None
object_in (Some body) = Some body.object

abbrev pub records_in : Option Body → List RecordList
records_in None = []
records_in (Some body) = list_views body.records.items
