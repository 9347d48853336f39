-- What is read of a file: the members of an archive (System V ar format), and the heads of objects (System V gABI, ELF-64).
use Rattle.std.specs.Prelude.{◌≡◌, ℕ, ◌+◌, nat_lt, Option, Some, None, if◌then◌else◌, Result, Ok, Err, List, [], ◌∷◌, length, map}
use Rattle.std.specs.Option.{option_map}
use Rattle.ar_read.specs.Archives.{archive_of, is_archive}
use Rattle.ar_read.specs.declared.archive.Member.{Member}
use Rattle.elf_read.specs.Magic.{is_elf}
use Rattle.lk_base.specs.Limits.{oversize, standard}
use Rattle.lk_base.specs.declared.defects.Flaw.{Flaw}
use Rattle.lk_tables.specs.Heads.{HeadView, head_of, head_view}
use Rattle.lk_tables.specs.Names.{text_of}
use Rattle.lk_tables.specs.declared.heads.Head.{Head}
use Rattle.piped_reads.specs.declared.files.PipedFile.{PipedFile}
use Rattle.piped_reads.specs.declared.files.PipedFlaw.{PipedFlaw}

-- the members of an archive, the heads, and the first flaw
pub record Reading : Type 0 where
  pub members : List Member
  pub heads : List (Option HeadView)
  pub flaw : Option PipedFlaw

-- a flaw of the file itself, and of the member at a place
abbrev pub own_flaw : Flaw → PipedFlaw
own_flaw flaw = record { member = None; flaw = flaw }

abbrev pub flaw_of_member : ℕ → Flaw → PipedFlaw
flaw_of_member place flaw = record { member = Some place; flaw = flaw }

-- a file with a flaw has no heads
abbrev pub flawed : List Member → PipedFlaw → Reading
flawed members flaw = record { members = members; heads = []; flaw = Some flaw }

abbrev pub some_head : Result HeadView Flaw → Result (Option HeadView) Flaw
some_head (Ok head) = Ok (Some head)
some_head (Err flaw) = Err flaw

-- the head of a member, none of one that does not begin as an ELF file does
unfoldable pub member_head : List ℕ → Member → Result (Option HeadView) Flaw
member_head b member = if is_elf (text_of b member.body) then some_head (head_of (text_of b member.body)) else Ok None

-- a head before those of later members
abbrev pub head_before : Option HeadView → Result (List (Option HeadView)) PipedFlaw → Result (List (Option HeadView)) PipedFlaw
head_before head (Ok heads) = Ok (head ∷ heads)
head_before head (Err flaw) = Err flaw

abbrev pub read_before : ℕ → Result (Option HeadView) Flaw → Result (List (Option HeadView)) PipedFlaw → Result (List (Option HeadView)) PipedFlaw
read_before place (Ok head) later = head_before head later
read_before place (Err flaw) later = Err (flaw_of_member place flaw)

-- the heads of members, of which the first has this place, or their first flaw
abbrev pub heads_from : List ℕ → ℕ → List Member → Result (List (Option HeadView)) PipedFlaw
heads_from b place [] = Ok []
heads_from b place (member ∷ members) = read_before place (member_head b member) (heads_from b (place + 1) members)

-- what is read of an archive with these members
abbrev pub members_reading : List Member → Result (List (Option HeadView)) PipedFlaw → Reading
members_reading members (Ok heads) = record { members = members; heads = heads; flaw = None }
members_reading members (Err flaw) = flawed members flaw

abbrev pub archive_reading : List ℕ → Result (List Member) Flaw → Reading
archive_reading b (Ok members) = members_reading members (heads_from b 0 members)
archive_reading b (Err flaw) = flawed [] (own_flaw flaw)

-- what is read of an object
abbrev pub object_reading : Result HeadView Flaw → Reading
object_reading (Ok head) = record { members = []; heads = Some head ∷ []; flaw = None }
object_reading (Err flaw) = flawed [] (own_flaw flaw)

-- what is read of a file; of one that is too long nothing
unfoldable pub reading_of : List ℕ → Reading
reading_of b =
    if nat_lt standard.file (length b) then flawed [] (own_flaw (oversize (length b)))
    else (if is_archive b then archive_reading b (archive_of b) else object_reading (head_of b))

abbrev pub heads_seen : List (Option Head) → List (Option HeadView)
heads_seen heads = map (option_map head_view) heads

-- a file has with it what is read of its bytes
abbrev pub reading_in : PipedFile → Reading
reading_in file = record { members = file.members.items; heads = heads_seen file.heads.items; flaw = file.flaw }

abbrev pub IsPiped : PipedFile → Type 0
IsPiped file = reading_in file ≡ reading_of file.bytes.items
