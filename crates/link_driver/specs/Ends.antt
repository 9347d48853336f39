-- The ends of a run: each with its status, its cause, what it leaves and its line.
use Rattle.std.specs.Prelude.{◌≡◌, ℕ, ◌<◌, ◌≤◌, ◌⊎◌, List, [], length, take, Option, Some, None}
use Rattle.lk_base.specs.Lines.{IsOneLine}
use Rattle.lk_depot.specs.declared.kinds.FileKind.{FileKind}
use Rattle.lk_depot.specs.declared.kinds.FileKind.TheVariants.{Executable, Plain}
use Rattle.lk_depot.specs.Faults.{Rose}
use Rattle.lk_depot.specs.Files.{Named, put_if_seen}
use Rattle.lk_depot.specs.Store.{Store}
use Rattle.lk_depot.specs.Output.{Output, said_if_seen}
use Rattle.lk_depot.specs.Loading.{AreContents, IsFirstLacking, FailedAt, name_at}
use Rattle.link_command.specs.Command.{CommandView, command_of_words}
use Rattle.link_driver.specs.Link.{link, bad_command, cannot_read, cannot_write, cannot_report}

-- the command is accepted, and each of its inputs was loaded
pub record Accepts (wanted : Option CommandView) (before after : Store) (asked : CommandView) (inputs : List (List ℕ)) : Type 0 where
  pub asks : wanted ≡ Some asked
  pub loaded : AreContents before.files asked.inputs inputs
  pub unread : after.unread ≡ before.unread

-- files and their kinds are as they were, and none was begun
pub record IsUntouched (before after : Store) : Type 0 where
  pub files : after.files ≡ before.files
  pub kinds : after.kinds ≡ before.kinds
  pub begun : after.begun ≡ before.begun

-- no load failed, or one of an input did, as the first
pub data IsUnread (wanted : Option CommandView) (before after : Store) : Type 0 where
  none_failed : after.unread ≡ before.unread → IsUnread wanted before after
  one_failed : (asked : CommandView) (index : ℕ) → wanted ≡ Some asked → FailedAt before after asked.inputs index → IsUnread wanted before after

-- the names of a map once a file of this name was written, where one is asked
abbrev pub with_map : {X : Type 0} → Option (List ℕ) → X → Option (Named X) → Option (Named X)
with_map None value names = names
with_map (Some name) value names = put_if_seen name value names

-- a file was not begun, or it was begun as this kind and holds some of its first bytes, less than all
pub data IsCut (before after : Store) (name : List ℕ) (kind : FileKind) (bytes : List ℕ) : Type 0 where
  never_begun : after.files ≡ before.files → after.kinds ≡ before.kinds → IsCut before after name kind bytes
  cut_short : (size : ℕ) → size < length bytes → after.files ≡ put_if_seen name (take size bytes) before.files
      → after.kinds ≡ put_if_seen name kind before.kinds → IsCut before after name kind bytes

-- a store with this file whole
abbrev pub with_file : List ℕ → FileKind → List ℕ → Store → Store
with_file name kind bytes store = record {
  files = put_if_seen name bytes store.files;
  kinds = put_if_seen name kind store.kinds;
  faults = store.faults;
  begun = store.begun;
  unread = store.unread;
}

-- an end with this status, from the store and the output before the run to those after it, with this line to be reported
module _ (wanted : Option CommandView) (before after : Store) (say say' : Output) (status : ℕ) (line : List ℕ) where
  -- 0: no defect; the executable, and the map where one is asked, stand whole beside the other files, begun as what they
  -- are; the report was said
  pub record Links : Type 0 where
    pub asked : CommandView
    pub inputs : List (List ℕ)
    pub accepts : Accepts wanted before after asked inputs
    pub sound : (link wanted inputs).status ≡ 0
    pub status_is : status ≡ 0
    pub files : after.files ≡ with_map asked.map (link wanted inputs).map (put_if_seen asked.output (link wanted inputs).executable before.files)
    pub kinds : after.kinds ≡ with_map asked.map Plain (put_if_seen asked.output Executable before.kinds)
    pub said : say'.written ≡ said_if_seen (link wanted inputs).say say.written
    pub line_is : line ≡ []

  -- 1: a defect; nothing begun, nothing said, and the first defect's line
  pub record FindsDefect : Type 0 where
    pub asked : CommandView
    pub inputs : List (List ℕ)
    pub accepts : Accepts wanted before after asked inputs
    pub defective : (link wanted inputs).status ≡ 1
    pub status_is : status ≡ 1
    pub untouched : IsUntouched before after
    pub quiet : say' ≡ say
    pub line_is : line ≡ (link wanted inputs).err

  -- 2: the command is refused; nothing was asked of the store
  pub record Refuses : Type 0 where
    pub refused : wanted ≡ None
    pub status_is : status ≡ 2
    pub idle : after ≡ before
    pub quiet : say' ≡ say
    pub line_is : line ≡ bad_command

  -- 3: the load of an input failed, or the files, where they are seen, lack it, as the first; nothing begun, nothing said
  pub record CannotRead : Type 0 where
    pub asked : CommandView
    pub index : ℕ
    pub asks : wanted ≡ Some asked
    pub cause : FailedAt before after asked.inputs index ⊎ (IsFirstLacking before.files asked.inputs index × (after.unread ≡ before.unread))
    pub status_is : status ≡ 3
    pub untouched : IsUntouched before after
    pub quiet : say' ≡ say
    pub line_is : line ≡ cannot_read (name_at asked.inputs index)

  -- 3: the executable could not be written: the faults rose; it was not begun, or is cut
  pub record CannotWriteOutput : Type 0 where
    pub asked : CommandView
    pub inputs : List (List ℕ)
    pub accepts : Accepts wanted before after asked inputs
    pub sound : (link wanted inputs).status ≡ 0
    pub status_is : status ≡ 3
    pub begun : Rose before.begun after.begun
    pub faults : Rose before.faults after.faults
    pub left : IsCut before after asked.output Executable (link wanted inputs).executable
    pub quiet : say' ≡ say
    pub line_is : line ≡ cannot_write asked.output

  -- 3: the map could not be written: the faults rose; the executable is whole, the map was not begun, or is cut
  pub record CannotWriteMap : Type 0 where
    pub asked : CommandView
    pub inputs : List (List ℕ)
    pub name : List ℕ
    pub accepts : Accepts wanted before after asked inputs
    pub sound : (link wanted inputs).status ≡ 0
    pub map_is : asked.map ≡ Some name
    pub status_is : status ≡ 3
    pub begun : Rose before.begun after.begun
    pub faults : Rose before.faults after.faults
    pub left : IsCut (with_file asked.output Executable (link wanted inputs).executable before) after name Plain (link wanted inputs).map
    pub quiet : say' ≡ say
    pub line_is : line ≡ cannot_write name

  -- 3: the report could not be said: the count of faults of `say` rose; both files are whole, the report is cut
  pub record CannotReport : Type 0 where
    pub asked : CommandView
    pub inputs : List (List ℕ)
    pub size : ℕ
    pub accepts : Accepts wanted before after asked inputs
    pub sound : (link wanted inputs).status ≡ 0
    pub status_is : status ≡ 3
    pub faults : Rose say.faults say'.faults
    pub files : after.files ≡ with_map asked.map (link wanted inputs).map (put_if_seen asked.output (link wanted inputs).executable before.files)
    pub kinds : after.kinds ≡ with_map asked.map Plain (put_if_seen asked.output Executable before.kinds)
    pub shorter : size < length (link wanted inputs).say
    pub said : say'.written ≡ said_if_seen (take size (link wanted inputs).say) say.written
    pub line_is : line ≡ cannot_report

  -- 4: out of memory; nothing begun, nothing said, no line; an input may have been found unreadable before
  pub record LacksMemory : Type 0 where
    pub status_is : status ≡ 4
    pub unread : IsUnread wanted before after
    pub untouched : IsUntouched before after
    pub quiet : say' ≡ say
    pub line_is : line ≡ []

  pub data Ends : Type 0 where
    links : Links → Ends
    finds_defect : FindsDefect → Ends
    refuses : Refuses → Ends
    cannot_read_input : CannotRead → Ends
    cannot_write_output : CannotWriteOutput → Ends
    cannot_write_map : CannotWriteMap → Ends
    cannot_say : CannotReport → Ends
    lacks_memory : LacksMemory → Ends

-- the line was written, or its first bytes, less than all, and then the count of faults rose
pub data IsReported (line : List ℕ) (err err' : Output) : Type 0 where
  reported_whole : err'.written ≡ said_if_seen line err.written → IsReported line err err'
  reported_cut : (size : ℕ) → size < length line → Rose err.faults err'.faults
      → err'.written ≡ said_if_seen (take size line) err.written → IsReported line err err'

-- the line of a status: none at 0 and 4, and else one of bytes that a terminal shows, and a newline
pub data HasLine (status : ℕ) (line : List ℕ) : Type 0 where
  no_line : (status ≡ 0) ⊎ (status ≡ 4) → line ≡ [] → HasLine status line
  a_line : 1 ≤ status → status ≤ 3 → IsOneLine line → HasLine status line

-- a run of these words ended so
pub record EndsSo (words : List (List ℕ)) (before after : Store) (say say' err err' : Output) (status : ℕ) : Type 0 where
  pub line : List ℕ
  pub ends : Ends (command_of_words words) before after say say' status line
  pub one_line : HasLine status line
  pub reported : IsReported line err err'
  -- where there is no line, nothing was asked of the standard error
  pub silent : line ≡ [] → err' ≡ err
  -- no count falls
  pub faults : before.faults ≤ after.faults
  pub begun : before.begun ≤ after.begun
  pub say_faults : say.faults ≤ say'.faults
  pub err_faults : err.faults ≤ err'.faults
