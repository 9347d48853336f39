-- What the table of ends says to a user, status by status.
use Rattle.std.specs.Prelude.{◌≡◌, ℕ, ◌⊎◌, List, Some, None, IsSome}
use Rattle.lk_depot.specs.Faults.{Rose}
use Rattle.lk_depot.specs.Store.{Store}
use Rattle.lk_depot.specs.Output.{Output}
use Rattle.lk_depot.specs.Loading.{AreContents, IsFirstLacking}
use Rattle.link_command.specs.Command.{CommandView, command_of_words}
use Rattle.link_driver.specs.Laws.{AreCounted, AreLeast, sources_for, with_workers}
use Rattle.link_driver.specs.Link.{link}
use Rattle.link_driver.specs.Spared.{Spares}
use Rattle.link_driver.specs.Unwound.{Plans}

-- an accepted command over a store whose files are seen, with these contents as its inputs
pub record IsGiven (words : List (List ℕ)) (before : Store) (asked : CommandView) (inputs : List (List ℕ)) : Type 0 where
  pub asks : command_of_words words ≡ Some asked
  pub visible : IsSome before.files
  pub inputs_are : AreContents before.files asked.inputs inputs

-- no load, begin, append or put failed
pub record IsFaultless (before after : Store) (say say' : Output) : Type 0 where
  pub depot_kept : Rose before.faults after.faults → ⊥
  pub say_kept : Rose say.faults say'.faults → ⊥

module _ (words : List (List ℕ)) (before after : Store) (say say' : Output) (status : ℕ) where
  pub record Promises : Type 0 where
    -- 2 exactly where the command is refused, unless memory ran out; then nothing was asked of the store
    pub refused : command_of_words words ≡ None → (status ≡ 2) ⊎ (status ≡ 4)
    pub only_refused : status ≡ 2 → (command_of_words words ≡ None) × (after ≡ before)
    -- 1 exactly where the command is accepted, the loads were Ok and the inputs have a defect, unless memory ran out
    pub defective : (asked : CommandView) (inputs : List (List ℕ)) → IsGiven words before asked inputs → after.unread ≡ before.unread
        → (link (Some asked) inputs).status ≡ 1 → (status ≡ 1) ⊎ (status ≡ 4)
    pub only_defective : status ≡ 1 → (asked : CommandView) (inputs : List (List ℕ)) → IsGiven words before asked inputs
        → ((link (Some asked) inputs).status ≡ 1) × (after.unread ≡ before.unread)
    -- 0 where there is no defect and nothing failed, unless memory ran out; and never where there is one
    pub sound : (asked : CommandView) (inputs : List (List ℕ)) → IsGiven words before asked inputs → IsFaultless before after say say'
        → (link (Some asked) inputs).status ≡ 0 → (status ≡ 0) ⊎ (status ≡ 4)
    pub only_sound : status ≡ 0 → (asked : CommandView) (inputs : List (List ℕ)) → IsGiven words before asked inputs
        → (link (Some asked) inputs).status ≡ 0
    -- where an input is missing, 3 and 4 are the only ends
    pub missing : (asked : CommandView) (index : ℕ) → command_of_words words ≡ Some asked → IsFirstLacking before.files asked.inputs index
        → (status ≡ 3) ⊎ (status ≡ 4)
    -- laws of Link's own words. Of inputs with no more files and symbols than a link may have, the files that take part are the least set that is
    -- closed, and each name is bound to its least offer
    pub least : (asked : CommandView) (given : List (List ℕ)) → AreCounted (sources_for asked given) → AreLeast asked (sources_for asked given)
    -- no section that is to be folded with no other is, and what is folded safely is folded where all is
    pub spared : (asked : CommandView) (given : List (List ℕ)) → Spares asked (sources_for asked given)
    -- each FDE of a function that is written is written, once and no other, with a CIE equal to its own
    pub unwound : (asked : CommandView) (given : List (List ℕ)) → Plans asked (sources_for asked given)
    -- and Link is the same for every number of workers
    pub any_workers : (asked : CommandView) (given : List (List ℕ)) (n : ℕ) → link (Some (with_workers n asked)) given ≡ link (Some asked) given
    -- nothing is begun before the defects are known: at 1, 2 and 4 no file was
    pub begun : (status ≡ 1) ⊎ ((status ≡ 2) ⊎ (status ≡ 4)) → after.begun ≡ before.begun
