-- The ends of a run whose inputs were loaded and linked.
use Rattle.std.proofs.Common.{◌≡◌, ℕ, ◌<◌, ◌≤◌, List, length, take, Option, Some, None, sym, ◌∙◌, ap, refl, subst, arith}
use Rattle.lk_depot.specs.declared.kinds.FileKind.{FileKind}
use Rattle.lk_depot.specs.declared.kinds.FileKind.TheVariants.{Executable, Plain}
use Rattle.lk_depot.specs.Faults.{Rose, Rises}
use Rattle.lk_depot.specs.Files.{Named, put_if_seen}
use Rattle.lk_depot.specs.Store.{Store}
use Rattle.lk_depot.specs.Output.{Output, said_if_seen}
use Rattle.lk_depot.proofs.Counts.{later_then_rose}
use Rattle.link_driver.specs.declared.driving.Ending.{Ending}
use Rattle.link_driver.specs.declared.driving.Ending.TheVariants.{Done, Memory, Refused, Unreported, Defective, Unread, Unwritten}
use Rattle.link_driver.specs.Linked.{LinkedView}
use Rattle.link_command.specs.Command.{CommandView}
use Rattle.link_driver.specs.Link.{link, cannot_write}
use Rattle.link_driver.specs.Ends.{Accepts, IsCut, never_begun, cut_short, with_map, with_file, Ends, links, cannot_write_output, cannot_write_map, cannot_say}
use Rattle.link_driver.specs.Endings.{status_of, reported_line, AfterReport, IsReady}

-- a file that is cut, as seen from a store with the same files and kinds, and of equal bytes
pub cut_from : (first next after : Store) (name : List ℕ) (kind : FileKind) (bytes bytes' : List ℕ)
    → next.files ≡ first.files → next.kinds ≡ first.kinds → bytes ≡ bytes'
    → IsCut next after name kind bytes → IsCut first after name kind bytes'
cut_from first next after name kind bytes bytes' files kinds same (never_begun f k) = never_begun (f ∙ files) (k ∙ kinds)
cut_from first next after name kind bytes bytes' files kinds same (cut_short size shorter f k) =
    cut_short size (subst (λ xs. size < length xs) same shorter)
    (f ∙ ap (put_if_seen name (take size bytes)) files ∙ ap (λ xs. put_if_seen name (take size xs) first.files) same)
    (k ∙ ap (put_if_seen name kind) kinds)

module _ (asked : CommandView) (before now after : Store) (inputs : List (List ℕ)) (linked : LinkedView) where
  accepted : IsReady asked before now inputs linked → after.unread ≡ now.unread → Accepts (Some asked) before after asked inputs
  accepted ready unread = record {
    asks = refl;
    loaded = ready.inputs_are.loaded;
    unread = unread ∙ ready.inputs_are.unread;
  }

  risen_begun : IsReady asked before now inputs linked → Rises now.begun after.begun → Rose before.begun after.begun
  risen_begun ready rises = omega (arith, ready.inputs_are.untouched.begun, rises.rose, rises.later)

  risen_faults : IsReady asked before now inputs linked → Rose now.faults after.faults → Rose before.faults after.faults
  risen_faults ready rose = later_then_rose _ _ _ ready.inputs_are.faults rose

  -- the executable was not written
  pub output_cut : (say : Output) (line : List ℕ) → IsReady asked before now inputs linked
      → IsCut now after asked.output Executable linked.exe → Rises now.begun after.begun → Rose now.faults after.faults
      → after.unread ≡ now.unread → line ≡ cannot_write asked.output
      → Ends (Some asked) before after say say 3 line
  output_cut say line ready left begun faults unread line_is =
      cannot_write_output (record {
        asked = asked;
        inputs = inputs;
        accepts = accepted ready unread;
        sound = ready.is_link.status;
        status_is = refl;
        begun = risen_begun ready begun;
        faults = risen_faults ready faults;
        left = cut_from before now after asked.output Executable _ _ ready.inputs_are.untouched.files ready.inputs_are.untouched.kinds ready.is_link.executable left;
        quiet = refl;
        line_is = line_is;
      })

  -- all was written, and the report was said or not
  pub reported : (say say' : Output) (ending : Ending) → IsReady asked before now inputs linked
      → after.files ≡ with_map asked.map linked.map (put_if_seen asked.output linked.exe now.files)
      → after.kinds ≡ with_map asked.map Plain (put_if_seen asked.output Executable now.kinds)
      → after.unread ≡ now.unread → AfterReport linked.report say say' ending
      → Ends (Some asked) before after say say' (status_of ending) (reported_line ending)
  reported say say' ending ready files kinds unread said = by ending said
    where
      files_are : after.files ≡ with_map asked.map (link (Some asked) inputs).map (put_if_seen asked.output (link (Some asked) inputs).executable before.files)
      files_are =
          files ∙ ap (λ f. with_map asked.map linked.map (put_if_seen asked.output linked.exe f)) ready.inputs_are.untouched.files
          ∙ ap (λ e. with_map asked.map linked.map (put_if_seen asked.output e before.files)) ready.is_link.executable
          ∙ ap (λ m. with_map asked.map m (put_if_seen asked.output (link (Some asked) inputs).executable before.files)) ready.is_link.map

      kinds_are : after.kinds ≡ with_map asked.map Plain (put_if_seen asked.output Executable before.kinds)
      kinds_are = kinds ∙ ap (λ k. with_map asked.map Plain (put_if_seen asked.output Executable k)) ready.inputs_are.untouched.kinds

      by : (ending : Ending) → AfterReport linked.report say say' ending
          → Ends (Some asked) before after say say' (status_of ending) (reported_line ending)
      by Done said = links (record {
        asked = asked;
        inputs = inputs;
        accepts = accepted ready unread;
        sound = ready.is_link.status;
        status_is = refl;
        files = files_are;
        kinds = kinds_are;
        said = said ∙ ap (λ r. said_if_seen r say.written) ready.is_link.report;
        line_is = refl;
      })
      by Unreported (rose, (size, shorter, said)) = cannot_say (record {
        asked = asked;
        inputs = inputs;
        size = size;
        accepts = accepted ready unread;
        sound = ready.is_link.status;
        status_is = refl;
        faults = rose;
        files = files_are;
        kinds = kinds_are;
        shorter = subst (λ xs. size < length xs) ready.is_link.report shorter;
        said = said ∙ ap (λ r. said_if_seen (take size r) say.written) ready.is_link.report;
        line_is = refl;
      })
      by Memory said = absurd said
      by Refused said = absurd said
      by (Defective line) said = absurd said
      by (Unread line) said = absurd said
      by (Unwritten line) said = absurd said

-- the executable was written, and the map was not
pub map_cut : (asked : CommandView) (before now next after : Store) (inputs : List (List ℕ)) (linked : LinkedView) (name : List ℕ) (say : Output) (line : List ℕ)
    → IsReady asked before now inputs linked → asked.map ≡ Some name
    → next.files ≡ put_if_seen asked.output linked.exe now.files → next.kinds ≡ put_if_seen asked.output Executable now.kinds
    → Rises now.begun next.begun → now.faults ≤ next.faults → next.unread ≡ now.unread
    → IsCut next after name Plain linked.map → Rises next.begun after.begun → Rose next.faults after.faults
    → after.unread ≡ next.unread → line ≡ cannot_write name
    → Ends (Some asked) before after say say 3 line
map_cut asked before now next after inputs linked name say line ready map_is files kinds begun later unread left begun' faults unread' line_is =
    cannot_write_map (record {
      asked = asked;
      inputs = inputs;
      name = name;
      accepts = accepted asked before now after inputs linked ready (unread' ∙ unread);
      sound = ready.is_link.status;
      map_is = map_is;
      status_is = refl;
      begun = omega (arith, ready.inputs_are.untouched.begun, begun.later, begun'.rose, begun'.later);
      faults = omega (arith, ready.inputs_are.faults, later, faults);
      left = cut_from (with_file asked.output Executable (link (Some asked) inputs).executable before) next after name Plain _ _
          (files ∙ ap (put_if_seen asked.output linked.exe) ready.inputs_are.untouched.files
          ∙ ap (λ e. put_if_seen asked.output e before.files) ready.is_link.executable)
          (kinds ∙ ap (put_if_seen asked.output Executable) ready.inputs_are.untouched.kinds)
          ready.is_link.map left;
      quiet = refl;
      line_is = line_is;
    })

-- files or kinds where no map is asked, and where one is
pub without_map : {X : Type 0} (m : Option (List ℕ)) (value : X) (names after : Option (Named X)) → m ≡ None → after ≡ names → after ≡ with_map m value names
without_map m value names after none is = is ∙ sym (ap (λ o. with_map o value names) none)

pub with_that_map : {X : Type 0} (m : Option (List ℕ)) (name : List ℕ) (value : X) (names after : Option (Named X))
    → m ≡ Some name → after ≡ put_if_seen name value names → after ≡ with_map m value names
with_that_map m name value names after some is = is ∙ sym (ap (λ o. with_map o value names) some)
