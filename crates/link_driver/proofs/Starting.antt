-- The ends of a run before its inputs are linked.
use Rattle.std.proofs.Common.{◌≡◌, ◌⊎◌, ℕ, ◌<◌, List, [], ◌∷◌, length, take, OnOk, OnErr, Option, None, Some, Result, Ok, Err, sym, ◌∙◌, ap, refl, subst, inl, inr, arith}
use Rattle.lk_depot.specs.declared.stops.Failed.{Failed}
use Rattle.lk_depot.specs.Faults.{HasCause}
use Rattle.lk_depot.specs.Files.{Files}
use Rattle.lk_depot.specs.Store.{Store}
use Rattle.lk_depot.specs.Output.{Output, said_if_seen}
use Rattle.lk_depot.specs.Loading.{AreContents, AfterLoads, IsFirstLacking, name_at}
use Rattle.lk_depot.specs.Loading as loads
use Rattle.lk_base.specs.declared.defects.Defect.{Defect}
use Rattle.lk_depot.specs.declared.stops.LoadAllStop.{LoadAllStop}
use Rattle.lk_depot.specs.declared.stops.LoadAllStop.TheVariants as stop
use Rattle.lk_base.specs.declared.defects.LinkStop.{LinkStop}
use Rattle.lk_base.specs.declared.defects.LinkStop.TheVariants as link_stop
use Rattle.lk_base.specs.Firsts.{StopsAt}
use Rattle.lk_base.specs.Limits.{standard}
use Rattle.link_driver.specs.Phases.{IsLinked, Links}
use Rattle.link_passes.specs.Sources.{Source, shown_files, sources}
use Rattle.link_driver.specs.Linked.{LinkedView}
use Rattle.link_driver.specs.declared.driving.Ending.{Ending}
use Rattle.link_driver.specs.declared.driving.Ending.TheVariants.{Done, Memory, Refused, Unreported, Defective, Unread, Unwritten}
use Rattle.link_command.specs.Command.{CommandView}
use Rattle.link_passes.specs.Given.{contents_for, names_for}
use Rattle.link_driver.specs.Link.{Link, defects_in, defects_of, executable_in, link, link_with, line_in, line_of_defect, cannot_read, map_in, say_in}
use Rattle.link_driver.specs.Ends.{IsUntouched, IsUnread, none_failed, one_failed, Ends, finds_defect, cannot_read_input, lacks_memory, IsReported, reported_whole, reported_cut}
use Rattle.link_driver.specs.Endings.{status_of, reported_line, ReportsDefect, ReportsUnread, IsWithin, ReportsStop, ReportsLoadStop, AreLoaded}

-- memory ran out before anything was begun
pub lacking : (asked : Option CommandView) (before after : Store) (say : Output) → IsUntouched before after → IsUnread asked before after → Ends asked before after say say 4 []
lacking asked before after say untouched unread =
    lacks_memory (record { status_is = refl; unread = unread; untouched = untouched; quiet = refl; line_is = refl })

-- what an input that could not be read leaves of the list of such names
left_unread : (asked : CommandView) (before after : Store) (index : ℕ)
    → loads.FailedAt before after asked.inputs index ⊎ (IsFirstLacking before.files asked.inputs index × (after.unread ≡ before.unread))
    → IsUnread (Some asked) before after
left_unread asked before after index (inl failed) = one_failed asked index refl failed
left_unread asked before after index (inr lacking) = none_failed lacking.1

-- an input could not be read
pub unread_input : (asked : CommandView) (before after : Store) (say : Output) (index : ℕ) (ending : Ending)
    → loads.FailedAt before after asked.inputs index ⊎ (IsFirstLacking before.files asked.inputs index × (after.unread ≡ before.unread))
    → IsUntouched before after → ReportsUnread (cannot_read (name_at asked.inputs index)) ending
    → Ends (Some asked) before after say say (status_of ending) (reported_line ending)
unread_input asked before after say index Memory cause untouched telling =
    lacking (Some asked) before after say untouched (left_unread asked before after index cause)
unread_input asked before after say index (Unread line) cause untouched telling =
    cannot_read_input (record {
      asked = asked;
      index = index;
      asks = refl;
      cause = cause;
      status_is = refl;
      untouched = untouched;
      quiet = refl;
      line_is = telling;
    })
unread_input asked before after say index Done cause untouched telling = absurd telling
unread_input asked before after say index (Defective line) cause untouched telling = absurd telling
unread_input asked before after say index (Unwritten line) cause untouched telling = absurd telling
unread_input asked before after say index Refused cause untouched telling = absurd telling
unread_input asked before after say index Unreported cause untouched telling = absurd telling

-- the inputs have a defect
pub found_defect : (asked : CommandView) (before now : Store) (say : Output) (given : List (List ℕ)) (defect : Defect) (later : List Defect) (ending : Ending)
    → AreLoaded asked before now given → defects_of standard asked (contents_for asked given) ≡ defect ∷ later
    → ReportsDefect (line_of_defect asked (contents_for asked given) defect) ending
    → Ends (Some asked) before now say say (status_of ending) (reported_line ending)
unfolding link
found_defect asked before now say given defect later Memory loaded found telling =
    lacking (Some asked) before now say loaded.untouched (none_failed loaded.unread)
found_defect asked before now say given defect later (Defective line) loaded found telling =
    let inputs = contents_for asked given in
    let gives : link (Some asked) given ≡ link_with asked inputs (defect ∷ later) = ap (link_with asked inputs) found in
    finds_defect (record {
      asked = asked;
      inputs = given;
      accepts = record { asks = refl; loaded = loaded.loaded; unread = loaded.unread };
      defective = ap (λ (l : Link). l.status) gives;
      status_is = refl;
      untouched = loaded.untouched;
      quiet = refl;
      line_is = telling ∙ sym (ap (λ (l : Link). l.err) gives);
    })
found_defect asked before now say given defect later Done loaded found telling = absurd telling
found_defect asked before now say given defect later (Unread line) loaded found telling = absurd telling
found_defect asked before now say given defect later (Unwritten line) loaded found telling = absurd telling
found_defect asked before now say given defect later Refused loaded found telling = absurd telling
found_defect asked before now say given defect later Unreported loaded found telling = absurd telling

-- a line was written, or some of its first bytes
pub told_so : (r : Result (Unit {0}) Failed) (line : List ℕ) (err err' : Output)
    → OnOk r (err'.written ≡ said_if_seen line err.written)
    → OnErr r ((n : ℕ) × (n < length line) × (err'.written ≡ said_if_seen (take n line) err.written))
    → HasCause err.faults err'.faults r → IsReported line err err'
told_so (Ok _) line err err' whole cut cause = reported_whole whole
told_so (Err _) line err err' whole cut cause = reported_cut cut.0 cut.1 cause.failed cut.2

-- the inputs were not loaded
pub not_loaded : (asked : CommandView) (names : List (List ℕ)) (before after : Store) (say : Output) (stop : LoadAllStop) (ending : Ending)
    → names ≡ asked.inputs → AfterLoads before after names (Err stop) → IsUntouched before after → ReportsLoadStop asked stop ending
    → Ends (Some asked) before after say say (status_of ending) (reported_line ending)
not_loaded asked names before after say (stop.Absent index) ending same cause untouched telling =
    unread_input asked before after say index ending (inr (rw same at cause)) untouched telling
not_loaded asked names before after say (stop.Failed index) ending same cause untouched telling =
    unread_input asked before after say index ending (inl (rw same at cause)) untouched telling
not_loaded asked names before after say stop.Memory ending same cause untouched telling =
    rw telling (lacking (Some asked) before after say untouched (none_failed cause))

-- no file is asked for
none_there : (files : Option Files) → AreContents files [] []
none_there None = record { as_many = refl; found = tt }
none_there (Some m) = record { as_many = refl; found = refl }

pub nothing_loaded : (asked : CommandView) (before : Store) → asked.inputs ≡ [] → AreLoaded asked before before []
nothing_loaded asked before none =
    let P : List (List ℕ) → Type 0 = λ names. AreContents before.files names [] in
    record {
      loaded = subst P (sym none) (none_there before.files);
      unread = refl;
      untouched = record { files = refl; kinds = refl; begun = refl };
      faults = omega arith;
    }

pub load_within : (names : List (List ℕ)) (before after : Store) (stop : LoadAllStop) → AfterLoads before after names (Err stop) → IsWithin names stop
load_within names before after (stop.Absent index) cause = cause.0.within
load_within names before after (stop.Failed index) cause = cause.within
load_within names before after stop.Memory cause = tt

-- the line of a defect, by the files of the link
pub line_is : (asked : CommandView) (inputs : List (List ℕ)) (ss : List Source) (defect : Defect) (line : List ℕ) → ss ≡ sources standard inputs →
    line ≡ line_in asked inputs ss defect → line ≡ line_of_defect asked inputs defect
unfolding line_of_defect
line_is asked inputs ss defect line are is = is ∙ ap (λ l. line_in asked inputs l defect) are

-- the inputs, of which these are the bytes, were not linked
pub not_linked : (asked : CommandView) (before now : Store) (say : Output) (given inputs : List (List ℕ)) (ss : List Source) (stop : LinkStop) (ending : Ending)
    → AreLoaded asked before now given → inputs ≡ contents_for asked given → ss ≡ sources standard inputs → StopsAt stop (defects_in standard asked ss)
    → ReportsStop asked inputs stop ending → Ends (Some asked) before now say say (status_of ending) (reported_line ending)
not_linked asked before now say given inputs ss (link_stop.Defect defect) ending loaded bytes are found telling =
    let P : List (List ℕ) → Type 0 = λ i. ReportsDefect (line_of_defect asked i defect) ending in
    found_defect asked before now say given defect found.0 ending loaded
    (ap (λ i. defects_in standard asked (sources standard i)) (sym bytes) ∙ ap (defects_in standard asked) (sym are) ∙ found.1) (subst P bytes telling)
not_linked asked before now say given inputs ss link_stop.Memory ending loaded bytes are found telling =
    rw telling (lacking (Some asked) before now say loaded.untouched (none_failed loaded.unread))

-- what a link without a defect gives is what Link is: of inputs with these names and bytes
pub is_linked : (asked : CommandView) (given names inputs : List (List ℕ)) (ss : List Source) (linked : LinkedView) → names ≡ names_for asked → inputs ≡ contents_for asked given
    → ss ≡ sources standard inputs → Links standard asked (shown_files names inputs ss) ss linked → IsLinked asked given linked
unfolding link
is_linked asked given names inputs ss linked named bytes are links =
    let held = contents_for asked given in
    let are' : ss ≡ sources standard held = are ∙ ap (sources standard) bytes in
    let shown : shown_files names inputs ss ≡ shown_files (names_for asked) held (sources standard held) =
    ap (λ n. shown_files n inputs ss) named ∙ ap (λ i. shown_files (names_for asked) i ss) bytes ∙ ap (shown_files (names_for asked) held) are' in
    let none : defects_of standard asked held ≡ [] = ap (defects_in standard asked) (sym are') ∙ links.sound in
    let gives : link (Some asked) given ≡ link_with asked held [] = ap (link_with asked held) none in
    record {
      status = ap (λ (l : Link). l.status) gives;
      executable = links.gives.executable ∙ ap (executable_in asked) are' ∙ sym (ap (λ (l : Link). l.executable) gives);
      map = links.gives.map ∙ ap (map_in asked ss) shown ∙ ap (λ s. map_in asked s (shown_files (names_for asked) held (sources standard held))) are'
          ∙ sym (ap (λ (l : Link). l.map) gives);
      report = links.gives.report ∙ ap (say_in asked ss) shown ∙ ap (λ s. say_in asked s (shown_files (names_for asked) held (sources standard held))) are'
          ∙ sym (ap (λ (l : Link). l.say) gives);
    }
