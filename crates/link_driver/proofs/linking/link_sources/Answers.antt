use Rattle.std.proofs.Common.{◌≡◌, ◌∙◌, List, [], ◌∷◌, ◌++◌, true, refl, ap, sym, subst, ℕ, IfOk, Bool}
use Rattle.std.specs.Global.{Vec}
use Rattle.std.specs.Prelude.{Result, Ok, Err, IfSome}
use Rattle.std.proofs.lemmas.Bool.{or_left, or_right}
use Rattle.std.proofs.lemmas.Result.{err_from_is_err_and}
use Rattle.comdat.specs.Discarded.{discarded}
use Rattle.elf_out.specs.Executable.{own_tables}
use Rattle.elf_out.specs.Prepared.{IsPrepared}
use Rattle.file_live.specs.Live.{IsLive}
use Rattle.link_command.specs.Command.{command_view, lists_of}
use Rattle.lk_base.specs.declared.defects.Defect.{Defect}
use Rattle.lk_base.specs.declared.defects.LinkStop.{LinkStop}
use Rattle.lk_base.specs.declared.limits.Limits.{Limits}
use Rattle.lk_base.specs.Firsts.{Goes, StopsAt}
use Rattle.lk_tables.specs.BoundNames.{binding_defects}
use Rattle.lk_tables.specs.BindingView.{binding_view}
use Rattle.lk_tables.specs.TablesView.{files_of}
use Rattle.link_driver.specs.declared.writing.Settled.{Settled}
use Rattle.link_driver.specs.Linked.{IsSettled, LinkedView, settled_view, with_why}
use Rattle.link_driver.specs.Placing.{laid_by}
use Rattle.link_driver.specs.Certificates.{asks_why, why_text}
use Rattle.link_passes.specs.Contents.{input_contents, input_names, names_of, sources_of}
use Rattle.link_passes.specs.Passes.{LinkOptions, barred_of, bound_names, kept_of, piece_defects, link_options_for, link_options_of}
use Rattle.link_driver.specs.Link.{bound_in, kept_in, last_phases, linked_files, placing_defects, placing_phases, link_options_in}
use Rattle.link_driver.specs.Phases.{HoldsAtStop, HoldsPast, LinkStands, Links, Makes, ShortenedCallsReach}
use Rattle.link_passes.specs.Sources.{Source, files_in, heads_in, live_in, shown_files}
use Rattle.link_passes.specs.Tables.{IsCollected, IsGraph, link_options}
use Rattle.link_passes.specs.Defects.{opening_defects, reading_defects}
use Rattle.lk_tables.specs.Binding.{first_phase}
use Rattle.link_driver.proofs.AtStops.{anywhere_once_read, ends_for_memory, lacks_memory, stops_at, stops_early}
use Rattle.link_driver.proofs.Chain.{at_reading, at_binding, at_last, at_pieces, no_defects}
use Rattle.link_driver.proofs.FewPieces.{few_pieces}
use Rattle.link_passes.proofs.Handing.{binding_is}
use Rattle.link_driver.proofs.Handing.{bound_are, gives_all, holds_in, made_as, why_as}
use Rattle.link_driver.proofs.Passing.{early_binding, early_pieces, early_reading, past_on, placing_left}
use Rattle.sym_resolve.specs.Law.{IsLawful}
use Rattle.link_driver.proofs.linking.link_sources.Goals as goal

-- the names that a command asks for, as it lends them
abbrev Undefined : List (List ℕ) → Limits → List Source → List Defect
Undefined undefined limits ss = first_phase (reading_defects limits ss ∷ opening_defects limits undefined ss ∷ [])

pub returns-in_err-tables : goal.returns-in_err-tables
returns-in_err-tables g c =
    let p = err_from_is_err_and c.from_residual.result c.from_residual.ensures.1 in
    let limits = c.args.limits.now in
    let asked = command_view c.args.command.now in
    let ss = sources_of c.args.sources.now in
    let stop = c.in_err-tables.field-0.0 in
    let P : List (List ℕ) → Type 0 = λ u. StopsAt stop (Undefined u limits ss) in
    let at = subst P (ap lists_of c.as_slice-undefined.ensures.value) c.in_err-tables.ensures.goes in
    rw (p.1, p.2) (stops_early limits c.requires.limits asked ss stop (at_reading limits asked ss stop at) (early_reading limits asked ss stop at))

-- what a call of two answers says of one, once it is known which it is
found : {X : Type 0} (ds : List Defect) (r s : Result X LinkStop) → r ≡ s → Goes r ds → Goes s ds
found {X} ds r s is goes = let P : Result X LinkStop → Type 0 = λ x. Goes x ds in subst P is goes

told_of : {X E : Type 0} (P : X → Type 0) (r : Result X E) (x : X) → r ≡ Ok x → IfOk r P → P x
told_of {X} {E} P r x is holds = let Q : Result X E → Type 0 = λ s. IfOk s P in subst Q is holds

pub returns-in_err-few : goal.returns-in_err-few
returns-in_err-few g c =
    let p = err_from_is_err_and c.from_residual-in_err-few.result c.from_residual-in_err-few.ensures.1 in
    let limits = c.args.limits.now in
    let asked = command_view c.args.command.now in
    let ss = sources_of c.args.sources.now in
    let files = files_of c.in_ok-tables.tables in
    let stop = c.in_err-few.field-0.0 in
    let same = ap lists_of c.as_slice-undefined.ensures.value in
    let U : List (List ℕ) → Type 0 = λ u. Undefined u limits ss ≡ [] in
    let read = subst U same c.in_ok-tables.ensures.goes in
    let are = c.in_ok-tables.ensures.tables ∙ ap (λ u. files_in u ss) same in
    let many = found (piece_defects limits files) c.bind_and_count-few.result.0 (Err stop) c.in_err-few.was c.bind_and_count-few.ensures.few in
    rw (p.1, p.2) (stops_early limits c.requires.limits asked ss stop
    (at_pieces limits asked ss read files are stop many)
    (early_pieces limits asked ss read files are stop many))

pub returns-in_err-binding : goal.returns-in_err-binding
returns-in_err-binding g c =
    let p = err_from_is_err_and c.from_residual-in_err-binding.result c.from_residual-in_err-binding.ensures.1 in
    let limits = c.args.limits.now in
    let asked = command_view c.args.command.now in
    let ss = sources_of c.args.sources.now in
    let files = files_of c.in_ok-tables.tables in
    let stop = c.in_err-binding.field-0.0 in
    let same = ap lists_of c.as_slice-undefined.ensures.value in
    let U : List (List ℕ) → Type 0 = λ u. Undefined u limits ss ≡ [] in
    let read = subst U same c.in_ok-tables.ensures.goes in
    let are = c.in_ok-tables.ensures.tables ∙ ap (λ u. files_in u ss) same in
    let few = found (piece_defects limits files) c.bind_and_count-few.result.0 (Ok c.in_ok-few.field-0) c.in_ok-few.was c.bind_and_count-few.ensures.few in
    let P : List ℕ → Type 0 = λ entry. StopsAt stop (binding_defects files (discarded files) entry) in
    let at = subst P c.as_str-entry.ensures.value
    (found (binding_defects files (discarded files) c.as_str-entry.result.now) c.bind_and_count-few.result.1 (Err stop) c.in_err-binding.was c.bind_and_count-few.ensures.goes) in
    rw (p.1, p.2) (stops_early limits c.requires.limits asked ss stop
    (at_binding limits asked ss read files are few stop at)
    (early_binding limits asked ss read files are few stop at))

pub find_kept_by-requires-clause-bound : goal.find_kept_by-requires-clause-bound
find_kept_by-requires-clause-bound g c = λ κs within.
    let files = files_of c.in_ok-tables.tables in
    binding_is c.as_str-entry.result.now files (binding_view c.in_ok-binding.binding)
    (told_of (λ binding. binding_view binding ≡ bound_names files c.as_str-entry.result.now) c.bind_and_count-few.result.1 c.in_ok-binding.binding c.in_ok-binding.was c.bind_and_count-few.ensures.names)

pub link_and_explain-made-requires-clause-bound : goal.link_and_explain-made-requires-clause-bound
link_and_explain-made-requires-clause-bound g c = λ κs within.
    let files = files_of c.in_ok-tables.tables in
    binding_is c.as_str-entry.result.now files (binding_view c.in_ok-binding.binding)
    (told_of (λ binding. binding_view binding ≡ bound_names files c.as_str-entry.result.now) c.bind_and_count-few.result.1 c.in_ok-binding.binding c.in_ok-binding.was c.bind_and_count-few.ensures.names)

pub link_and_explain-made-requires-clause-pieces : goal.link_and_explain-made-requires-clause-pieces
link_and_explain-made-requires-clause-pieces g c = λ κs within.
    let files = files_of c.in_ok-tables.tables in
    few_pieces c.args.limits.now files c.requires.limits
    (found (piece_defects c.args.limits.now files) c.bind_and_count-few.result.0 (Ok c.in_ok-few.field-0) c.in_ok-few.was c.bind_and_count-few.ensures.few)

pub link_and_explain-made-requires-clause-graph : goal.link_and_explain-made-requires-clause-graph
link_and_explain-made-requires-clause-graph g c = λ κs within.
    let files = files_of c.in_ok-tables.tables in
    let P : List (List ℕ) → Type 0 = λ u. IfSome c.in_ok-kept.graph (IsGraph files (binding_view c.in_ok-binding.binding) u) in
    subst P (ap lists_of c.as_slice-undefined.ensures.value) c.in_ok-kept.ensures.graph

pub find_barred-requires : goal.find_barred-requires
find_barred-requires g c =
    let files = files_of c.in_ok-tables.tables in
    binding_is c.as_str-entry.result.now files (binding_view c.in_ok-binding.binding)
    (told_of (λ binding. binding_view binding ≡ bound_names files c.as_str-entry.result.now) c.bind_and_count-few.result.1 c.in_ok-binding.binding c.in_ok-binding.was c.bind_and_count-few.ensures.names)

pub returns-in_err-settled : goal.returns-in_err-settled
returns-in_err-settled g c =
    let p = err_from_is_err_and c.from_residual-in_err-settled.result c.from_residual-in_err-settled.ensures.1 in
    let limits = c.args.limits.now in
    let asked = command_view c.args.command.now in
    let ss = sources_of c.args.sources.now in
    let files = files_of c.in_ok-tables.tables in
    let asks_for = ap lists_of c.as_slice-undefined.ensures.value in
    let U : List (List ℕ) → Type 0 = λ u. Undefined u limits ss ≡ [] in
    let read = subst U asks_for c.in_ok-tables.ensures.goes in
    let are = c.in_ok-tables.ensures.tables ∙ ap (λ u. files_in u ss) asks_for in
    let few = found (piece_defects c.args.limits.now files) c.bind_and_count-few.result.0 (Ok c.in_ok-few.field-0) c.in_ok-few.was c.bind_and_count-few.ensures.few in
    let goes = found (binding_defects files (discarded files) c.as_str-entry.result.now) c.bind_and_count-few.result.1 (Ok c.in_ok-binding.binding) c.in_ok-binding.was c.bind_and_count-few.ensures.goes in
    let same = told_of (λ binding. binding_view binding ≡ bound_names files c.as_str-entry.result.now) c.bind_and_count-few.result.1 c.in_ok-binding.binding c.in_ok-binding.was c.bind_and_count-few.ensures.names in
    let b = binding_view c.in_ok-binding.binding in
    let kept = c.as_slice-2.result.now in
    let stop = c.in_err-settled.field-0.0 in
    let named = same ∙ ap (bound_names files) c.as_str-entry.ensures.value in
    let stays = c.as_slice-2.ensures.value ∙ c.in_ok-kept.ensures.kept ∙ ap (λ u. kept_of asked.gc u files b) asks_for in
    let barred = c.as_slice-3.ensures.value ∙ c.in_ok-barred.ensures ∙ ap (λ u. barred_of asked.icf u files b c.as_slice.result.now) (ap lists_of c.as_slice-unique.ensures.value)
    ∙ ap (barred_of asked.icf asked.unique files b) (c.as_slice.ensures.value ∙ sym c.as_slice-2.ensures.value) in
    let w = link_options_for asked files b kept in
    let link_options_are : link_options c.options_of-options.result c.as_slice-3.result.now ≡ w =
    c.options_of-options.ensures c.as_slice-3.result.now ∙ ap (link_options_of asked) barred in
    let bound = ap (binding_defects files (discarded files)) (sym c.as_str-entry.ensures.value) ∙ goes in
    let v = link_options c.options_of-options.result c.as_slice-3.result.now in
    let H : Result Settled LinkStop → Type 0 = λ r. HoldsPast r (first_phase (placing_phases limits v files b kept)) (ShortenedCallsReach v files b kept) in
    let stops = found (first_phase (last_phases limits v files b kept)) c.link_and_explain-made.result.0 (Err stop) c.in_err-settled.was c.link_and_explain-made.ensures.goes in
    let holds = subst H c.in_err-settled.was c.link_and_explain-made.ensures.reach in
    let P : LinkOptions → Type 0 = λ u. StopsAt stop (first_phase (last_phases limits u files b kept)) in
    let Q : LinkOptions → Type 0 = λ u. HoldsAtStop stop (first_phase (placing_phases limits u files b kept)) (ShortenedCallsReach u files b kept) in
    rw (p.1, p.2) (stops_at limits c.requires.limits asked ss stop
    (at_last limits asked ss read files are few bound b named kept stays stop (subst P link_options_are stops))
    (past_on stop (first_phase (placing_phases limits w files b kept)) (placing_defects limits asked ss) (ShortenedCallsReach w files b kept)
    (ShortenedCallsReach (link_options_in asked ss) (linked_files asked ss) (bound_in asked ss) (kept_in asked ss))
    (λ none. sym (placing_left limits asked ss read files are few bound b named kept stays) ∙ none)
    (holds_in asked ss ShortenedCallsReach files b kept are named stays)
    (subst Q link_options_are holds)))

pub of-requires-clause-addresses : goal.of-requires-clause-addresses
of-requires-clause-addresses g c =
    let files = files_of c.in_ok-tables.tables in
    let b = binding_view c.in_ok-binding.binding in
    let strip = c.options_of-options.result.strip in
    let settled = c.in_ok-settled.settled in
    let is : IsSettled files b c.as_slice-2.result.now strip settled =
    told_of (IsSettled files b c.as_slice-2.result.now strip) c.link_and_explain-made.result.0 settled c.in_ok-settled.was c.link_and_explain-made.ensures.settled in
    is.made.addresses

pub of-requires-clause-prepared : goal.of-requires-clause-prepared
of-requires-clause-prepared g c =
    let files = files_of c.in_ok-tables.tables in
    let b = binding_view c.in_ok-binding.binding in
    let strip = c.options_of-options.result.strip in
    let settled = c.in_ok-settled.settled in
    let is : IsSettled files b c.as_slice-2.result.now strip settled =
    told_of (IsSettled files b c.as_slice-2.result.now strip) c.link_and_explain-made.result.0 settled c.in_ok-settled.was c.link_and_explain-made.ensures.settled in
    let leaders = settled.placement.leaders.items in
    let laid = laid_by files settled.placement in
    let P : List Bool → Type 0 = λ k. IsPrepared files b leaders laid (own_tables files b k strip leaders laid) settled.written.prepared in
    subst P c.as_slice-2.ensures.value is.made.prepared

pub of-requires-clause-window : goal.of-requires-clause-window
of-requires-clause-window g c =
    let files = files_of c.in_ok-tables.tables in
    let b = binding_view c.in_ok-binding.binding in
    let strip = c.options_of-options.result.strip in
    let settled = c.in_ok-settled.settled in
    let is : IsSettled files b c.as_slice-2.result.now strip settled =
    told_of (IsSettled files b c.as_slice-2.result.now strip) c.link_and_explain-made.result.0 settled c.in_ok-settled.was c.link_and_explain-made.ensures.settled in
    is.made.window

pub of-requires-clause-listed : goal.of-requires-clause-listed
of-requires-clause-listed g c =
    let files = files_of c.in_ok-tables.tables in
    let b = binding_view c.in_ok-binding.binding in
    let strip = c.options_of-options.result.strip in
    let settled = c.in_ok-settled.settled in
    let is : IsSettled files b c.as_slice-2.result.now strip settled =
    told_of (IsSettled files b c.as_slice-2.result.now strip) c.link_and_explain-made.result.0 settled c.in_ok-settled.was c.link_and_explain-made.ensures.settled in
    is.listed

pub of-requires-clause-uses : goal.of-requires-clause-uses
of-requires-clause-uses g c =
    let files = files_of c.in_ok-tables.tables in
    let b = binding_view c.in_ok-binding.binding in
    let strip = c.options_of-options.result.strip in
    let settled = c.in_ok-settled.settled in
    let is : IsSettled files b c.as_slice-2.result.now strip settled =
    told_of (IsSettled files b c.as_slice-2.result.now strip) c.link_and_explain-made.result.0 settled c.in_ok-settled.was c.link_and_explain-made.ensures.settled in
    is.uses

pub of-requires-clause-sound : goal.of-requires-clause-sound
of-requires-clause-sound g c =
    let files = files_of c.in_ok-tables.tables in
    let b = binding_view c.in_ok-binding.binding in
    let strip = c.options_of-options.result.strip in
    let settled = c.in_ok-settled.settled in
    let is : IsSettled files b c.as_slice-2.result.now strip settled =
    told_of (IsSettled files b c.as_slice-2.result.now strip) c.link_and_explain-made.result.0 settled c.in_ok-settled.was c.link_and_explain-made.ensures.settled in
    is.sound

pub returns-in_err-frames : goal.returns-in_err-frames
returns-in_err-frames g c =
    let ss = sources_of c.args.sources.now in
    ends_for_memory c.args.limits.now c.requires.limits (command_view c.args.command.now) ss (shown_files (input_names c.args.inputs.now) (input_contents c.args.inputs.now) ss)
    c.from_residual-in_err-frames.result c.from_residual-in_err-frames.ensures.1

pub returns-in_err-kept : goal.returns-in_err-kept
returns-in_err-kept g c =
    let ss = sources_of c.args.sources.now in
    ends_for_memory c.args.limits.now c.requires.limits (command_view c.args.command.now) ss (shown_files (input_names c.args.inputs.now) (input_contents c.args.inputs.now) ss)
    c.from_residual-in_err-kept.result c.from_residual-in_err-kept.ensures.1

pub returns-in_err-barred : goal.returns-in_err-barred
returns-in_err-barred g c =
    let ss = sources_of c.args.sources.now in
    ends_for_memory c.args.limits.now c.requires.limits (command_view c.args.command.now) ss (shown_files (input_names c.args.inputs.now) (input_contents c.args.inputs.now) ss)
    c.from_residual-in_err-barred.result c.from_residual-in_err-barred.ensures.1

pub returns-in_err-names : goal.returns-in_err-names
returns-in_err-names g c =
    let ss = sources_of c.args.sources.now in
    ends_for_memory c.args.limits.now c.requires.limits (command_view c.args.command.now) ss (shown_files (input_names c.args.inputs.now) (input_contents c.args.inputs.now) ss)
    c.from_residual-in_err-names.result c.from_residual-in_err-names.ensures.1

pub returns-in_default : goal.returns-in_default
returns-in_default g c = lacks_memory c.args.limits.now c.requires.limits (command_view c.args.command.now) (sources_of c.args.sources.now)

pub returns-in_default-of : goal.returns-in_default-of
returns-in_default-of g c = lacks_memory c.args.limits.now c.requires.limits (command_view c.args.command.now) (sources_of c.args.sources.now)

pub returns : goal.returns
returns g c =
    let limits = c.args.limits.now in
    let asked = command_view c.args.command.now in
    let ss = sources_of c.args.sources.now in
    let files = files_of c.in_ok-tables.tables in
    let asks_for = ap lists_of c.as_slice-undefined.ensures.value in
    let U : List (List ℕ) → Type 0 = λ u. Undefined u limits ss ≡ [] in
    let read = subst U asks_for c.in_ok-tables.ensures.goes in
    let are = c.in_ok-tables.ensures.tables ∙ ap (λ u. files_in u ss) asks_for in
    let few = found (piece_defects c.args.limits.now files) c.bind_and_count-few.result.0 (Ok c.in_ok-few.field-0) c.in_ok-few.was c.bind_and_count-few.ensures.few in
    let goes = found (binding_defects files (discarded files) c.as_str-entry.result.now) c.bind_and_count-few.result.1 (Ok c.in_ok-binding.binding) c.in_ok-binding.was c.bind_and_count-few.ensures.goes in
    let same = told_of (λ binding. binding_view binding ≡ bound_names files c.as_str-entry.result.now) c.bind_and_count-few.result.1 c.in_ok-binding.binding c.in_ok-binding.was c.bind_and_count-few.ensures.names in
    let b = binding_view c.in_ok-binding.binding in
    let shown = shown_files (input_names c.args.inputs.now) (input_contents c.args.inputs.now) ss in
    let named = same ∙ ap (bound_names files) c.as_str-entry.ensures.value in
    let kept = c.as_slice-2.result.now in
    let stays = c.as_slice-2.ensures.value ∙ c.in_ok-kept.ensures.kept ∙ ap (λ u. kept_of asked.gc u files b) asks_for in
    let barred = c.as_slice-3.ensures.value ∙ c.in_ok-barred.ensures ∙ ap (λ u. barred_of asked.icf u files b c.as_slice.result.now) (ap lists_of c.as_slice-unique.ensures.value)
    ∙ ap (barred_of asked.icf asked.unique files b) (c.as_slice.ensures.value ∙ sym c.as_slice-2.ensures.value) in
    let w = link_options_for asked files b kept in
    let link_options_are : link_options c.options_of-options.result c.as_slice-3.result.now ≡ w =
    c.options_of-options.ensures c.as_slice-3.result.now ∙ ap (link_options_of asked) barred in
    let given = c.as_slice-4.result.now in
    let strip = c.options_of-options.result.strip in
    let settled = c.in_ok-settled.settled in
    let linked : LinkedView = settled_view files b kept strip settled in
    let exe = linked.exe in
    let v = link_options c.options_of-options.result c.as_slice-3.result.now in
    let made = c.link_and_explain-made.result.0 in
    let none = found (first_phase (last_phases limits v files b kept)) made (Ok settled) c.in_ok-settled.was c.link_and_explain-made.ensures.goes in
    let stands = told_of (λ s. LinkStands v files b kept (settled_view files b kept strip s).exe) made settled c.in_ok-settled.was c.link_and_explain-made.ensures.stands in
    let written = told_of (λ s. Makes v (names_of given) files b kept (settled_view files b kept strip s)) made settled c.in_ok-settled.was c.link_and_explain-made.ensures.written in
    let H : Result Settled LinkStop → Type 0 = λ x. HoldsPast x (first_phase (placing_phases limits v files b kept)) (ShortenedCallsReach v files b kept) in
    let holds = subst H c.in_ok-settled.was c.link_and_explain-made.ensures.reach in
    let P : LinkOptions → Type 0 = λ u. first_phase (last_phases limits u files b kept) ≡ [] in
    let Q : LinkOptions → Type 0 = λ u. LinkStands u files b kept exe in
    let R : LinkOptions → Type 0 = λ u. Makes u (names_of given) files b kept linked in
    let S : LinkOptions → Type 0 = λ u. ShortenedCallsReach u files b kept in
    let L : List (List ℕ) → Type 0 = λ u. IsLive u (heads_in ss) (live_in u ss) in
    let C : List (List ℕ) → Type 0 = λ u. IsCollected u files b c.in_ok-kept.kept.items in
    let wanted : LinkOptions → Type 0 = λ u. u.map ≡ true → names_of given ≡ shown in
    let shows = c.wants_names.ensures in
    let alike = subst wanted link_options_are (λ on. ap names_of c.as_slice-4.ensures.value
    ∙ c.in_ok-names.ensures (shows ∙ or_left c.options_of-options.result.map (asks_why asked) on)) in
    let text = c.as_slice-5.result.now in
    let said : LinkedView = with_why text linked in
    let said_is : c.hold.new.self ≡ said =
    c.hold.ensures ∙ c.in-Ok-of.ensures ∙ ap (λ (k : List Bool). with_why text (settled_view files b k strip settled)) (sym c.as_slice-2.ensures.value) in
    let Given : LinkedView → Type 0 = λ x. Links limits asked shown ss x in
    let why = c.in-Ok.why.items in
    let named_again : asks_why asked ≡ true → names_of given ≡ shown = λ on. ap names_of c.as_slice-4.ensures.value
    ∙ c.in_ok-names.ensures (shows ∙ or_right c.options_of-options.result.map (asks_why asked) on) in
    let why_is : why ≡ why_text asked shown files b kept w.barred =
    told_of (λ (l : Vec ℕ). l.items ≡ why_text asked (names_of given) files b kept c.as_slice-3.result.now) c.link_and_explain-made.result.1 c.in-Ok.why c.in-Ok.is c.link_and_explain-made.ensures.why
    ∙ ap (why_text asked (names_of given) files b kept) barred ∙ why_as asked (names_of given) shown files b kept w.barred named_again in
    subst Given (sym said_is) (record {
      sound = no_defects limits asked ss read files are few
          (ap (binding_defects files (discarded files)) (sym c.as_str-entry.ensures.value) ∙ goes)
          b named kept stays (subst P link_options_are none);
      taking_part = subst L asks_for c.in_ok-tables.ensures.taking_part;
      anywhere = anywhere_once_read limits c.requires.limits asked ss read;
      bound = bound_are c.as_str-entry.result.now asked.entry files (linked_files asked ss) are c.as_str-entry.ensures.value
          (told_of (λ _. IsLawful files (discarded files) c.as_str-entry.result.now (bound_names files c.as_str-entry.result.now)) c.bind_and_count-few.result.1 c.in_ok-binding.binding c.in_ok-binding.was c.bind_and_count-few.ensures.least);
      collected = λ gc. holds_in asked ss (λ v fs n k. IsCollected asked.undefined fs n k) files b c.in_ok-kept.kept.items are named
          (c.in_ok-kept.ensures.kept ∙ ap (λ u. kept_of asked.gc u files b) asks_for) (subst C asks_for (c.in_ok-kept.ensures.collected gc));
      stands = holds_in asked ss (λ v fs n k. LinkStands v fs n k exe) files b kept are named stays (subst Q link_options_are stands);
      reach = holds_in asked ss ShortenedCallsReach files b kept are named stays (subst S link_options_are holds);
      gives = gives_all asked shown ss linked said why
          (holds_in asked ss (λ v fs n k. Makes v shown fs n k linked) files b kept are named stays
          (made_as w (names_of given) shown files b kept linked alike (subst R link_options_are written)))
          refl refl (ap (λ l. linked.report ++ l) c.as_slice-5.ensures.value)
          (holds_in asked ss (λ v fs n k. why ≡ why_text asked shown fs n k v.barred) files b kept are named stays why_is);
    })

pub invariant_of-tables-in_default : goal.invariant_of-tables-in_default
invariant_of-tables-in_default g c =
    let tables = c.in_ok-tables.tables in
    record { few = tables.few; symbols = tables.symbols; sections = tables.sections; owners = tables.owners; numbered = tables.numbered }
