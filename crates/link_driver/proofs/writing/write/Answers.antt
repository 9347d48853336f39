use Rattle.std.proofs.Common.{◌≡◌, ℕ, List, [], Option, Result, IfOk, refl, sym, ap, ◌∙◌, subst}
use Rattle.std.specs.Prelude.{if◌then◌else◌}
use Rattle.std.proofs.lemmas.Result.{err_from_is_err_and}
use Rattle.lk_base.specs.declared.defects.Defect.{Defect}
use Rattle.lk_base.specs.Firsts.{Goes, StopsAt}
use Rattle.lk_base.specs.declared.defects.LinkStop.{LinkStop}
use Rattle.link_driver.specs.Code.{HaveOwnCuts}
use Rattle.link_sections.specs.GotUses.{HasAllUses}
use Rattle.elf_out.specs.Executable.{FrameContents, executable, own_tables}
use Rattle.elf_out.specs.Prepared.{IsPrepared}
use Rattle.elf_out.specs.declared.prepared.Prepared.{Prepared}
use Rattle.elf_out.specs.Standing.{FitFrames, FramesStand}
use Rattle.elf_out.specs.TablesView.{frame_contents}
use Rattle.link_sections.specs.Addresses.{entry_address, symbol_addresses}
use Rattle.link_sections.specs.declared.got.GotEntry.{GotEntry}
use Rattle.link_sections.specs.GotView.{entries_of}
use Rattle.link_sections.specs.LaidOut.{layout_view}
use Rattle.link_sections.specs.PoolViews.{pools_view}
use Rattle.eh_frame.specs.Plan.{plan_of}
use Rattle.lk_tables.specs.BindingView.{binding_view}
use Rattle.lk_tables.specs.FramePlans.{plan_view}
use Rattle.lk_tables.specs.Frames.{all_lists}
use Rattle.lk_tables.specs.TablesView.{files_of}
use Rattle.lk_tables.specs.declared.frames.FrameBytes.{FrameBytes}
use Rattle.reloc_apply.specs.Relocated.{relocation_defects}
use Rattle.map_file.specs.MapText.{map_text}
use Rattle.output_sections.specs.Items.{AreLeaders}
use Rattle.link_passes.specs.Contents.{names_of}
use Rattle.link_driver.specs.Link.{report_by}
use Rattle.link_driver.specs.Phases.{StandsWhole}
use Rattle.link_driver.specs.Placing.{laid_by}
use Rattle.link_passes.specs.Tables.{link_options}
use Rattle.link_driver.specs.Symbols.{SymbolsStand}
use Rattle.link_driver.specs.Unwound.{Unwinds}
use Rattle.link_driver.specs.Values.{Leaves, contents_with, value_defects}
use Rattle.link_driver.proofs.Counting.{table_is}
use Rattle.link_driver.proofs.Whole.{stands_so}
use Rattle.link_driver.proofs.writing.write.Goals as goal

pub make_in_parallel-framed-requires-clause-lead : goal.make_in_parallel-framed-requires-clause-lead
make_in_parallel-framed-requires-clause-lead g c = λ κs bound.
    let P : List (Option ℕ) → Type 0 = AreLeaders (files_of c.args.tables.now) (binding_view c.args.binding.now) in
    subst P (sym c.as_slice-leaders.ensures.value) c.requires.lead

pub make_in_parallel-framed-requires-clause-plan : goal.make_in_parallel-framed-requires-clause-plan
make_in_parallel-framed-requires-clause-plan g c = λ κs bound.
    let files = files_of c.args.tables.now in
    let b = binding_view c.args.binding.now in
    c.requires.plan ∙ ap (plan_of files b (laid_by files c.args.placement.now).merging.merged (all_lists files)) (sym c.as_slice-leaders.ensures.value)

pub prove_code_stands-requires-clause-cuts : goal.prove_code_stands-requires-clause-cuts
prove_code_stands-requires-clause-cuts g c =
    let files = files_of c.args.tables.now in
    let P : List (Option ℕ) → Type 0 = λ l. HaveOwnCuts files l (laid_by files c.args.placement.now) in
    subst P (sym c.as_slice-leaders.ensures.value) c.requires.cuts

pub returns-in_err-frames-clause-goes : goal.returns-in_err-frames-clause-goes
returns-in_err-frames-clause-goes g c =
    let p = err_from_is_err_and c.from_residual-in_err-frames.result c.from_residual-in_err-frames.ensures.1 in
    let files = files_of c.args.tables.now in
    let b = binding_view c.args.binding.now in
    let laid = laid_by files c.args.placement.now in
    let plan = plan_view c.args.placement.now.plan in
    let leaders = c.as_slice-leaders.result.now in
    let P : List (Option ℕ) → Type 0 = λ l. StopsAt c.in_err-frames.field-0.0 (value_defects files b l laid plan) in
    let G : Result FrameBytes LinkStop → Type 0 = λ r. Leaves r (value_defects files b leaders laid plan) (relocation_defects files b leaders laid) in
    rw (p.1, p.2) (subst P c.as_slice-leaders.ensures.value (subst G c.in_err-frames.was c.make_in_parallel-framed.ensures.goes))

pub returns-in_err-prepared-clause-goes : goal.returns-in_err-prepared-clause-goes
returns-in_err-prepared-clause-goes g c =
    let p = err_from_is_err_and c.from_residual-in_err-prepared.result c.from_residual-in_err-prepared.ensures.1 in
    let files = files_of c.args.tables.now in
    let b = binding_view c.args.binding.now in
    let laid = laid_by files c.args.placement.now in
    let plan = plan_view c.args.placement.now.plan in
    let stop = c.in_err-prepared.field-0.0 in
    let leaders = c.as_slice-leaders.result.now in
    let P : List (Option ℕ) → Type 0 = λ l. StopsAt stop (value_defects files b l laid plan) in
    let Q : List Defect → Type 0 = λ ds. StopsAt stop ds in
    let G : Result FrameBytes LinkStop → Type 0 = λ r. Leaves r (value_defects files b leaders laid plan) (relocation_defects files b leaders laid) in
    let H : Result Prepared LinkStop → Type 0 = λ r. Goes r (relocation_defects files b leaders laid) in
    rw (p.1, p.2) (subst P c.as_slice-leaders.ensures.value (subst Q (sym (subst G c.in_ok-frames.was c.make_in_parallel-framed.ensures.goes)) (subst H c.in_err-prepared.was c.make_in_parallel-framed.ensures.tested)))

pub returns-clause-goes : goal.returns-clause-goes
returns-clause-goes g c =
    let files = files_of c.args.tables.now in
    let b = binding_view c.args.binding.now in
    let laid = laid_by files c.args.placement.now in
    let plan = plan_view c.args.placement.now.plan in
    let leaders = c.as_slice-leaders.result.now in
    let G : Result FrameBytes LinkStop → Type 0 = λ r. Leaves r (value_defects files b leaders laid plan) (relocation_defects files b leaders laid) in
    let H : Result Prepared LinkStop → Type 0 = λ r. Goes r (relocation_defects files b leaders laid) in
    ap (λ l. value_defects files b l laid plan) (sym c.as_slice-leaders.ensures.value) ∙ subst G c.in_ok-frames.was c.make_in_parallel-framed.ensures.goes ∙ subst H c.in_ok-prepared.was c.make_in_parallel-framed.ensures.tested

pub returns-clause-made : goal.returns-clause-made
returns-clause-made g c =
    let files = files_of c.args.tables.now in
    let b = binding_view c.args.binding.now in
    let kept = c.args.kept.now in
    let strip = c.args.options.strip in
    let laid = laid_by files c.args.placement.now in
    let value = c.as_slice-leaders.ensures.value in
    let leaders = c.as_slice-leaders.result.now in
    let P : List (Option ℕ) → Type 0 = λ l. IsPrepared files b l laid (own_tables files b kept strip l laid) c.in_ok-prepared.prepared in
    let H : Result Prepared LinkStop → Type 0 = λ r. IfOk r (λ p. IsPrepared files b leaders laid (own_tables files b kept strip leaders laid) p) in
    record {
      addresses = record {
        symbols = c.in_ok-addresses.ensures.symbols ∙ ap (λ l. symbol_addresses files b l laid) value;
        entry = c.in_ok-addresses.ensures.entry ∙ ap (λ l. entry_address files b l laid) value;
      };
      prepared = subst P value (subst H c.in_ok-prepared.was c.make_in_parallel-framed.ensures.prepared);
      window = c.in_ok-window.ensures;
    }

pub returns-clause-written : goal.returns-clause-written
returns-clause-written g c =
    let files = files_of c.args.tables.now in
    let b = binding_view c.args.binding.now in
    let kept = c.args.kept.now in
    let options = c.args.options in
    let laid = laid_by files c.args.placement.now in
    let value = c.as_slice-leaders.ensures.value in
    let own = c.args.placement.now.leaders.items in
    let plan = plan_view c.args.placement.now.plan in
    let leaders = c.as_slice-leaders.result.now in
    let G : Result FrameBytes LinkStop → Type 0 = λ r. IfOk r (λ frames. frame_contents frames ≡ contents_with files b leaders laid plan) in
    record {
      executable = ap (λ (x : FrameContents). executable files b kept options.strip own laid x)
          (subst G c.in_ok-frames.was c.make_in_parallel-framed.ensures.contents ∙ ap (λ l. contents_with files b l laid plan) value);
      map = c.in_ok-map.ensures ∙ ap (λ l. if options.map then map_text (names_of c.args.names.now) files b l laid kept else []) value;
      report = c.in_ok-report.ensures ∙ ap (λ l. report_by options.generated files kept l laid) value;
    }

pub returns-clause-stands : goal.returns-clause-stands
returns-clause-stands g c =
    let files = files_of c.args.tables.now in
    let b = binding_view c.args.binding.now in
    let kept = c.args.kept.now in
    let strip = c.args.options.strip in
    let w = link_options c.args.options c.args.barred.now in
    let laid = laid_by files c.args.placement.now in
    let plan = plan_view c.args.placement.now.plan in
    let leaders = c.as_slice-leaders.result.now in
    let made : FrameContents = frame_contents c.in_ok-frames.frames in
    let exe : List (Option ℕ) → List ℕ = λ l. executable files b kept strip l laid made in
    let told = c.prove_file_stands.ensures in
    let P : List (Option ℕ) → Type 0 = λ l. StandsWhole w files b kept l laid plan (exe l) in
    let Q : FrameContents → Type 0 = λ x. FramesStand laid x (exe leaders) in
    let R : FrameContents → Type 0 = λ x. Unwinds files b leaders laid plan x in
    let bounds = c.args.placement.now.layout.bounds in
    let C : Result FrameBytes LinkStop → Type 0 = λ r. IfOk r (λ frames. frame_contents frames ≡ contents_with files b leaders laid plan) in
    let F : Result FrameBytes LinkStop → Type 0 = λ r. IfOk r (λ frames. FitFrames bounds (frame_contents frames)) in
    let U : Result FrameBytes LinkStop → Type 0 = λ r. IfOk r (λ frames. Unwinds files b leaders laid plan (frame_contents frames)) in
    let H : Result Prepared LinkStop → Type 0 = λ r. Goes r (relocation_defects files b leaders laid) in
    let contents = subst C c.in_ok-frames.was c.make_in_parallel-framed.ensures.contents in
    let fit = subst F c.in_ok-frames.was c.make_in_parallel-framed.ensures.fit in
    let S : List (Option ℕ) → Type 0 = λ l. HasAllUses files l (entries_of c.args.placement.now.got) in
    let T : List GotEntry → Type 0 = λ t. HasAllUses files leaders t in
    let Y : List (Option ℕ) → Type 0 = λ l. SymbolsStand files b kept l laid in
    let O : List (Option ℕ) → Type 0 = λ l. HaveOwnCuts files l laid in
    let table = table_is (layout_view c.args.placement.now.layout) (pools_view files c.args.placement.now.pools) (entries_of c.args.placement.now.got) in
    subst P c.as_slice-leaders.ensures.value
    (stands_so w files b kept leaders laid plan (exe leaders) (exe leaders) refl
    (told.headers c.requires.room fit) (subst Q contents (told.frames fit)) told.pieces told.sections
    (subst R contents (subst U c.in_ok-frames.was c.make_in_parallel-framed.ensures.records)) (subst H c.in_ok-prepared.was c.make_in_parallel-framed.ensures.tested)
    c.prove_code_stands.ensures (subst T (sym table) (subst S (sym c.as_slice-leaders.ensures.value) c.requires.uses))
    (subst Y (sym c.as_slice-leaders.ensures.value) c.requires.symbols) (subst O (sym c.as_slice-leaders.ensures.value) c.requires.cuts))
