use Rattle.std.proofs.Common.{◌≡◌, List, length, take, drop, sym, ap, ◌∙◌, subst, arith, true, Option}
use Rattle.std.specs.Prelude.{is_some}
use Rattle.std.specs.List.{All}
use Rattle.std.proofs.lemmas.List.{length-append}
use Rattle.std.proofs.lemmas.List.Elements.{All-weaker}
use Rattle.lk_base.specs.Firsts.{IsFirst}
use Rattle.lk_base.specs.declared.defects.Defect.{Defect}
use Rattle.lk_tables.specs.FramePlans.{plan_view}
use Rattle.lk_tables.specs.Frames.{lists_of, record_at}
use Rattle.link_sections.specs.Views.{binding_in, files_in, laid_in, leaders_in}
use Rattle.eh_frame.specs.declared.placing.Placed.{Placed}
use Rattle.eh_frame.specs.Bytes.{IsKnown, all_placed, frame_defects, placed_cies, placed_fdes}
use Rattle.eh_frame.specs.Header.{header_bytes, table_of}
use Rattle.eh_frame.proofs.KnownRecords.{plan_cies_known, plan_fdes_known, plan_frame_len, plan_header_len, plan_room, plan_uses}
use Rattle.eh_frame.proofs.PlacedOrder.{defects_found}
use Rattle.eh_frame.proofs.PlacedSteps.{both_all, cies_all, cies_length, fdes_all, fdes_length, first_placed, last_placed}
use Rattle.eh_frame.proofs.RecordBytes.{frame_length}
use Rattle.eh_frame.proofs.TableRows.{header_length}
use Rattle.eh_frame.proofs.contents.write.Goals as goal

pub place-requires-clause-cies : goal.place-requires-clause-cies
place-requires-clause-cies g c =
    let files = files_in c.args.view.now in
    let lists = lists_of c.args.plan.now.frames.now in
    let plan = plan_view c.args.plan.now in
    All-weaker (IsKnown files lists) (λ n. is_some (record_at lists n) ≡ true) (λ n known. known.there) plan.cies
    (plan_cies_known files lists (binding_in c.args.view.now) (laid_in c.args.view.now).merging.merged (leaders_in c.args.view.now) plan c.requires.lists c.requires.plan)

pub place-requires-clause-fdes : goal.place-requires-clause-fdes
place-requires-clause-fdes g c =
    let files = files_in c.args.view.now in
    let lists = lists_of c.args.plan.now.frames.now in
    let plan = plan_view c.args.plan.now in
    All-weaker (IsKnown files lists) (λ n. is_some (record_at lists n) ≡ true) (λ n known. known.there) plan.fdes
    (plan_fdes_known files lists (binding_in c.args.view.now) (laid_in c.args.view.now).merging.merged (leaders_in c.args.view.now) plan c.requires.lists c.requires.plan)

pub place-requires-clause-room : goal.place-requires-clause-room
place-requires-clause-room g c =
    plan_room (files_in c.args.view.now) (lists_of c.args.plan.now.frames.now) (binding_in c.args.view.now) (laid_in c.args.view.now).merging.merged (leaders_in c.args.view.now)
    (plan_view c.args.plan.now) c.requires.plan

pub first_defect-requires-clause-known : goal.first_defect-requires-clause-known
first_defect-requires-clause-known g c = λ κs bound.
    let files = files_in c.args.view.now in
    let b = binding_in c.args.view.now in
    let leaders = leaders_in c.args.view.now in
    let merged = (laid_in c.args.view.now).merging.merged in
    let lists = lists_of c.args.plan.now.frames.now in
    let plan = plan_view c.args.plan.now in
    let Known : List Placed → Type 0 = λ ps. All (λ (p : Placed). IsKnown files lists p.number) ps in
    subst Known (sym (c.as_slice.ensures.value ∙ c.in_ok-placed.ensures))
    (both_all lists (IsKnown files lists) plan (plan_cies_known files lists b merged leaders plan c.requires.lists c.requires.plan)
    (plan_fdes_known files lists b merged leaders plan c.requires.lists c.requires.plan))

pub returns-in-Some-clause-goes : goal.returns-in-Some-clause-goes
returns-in-Some-clause-goes g c =
    let files = files_in c.args.view.now in
    let b = binding_in c.args.view.now in
    let leaders = leaders_in c.args.view.now in
    let laid = laid_in c.args.view.now in
    let lists = lists_of c.args.plan.now.frames.now in
    let plan = plan_view c.args.plan.now in
    let known = both_all lists (IsKnown files lists) plan (plan_cies_known files lists b laid.merging.merged leaders plan c.requires.lists c.requires.plan)
    (plan_fdes_known files lists b laid.merging.merged leaders plan c.requires.lists c.requires.plan) in
    let First : Option Defect → Type 0 = λ found. IsFirst (frame_defects files b leaders laid lists plan laid.bounds.frames) found in
    subst First c.in-Some.is
    (defects_found files b leaders laid lists plan c.starts_of-starts.result.frames laid.bounds.frames c.as_slice.result.now c.in_ok-found.found known
    (c.as_slice.ensures.value ∙ c.in_ok-placed.ensures) c.starts_of-starts.ensures.frames c.in_ok-found.ensures)

pub split_at-requires : goal.split_at-requires
split_at-requires g c =
    let lists = lists_of c.args.plan.now.frames.now in
    let plan = plan_view c.args.plan.now in
    let n : c.len.result ≡ length plan.cies = c.len.ensures ∙ c.args.plan.now.cies.ok.0 in
    let same : length c.as_slice-2.result.now ≡ length (all_placed lists plan) = ap length (c.as_slice-2.ensures.value ∙ c.in_ok-placed.ensures) in
    omega (arith, n, same, length-append (placed_cies lists plan) (placed_fdes lists plan), cies_length lists plan)

pub frame_bytes-requires-clause-cies_are : goal.frame_bytes-requires-clause-cies_are
frame_bytes-requires-clause-cies_are g c = λ κs bound.
    let lists = lists_of c.args.plan.now.frames.now in
    let plan = plan_view c.args.plan.now in
    c.split_at.ensures.front ∙ ap (take c.len.result) (c.as_slice-2.ensures.value ∙ c.in_ok-placed.ensures)
    ∙ first_placed lists plan c.len.result (sym (c.len.ensures ∙ c.args.plan.now.cies.ok.0))

pub frame_bytes-requires-clause-fdes_are : goal.frame_bytes-requires-clause-fdes_are
frame_bytes-requires-clause-fdes_are g c = λ κs bound.
    let lists = lists_of c.args.plan.now.frames.now in
    let plan = plan_view c.args.plan.now in
    c.split_at.ensures.back ∙ ap (drop c.len.result) (c.as_slice-2.ensures.value ∙ c.in_ok-placed.ensures)
    ∙ last_placed lists plan c.len.result (sym (c.len.ensures ∙ c.args.plan.now.cies.ok.0))

pub frame_bytes-requires-clause-known_cies : goal.frame_bytes-requires-clause-known_cies
frame_bytes-requires-clause-known_cies g c = λ κs bound.
    let files = files_in c.args.view.now in
    let lists = lists_of c.args.plan.now.frames.now in
    let plan = plan_view c.args.plan.now in
    let Known : List Placed → Type 0 = λ ps. All (λ (p : Placed). IsKnown files lists p.number) ps in
    let are : c.split_at.result.0.now ≡ placed_cies lists plan =
    c.split_at.ensures.front ∙ ap (take c.len.result) (c.as_slice-2.ensures.value ∙ c.in_ok-placed.ensures)
    ∙ first_placed lists plan c.len.result (sym (c.len.ensures ∙ c.args.plan.now.cies.ok.0)) in
    subst Known (sym are) (cies_all lists (IsKnown files lists) plan
    (plan_cies_known files lists (binding_in c.args.view.now) (laid_in c.args.view.now).merging.merged (leaders_in c.args.view.now) plan c.requires.lists c.requires.plan))

pub frame_bytes-requires-clause-known_fdes : goal.frame_bytes-requires-clause-known_fdes
frame_bytes-requires-clause-known_fdes g c = λ κs bound.
    let files = files_in c.args.view.now in
    let lists = lists_of c.args.plan.now.frames.now in
    let plan = plan_view c.args.plan.now in
    let Known : List Placed → Type 0 = λ ps. All (λ (p : Placed). IsKnown files lists p.number) ps in
    let are : c.split_at.result.1.now ≡ placed_fdes lists plan =
    c.split_at.ensures.back ∙ ap (drop c.len.result) (c.as_slice-2.ensures.value ∙ c.in_ok-placed.ensures)
    ∙ last_placed lists plan c.len.result (sym (c.len.ensures ∙ c.args.plan.now.cies.ok.0)) in
    subst Known (sym are) (fdes_all lists (IsKnown files lists) plan
    (plan_fdes_known files lists (binding_in c.args.view.now) (laid_in c.args.view.now).merging.merged (leaders_in c.args.view.now) plan c.requires.lists c.requires.plan))

pub frame_bytes-requires-clause-uses : goal.frame_bytes-requires-clause-uses
frame_bytes-requires-clause-uses g c = λ κs bound.
    let lists = lists_of c.args.plan.now.frames.now in
    let plan = plan_view c.args.plan.now in
    let are : c.split_at.result.1.now ≡ placed_fdes lists plan =
    c.split_at.ensures.back ∙ ap (drop c.len.result) (c.as_slice-2.ensures.value ∙ c.in_ok-placed.ensures)
    ∙ last_placed lists plan c.len.result (sym (c.len.ensures ∙ c.args.plan.now.cies.ok.0)) in
    plan_uses (files_in c.args.view.now) lists (binding_in c.args.view.now) (laid_in c.args.view.now).merging.merged (leaders_in c.args.view.now) plan c.requires.plan
    ∙ sym (fdes_length lists plan) ∙ sym (ap length are)

pub header_bytes-requires-clause-known : goal.header_bytes-requires-clause-known
header_bytes-requires-clause-known g c = λ κs bound.
    let files = files_in c.args.view.now in
    let lists = lists_of c.args.plan.now.frames.now in
    let plan = plan_view c.args.plan.now in
    let Known : List Placed → Type 0 = λ ps. All (λ (p : Placed). IsKnown files lists p.number) ps in
    let are : c.split_at.result.1.now ≡ placed_fdes lists plan =
    c.split_at.ensures.back ∙ ap (drop c.len.result) (c.as_slice-2.ensures.value ∙ c.in_ok-placed.ensures)
    ∙ last_placed lists plan c.len.result (sym (c.len.ensures ∙ c.args.plan.now.cies.ok.0)) in
    subst Known (sym are) (fdes_all lists (IsKnown files lists) plan
    (plan_fdes_known files lists (binding_in c.args.view.now) (laid_in c.args.view.now).merging.merged (leaders_in c.args.view.now) plan c.requires.lists c.requires.plan))

pub returns-clause-goes : goal.returns-clause-goes
returns-clause-goes g c =
    let files = files_in c.args.view.now in
    let b = binding_in c.args.view.now in
    let leaders = leaders_in c.args.view.now in
    let laid = laid_in c.args.view.now in
    let lists = lists_of c.args.plan.now.frames.now in
    let plan = plan_view c.args.plan.now in
    let known = both_all lists (IsKnown files lists) plan (plan_cies_known files lists b laid.merging.merged leaders plan c.requires.lists c.requires.plan)
    (plan_fdes_known files lists b laid.merging.merged leaders plan c.requires.lists c.requires.plan) in
    let First : Option Defect → Type 0 = λ found. IsFirst (frame_defects files b leaders laid lists plan laid.bounds.frames) found in
    subst First c.in_default.is
    (defects_found files b leaders laid lists plan c.starts_of-starts.result.frames laid.bounds.frames c.as_slice.result.now c.in_ok-found.found known
    (c.as_slice.ensures.value ∙ c.in_ok-placed.ensures) c.starts_of-starts.ensures.frames c.in_ok-found.ensures)

pub returns-clause-header : goal.returns-clause-header
unfolding header_bytes
returns-clause-header g c =
    let files = files_in c.args.view.now in
    let b = binding_in c.args.view.now in
    let leaders = leaders_in c.args.view.now in
    let laid = laid_in c.args.view.now in
    let lists = lists_of c.args.plan.now.frames.now in
    let plan = plan_view c.args.plan.now in
    let starts = c.starts_of-starts.result in
    let are : c.split_at.result.1.now ≡ placed_fdes lists plan =
    c.split_at.ensures.back ∙ ap (drop c.len.result) (c.as_slice-2.ensures.value ∙ c.in_ok-placed.ensures)
    ∙ last_placed lists plan c.len.result (sym (c.len.ensures ∙ c.args.plan.now.cies.ok.0)) in
    c.in_ok-header.ensures
    ∙ ap (λ h. table_of files b leaders laid lists h starts.frames c.split_at.result.1.now) c.starts_of-starts.ensures.header
    ∙ ap (λ s. table_of files b leaders laid lists laid.bounds.frame_header s c.split_at.result.1.now) c.starts_of-starts.ensures.frames
    ∙ ap (λ ps. table_of files b leaders laid lists laid.bounds.frame_header laid.bounds.frames ps) are

pub returns-clause-lengths : goal.returns-clause-lengths
returns-clause-lengths g c =
    let files = files_in c.args.view.now in
    let b = binding_in c.args.view.now in
    let leaders = leaders_in c.args.view.now in
    let laid = laid_in c.args.view.now in
    let lists = lists_of c.args.plan.now.frames.now in
    let plan = plan_view c.args.plan.now in (
      ap length (returns-clause-header g c)
          ∙ header_length files b leaders laid lists laid.bounds.frame_header laid.bounds.frames plan
          ∙ sym (plan_header_len files lists b laid.merging.merged leaders plan c.requires.plan),
      ap length c.in_ok-frame.ensures
          ∙ frame_length files b leaders laid lists c.starts_of-starts.result.frames plan (plan_cies_known files lists b laid.merging.merged leaders plan c.requires.lists c.requires.plan)
          (plan_fdes_known files lists b laid.merging.merged leaders plan c.requires.lists c.requires.plan) (plan_uses files lists b laid.merging.merged leaders plan c.requires.plan)
          ∙ sym (plan_frame_len files lists b laid.merging.merged leaders plan c.requires.plan),
    )
