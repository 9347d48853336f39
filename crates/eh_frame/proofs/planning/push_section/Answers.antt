use Rattle.std.proofs.Common.{◌≡◌, ℕ, ◌++◌, List, Option, append-nil, ap, arith, length, sym, subst, ◌∙◌}
use Rattle.std.specs.Vec.{with_items}
use Rattle.std.proofs.lemmas.List.{length-map, with_items_is}
use Rattle.lk_tables.specs.declared.records.FrameNo.{FrameNo}
use Rattle.lk_tables.specs.BindingView.{binding_view}
use Rattle.lk_tables.specs.RecordViews.{record_view}
use Rattle.lk_tables.specs.TablesView.{files_of}
use Rattle.link_sections.specs.PoolViews.{merged_views}
use Rattle.eh_frame.specs.Uses.{AreUses, AreUsesIn, cies_for, list_in, one_frame}
use Rattle.eh_frame.proofs.FrameWalks.{all_frames_are, first_frames, frames_more, gone_has_none}
use Rattle.eh_frame.proofs.NotedCies.{none_known}
use Rattle.eh_frame.proofs.planning.push_section.Goals as goal

pub returns-then-is_discarded : goal.returns-then-is_discarded
returns-then-is_discarded c = λ key cie_of fdes tells are.
    let files = files_of c.args.tables.now in
    let b = binding_view c.args.binding.now in
    let l = list_in c.args.section c.args.records.now in
    let P : List FrameNo → Type 0 = λ xs. AreUses key cie_of xs c.args.found.now in
    let nil = gone_has_none files b (merged_views c.args.pools.now) c.args.leaders.now l (sym c.is_discarded.ensures ∙ c.if-is_discarded.true) in
    subst P (sym (ap (λ xs. fdes ++ xs) nil ∙ append-nil fdes)) are

pub loop-at-init : goal.loop-at-init
loop-at-init c = record {
  long = c.in_ok-known.ensures.len;
  adds = λ key cie_of fdes tells are.
      let P : List FrameNo → Type 0 = λ xs. AreUsesIn key cie_of xs c.args.section c.in_ok-known.known.items c.args.found.now in
      subst P (sym (append-nil fdes))
      (record { uses = are; are_known = none_known key cie_of (cies_for key cie_of fdes) c.args.section c.in_ok-known.known.items c.in_ok-known.ensures.none });
}

pub loop-at-preserved : goal.loop-at-preserved
loop-at-preserved c =
    let old = c.loop-at.known in
    let new = c.push_record.new.known in
    let wide = c.push_record.auto.known in
    let lent = c.as_mut_slice.ensures.value in
    let kept : (with_items old new).items ≡ new = with_items_is old new (omega (arith, wide, c.as_mut_slice.ensures.len)) in
    record {
      long = omega (arith, ap length kept, wide, ap length lent, c.loop-at.invariant.long);
      adds = λ key cie_of fdes tells are.
          let files = files_of c.args.tables.now in
          let b = binding_view c.args.binding.now in
          let l = list_in c.args.section c.args.records.now in
          let done = first_frames files b (merged_views c.args.pools.now) c.args.leaders.now l c.loop-at.at in
          let found = c.push_record.new.found in
          let U : List (Option ℕ) → Type 0 = λ ks. AreUsesIn key cie_of (fdes ++ done) c.args.section ks c.loop-at.found in
          let K : List (Option ℕ) → Type 0 = λ ks. AreUsesIn key cie_of ((fdes ++ done) ++ one_frame files b (merged_views c.args.pools.now) c.args.leaders.now l c.loop-at.at) c.args.section ks found in
          let P : List FrameNo → Type 0 = λ xs. AreUsesIn key cie_of xs c.args.section (with_items old new).items found in
          subst P (sym (frames_more files b (merged_views c.args.pools.now) c.args.leaders.now l c.loop-at.at fdes))
          (subst K (sym kept)
          (c.in_ok-push_record.ensures key cie_of (fdes ++ done) tells (subst U (sym lent) (c.loop-at.invariant.adds key cie_of fdes tells are))));
    }

pub returns : goal.returns
returns c = λ key cie_of fdes tells are.
    let files = files_of c.args.tables.now in
    let b = binding_view c.args.binding.now in
    let l = list_in c.args.section c.args.records.now in
    let P : List FrameNo → Type 0 = λ xs. AreUses key cie_of (fdes ++ xs) c.loop-at.found in
    let all : c.loop-at.at ≡ length l.records = omega (arith, length-map c.args.records.now record_view) in
    subst P (all_frames_are files b (merged_views c.args.pools.now) c.args.leaders.now l c.loop-at.at (sym c.is_discarded.ensures ∙ c.if-is_discarded.false) all)
    (c.loop-at.invariant.adds key cie_of fdes tells are).uses
