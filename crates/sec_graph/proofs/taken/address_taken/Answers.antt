use Rattle.std.proofs.Common.{◌≡◌, ◌-◌, List, ℕ, false, length, flat_map, replicate, refl, ap, ◌∙◌, arith, rules}
use Rattle.std.specs.List.{range_with_len}
use Rattle.lk_tables.specs.BindingView.{binding_view}
use Rattle.lk_tables.specs.Files.{section_total}
use Rattle.lk_tables.specs.TablesView.{files_of}
use Rattle.lk_tables.specs.Walks.{over_file, over_live, over_section}
use Rattle.lk_tables.specs.Reach.{with_marked}
use Rattle.sec_graph.specs.Taken.{address_taken, taken_at, taken_sections}
use Rattle.sec_graph.proofs.Marking.{marked_none, marks_end, marks_step}
use Rattle.sec_graph.proofs.taken.address_taken.Goals as goal

pub loop-file-init : goal.loop-file-init
unfolding over_live
loop-file-init c =
    let files = files_of c.args.tables.now in
    let b = binding_view c.args.binding.now in
    let kept = c.args.kept.now in
    let give : ℕ → List ℕ = over_file files (over_section files (taken_at files b kept)) in
    let fresh : c.in_ok-taken.taken.items ≡ replicate (section_total files) false = search rules in
    let n : c.file_count-file-end.result - 0 ≡ length files = omega (arith, c.file_count-file-end.ensures) in
    ap (λ k. with_marked c.in_ok-taken.taken.items (flat_map give (range_with_len 0 k))) n
    ∙ ap (λ m. with_marked m (taken_sections files b kept)) fresh

pub loop-file-preserved : goal.loop-file-preserved
loop-file-preserved c =
    let files = files_of c.args.tables.now in
    let give : ℕ → List ℕ = over_file files (over_section files (taken_at files (binding_view c.args.binding.now) c.args.kept.now)) in
    marks_step give c.loop-file.file c.file_count-file-end.result c.loop-file.taken.items c.take_in_file.new.taken.items _ c.loop-file-test.true c.loop-file.invariant
    c.take_in_file.ensures

pub returns : goal.returns
unfolding address_taken
returns c =
    let files = files_of c.args.tables.now in
    let b = binding_view c.args.binding.now in
    let kept = c.args.kept.now in
    let give : ℕ → List ℕ = over_file files (over_section files (taken_at files b kept)) in
    marks_end give c.loop-file.file c.file_count-file-end.result c.loop-file.taken.items _ (omega (arith, c.loop-file-test.false)) c.loop-file.invariant
    ∙ marked_none (section_total files) (taken_sections files b kept) (replicate (section_total files) false) refl
