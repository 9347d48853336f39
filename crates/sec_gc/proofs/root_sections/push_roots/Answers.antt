use Rattle.std.proofs.Common.{◌≡◌, ◌∙◌, ◌-◌, ◌∷◌, ◌++◌, [], ap, arith}
use Rattle.std.specs.Prelude.{flat_map, if◌then◌else◌}
use Rattle.std.specs.List.{range_with_len}
use Rattle.lk_base.proofs.Loops.{collect_step}
use Rattle.lk_tables.specs.BindingView.{binding_view}
use Rattle.lk_tables.specs.Files.{file_at, section_count, section_no}
use Rattle.lk_tables.specs.TablesView.{files_of}
use Rattle.lk_tables.proofs.FirstNumbers.{section_within}
use Rattle.sec_gc.specs.Roots.{root_at, roots_in}
use Rattle.sec_gc.proofs.root_sections.push_roots.Goals as goal
use Rattle.sec_gc.proofs.root_sections.push_roots.Goals.{After-section_count-index-end}

count : (c : After-section_count-index-end) → c.section_count-index-end.result ≡ section_count (file_at (files_of c.args.tables.now) c.args.file)
count c = c.section_count-index-end.ensures ∙ ap section_count c.file.ensures

pub loop-index-init : goal.loop-index-init
unfolding roots_in
loop-index-init c =
    let n : c.section_count-index-end.result - 0 ≡ section_count (file_at (files_of c.args.tables.now) c.args.file) = omega (arith, count ((goal.at.loop-index-init c).After-section_count-index-end)) in
    ap (λ k. c.args.roots.now.items ++ flat_map (root_at (files_of c.args.tables.now) (binding_view c.args.binding.now) c.args.file) (range_with_len 0 k)) n

pub section_no-number-requires-clause-section : goal.section_no-number-requires-clause-section
section_no-number-requires-clause-section c =
    omega (arith, c.loop-index-test.true, count ((goal.at.section_no-number-requires-clause-section c).After-section_count-index-end), c.prove_few.ensures.section_count_is, section_within (files_of c.args.tables.now) c.args.file c.requires)

pub overflow_cast-number : goal.overflow_cast-number
overflow_cast-number c =
    omega (arith, c.section_no-number.ensures, c.loop-index-test.true, count ((goal.at.overflow_cast-number c).After-section_count-index-end), c.prove_few.ensures.section_count_is, section_within (files_of c.args.tables.now) c.args.file c.requires)

pub overflow_cast-index : goal.overflow_cast-index
overflow_cast-index c =
    omega (arith, c.loop-index-test.true, count ((goal.at.overflow_cast-index c).After-section_count-index-end), c.prove_few.ensures.section_count_is, section_within (files_of c.args.tables.now) c.args.file c.requires)

pub loop-index-preserved : goal.loop-index-preserved
loop-index-preserved c =
    let files = files_of c.args.tables.now in
    let b = binding_view c.args.binding.now in
    let old = c.loop-index.roots.items in
    collect_step (root_at files b c.args.file) c.loop-index.index c.section_count-index-end.result old c.push_if.new.list.items _ c.loop-index-test.true c.loop-index.invariant
    (c.in_ok-push_if.ensures ∙ ap (λ n. old ++ (if c.is_root.result then n ∷ [] else [])) c.section_no-number.ensures
    ∙ ap (λ w. old ++ (if w then section_no files c.args.file c.loop-index.index ∷ [] else [])) c.is_root.ensures)
