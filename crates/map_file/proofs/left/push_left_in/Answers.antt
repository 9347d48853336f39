use Rattle.std.proofs.Common.{◌≡◌, ◌+◌, ◌∙◌, ap, arith}
use Rattle.lk_base.proofs.Loops.{collect_step}
use Rattle.lk_tables.specs.Files.{file_at, section_count}
use Rattle.lk_tables.proofs.FirstNumbers.{section_within}
use Rattle.link_sections.specs.Views.{files_in}
use Rattle.map_file.specs.Left.{left_line}
use Rattle.map_file.proofs.Walks.{place_within}
use Rattle.map_file.proofs.left.push_left_in.Goals as goal

pub overflow_add-end : goal.overflow_add-end
overflow_add-end c =
    let files = files_in c.args.view.now in
    let many = c.section_count.ensures ∙ ap section_count c.file.ensures in
    omega (arith, c.section_no-first.ensures, many, section_within files c.args.file c.requires, c.prove_few.ensures.section_count_is)

pub overflow_cast-place : goal.overflow_cast-place
overflow_cast-place c =
    let files = files_in c.args.view.now in
    let many = c.section_count.ensures ∙ ap section_count c.file.ensures in
    omega (arith, c.loop-section-test.true, c.section_no-first.ensures, many, section_within files c.args.file c.requires, c.prove_few.ensures.section_count_is)

pub overflow_cast-section : goal.overflow_cast-section
overflow_cast-section c =
    let files = files_in c.args.view.now in
    let many = c.section_count.ensures ∙ ap section_count c.file.ensures in
    omega (arith, c.loop-section-test.true, c.section_no-first.ensures, many, section_within files c.args.file c.requires, c.prove_few.ensures.section_count_is)

pub push_if_left-requires-clause-place : goal.push_if_left-requires-clause-place
push_if_left-requires-clause-place c =
    let files = files_in c.args.view.now in
    let many : c.section_count.result ≡ section_count (file_at files c.args.file) = c.section_count.ensures ∙ ap section_count c.file.ensures in
    place_within files c.args.file c.loop-section.section c.section_no-first.result c.section_count.result c.requires c.section_no-first.ensures many
    (omega (arith, c.loop-section.auto.section)) (omega (arith, c.loop-section-test.true))

pub loop-section-preserved : goal.loop-section-preserved
loop-section-preserved c =
    let v = c.args.view.now in
    collect_step (left_line v c.args.left) c.loop-section.section (c.section_no-first.result + c.section_count.result)
    c.loop-section.text.items c.push_if_left.new.text.items _ (omega (arith, c.loop-section-test.true)) c.loop-section.invariant c.in_ok-push_if_left.ensures
