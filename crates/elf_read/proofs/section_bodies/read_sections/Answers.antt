use Rattle.std.proofs.Common.{rules}
use Rattle.std.proofs.lemmas.Result.{err_from_is_err_and}
use Rattle.lk_tables.specs.Bodies.{body_checks, all_body_checks}
use Rattle.lk_tables.specs.Checks.{passes}
use Rattle.lk_tables.specs.FileHeader.{section_count}
use Rattle.lk_tables.proofs.Passing.{step_passes, step_fails, fails_as}
use Rattle.elf_read.proofs.section_bodies.read_sections.Goals as goal

pub returns-in_err-read_section-clause-checked : goal.returns-in_err-read_section-clause-checked
returns-in_err-read_section-clause-checked c =
    let b = c.args.file.now.bytes.now in
    let p = err_from_is_err_and c.from_residual.result c.from_residual.ensures.1 in
    rw (p.1, p.2) (fails_as _ _ _ (λ f h.
    step_fails (body_checks b) c.loop-index.index (section_count b) (tt {0}) f (passes (all_body_checks b)) (search rules) c.loop-index.invariant.so_far h)
    c.in_err-read_section.ensures.checked)

pub loop-index-preserved : goal.loop-index-preserved
loop-index-preserved c =
    let b = c.args.file.now.bytes.now in
    record {
      so_far = step_passes (body_checks b) c.loop-index.index (section_count b) (tt {0}) (tt {0}) (passes (all_body_checks b)) (search rules)
          c.loop-index.invariant.so_far c.in_ok-read_section.ensures.checked;
      marks_are = c.in_ok-read_section.ensures.marks;
      taken_are = c.in_ok-read_section.ensures.taken;
      groups_are = c.in_ok-read_section.ensures.groups;
      lists_are = c.in_ok-read_section.ensures.lists;
    }
