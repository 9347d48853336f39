use Rattle.std.proofs.Common.{rules, sym}
use Rattle.std.proofs.lemmas.Result.{err_from_is_err_and}
use Rattle.lk_tables.specs.Bodies.{use_checks, all_use_checks}
use Rattle.lk_tables.specs.Checks.{passes}
use Rattle.lk_tables.specs.Symbols.{symbol_count}
use Rattle.lk_tables.proofs.Passing.{step_passes, step_fails}
use Rattle.elf_read.proofs.symbol_checks.check_each_use.Goals as goal

pub returns-in_err-check_use : goal.returns-in_err-check_use
returns-in_err-check_use c =
    let b = c.args.file.now.bytes.now in
    let p = err_from_is_err_and c.from_residual.result c.from_residual.ensures.1 in
    rw (p.1, p.2) (sym (step_fails (use_checks b) c.loop-index.index (symbol_count b) (tt {0}) _ (passes (all_use_checks b)) (search rules)
    c.loop-index.invariant (sym c.in_err-check_use.ensures)))

pub loop-index-preserved : goal.loop-index-preserved
loop-index-preserved c =
    let b = c.args.file.now.bytes.now in
    step_passes (use_checks b) c.loop-index.index (symbol_count b) (tt {0}) (tt {0}) (passes (all_use_checks b)) (search rules) c.loop-index.invariant
    (sym c.in_ok-check_use.ensures)
