use Rattle.std.proofs.Common.{rules, refl, sym, arith}
use Rattle.std.proofs.lemmas.Result.{err_from_is_err_and}
use Rattle.lk_tables.specs.Checks.{passes}
use Rattle.lk_tables.specs.Heads.{all_symbol_checks}
use Rattle.lk_tables.specs.Symbols.{symbol_of, symbol_checks, symbol_count}
use Rattle.lk_tables.proofs.Passing.{step_passes, step_fails, step_items}
use Rattle.elf_read.proofs.symbols.read_entries.Goals as goal

pub loop-index-init : goal.loop-index-init
loop-index-init c = record { so_far = refl; items = c.in_ok-symbols.ensures.items; last_is = λ at low high. absurd (omega (arith, low, high)) }

pub returns-in_err-read_symbol-clause-checked : goal.returns-in_err-read_symbol-clause-checked
returns-in_err-read_symbol-clause-checked c =
    let b = c.args.table.now.bytes.now in
    let p = err_from_is_err_and c.from_residual-in_err-read_symbol.result c.from_residual-in_err-read_symbol.ensures.1 in
    rw (p.1, p.2) (step_fails (symbol_checks b) c.loop-index.index (symbol_count b) (symbol_of b c.loop-index.index) _
    (passes (all_symbol_checks b)) (search rules) c.loop-index.invariant.so_far (sym c.in_err-read_symbol.ensures.symbol))

pub loop-index-preserved : goal.loop-index-preserved
loop-index-preserved c =
    let b = c.args.table.now.bytes.now in
    let i = c.loop-index.index in
    let read = sym c.in_ok-read_symbol.ensures.symbol in
    record {
      so_far = step_passes (symbol_checks b) i (symbol_count b) (symbol_of b i) _ (passes (all_symbol_checks b)) (search rules)
          c.loop-index.invariant.so_far read;
      items = step_items (symbol_checks b i) (symbol_of b) i _ _ _ c.loop-index.invariant.items c.in_ok-push.ensures.items read;
      last_is = c.in_ok-read_symbol.ensures.last;
    }
