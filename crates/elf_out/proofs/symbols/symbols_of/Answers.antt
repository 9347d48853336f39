use Rattle.std.proofs.Common.{◌<◌, arith, length}
use Rattle.elf_out.proofs.EntryBytes.{symbols_step}
use Rattle.elf_out.proofs.symbols.symbols_of.Goals as goal

pub loop-symbol-preserved : goal.loop-symbol-preserved
loop-symbol-preserved c =
    let below : c.loop-symbol.symbol-index < length c.args.list.now = omega arith in
    symbols_step c.args.list.now c.loop-symbol.symbol-index _ c.loop-symbol.name _ c.loop-symbol.symbols.items
    c.push_symbol.new.out.items _ below c.in_ok-push_symbol.ensures c.in_ok-next.ensures c.loop-symbol.invariant
