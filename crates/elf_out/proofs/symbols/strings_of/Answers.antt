use Rattle.std.proofs.Common.{◌<◌, arith, length}
use Rattle.elf_out.proofs.EntryBytes.{names_step}
use Rattle.elf_out.proofs.symbols.strings_of.Goals as goal

pub loop-symbol-preserved : goal.loop-symbol-preserved
loop-symbol-preserved c =
    let below : c.loop-symbol.symbol-index < length c.args.list.now = omega arith in
    names_step c.args.list.now c.loop-symbol.symbol-index _ c.loop-symbol.strings.items c.push_name.new.out.items _ below c.in_ok-push_name.ensures
    c.loop-symbol.invariant
