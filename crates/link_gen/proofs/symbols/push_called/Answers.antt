use Rattle.std.proofs.Common.{◌+◌, arith, refl}
use Rattle.link_gen.proofs.NamedSymbols.{called_step}
use Rattle.link_gen.proofs.symbols.push_called.Goals as goal

pub loop-number-preserved : goal.loop-number-preserved
loop-number-preserved c =
    called_step c.loop-number.symbols.items c.push.new.self.items _ c.loop-number.number (c.args.first + c.args.count) _
    c.in_ok-push.ensures.items refl (omega arith) c.loop-number.invariant
