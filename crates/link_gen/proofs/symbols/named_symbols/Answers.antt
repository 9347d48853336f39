use Rattle.link_gen.proofs.NamedSymbols.{symbols_are}
use Rattle.link_gen.proofs.symbols.named_symbols.Goals as goal

pub returns-clause-value : goal.returns-clause-value
returns-clause-value c =
    symbols_are c.args.k c.args.n c.called_count-called.result c.in_ok-symbols.symbols.items c.push_start.new.symbols.items
    c.push.new.self.items c.push-2.new.self.items c.push-3.new.self.items c.push_called.new.symbols.items c.function.result c.function-2.result
    c.function-3.result c.f_size.result c.in_ok-symbols.ensures.items c.in_ok-push_start.ensures c.in_ok-push.ensures.items
    c.in_ok-push-2.ensures.items c.in_ok-push-3.ensures.items c.in_ok-push_called.ensures c.called_count-called.ensures.count
    c.called_count-called.ensures.each c.f_size.ensures.value c.function.ensures c.function-2.ensures c.function-3.ensures
