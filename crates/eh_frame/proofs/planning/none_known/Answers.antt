use Rattle.eh_frame.proofs.FrameWalks.{filled, none_in}
use Rattle.eh_frame.proofs.planning.none_known.Goals as goal

pub returns-clause-none : goal.returns-clause-none
returns-clause-none c = λ k.
    none_in c.resize.new.self.items c.args.count k
    (filled c.args.count _ c.new-known.result.items c.resize.new.self.items c.new-known.ensures.items c.new-known.result.ok.0 c.in_ok-resize.ensures.items)
