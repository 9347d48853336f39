use Rattle.std.proofs.lemmas.Bool.{eq-eqb, eqb-true}
use Rattle.sec_gc.proofs.Sitting.{looked_bit, within_at}
use Rattle.sec_gc.proofs.marks.Marks.look.Goals as goal

pub returns-clause-step : goal.returns-clause-step
returns-clause-step c = looked_bit c.args.seat.now _ _ c.word.result c.word.ensures.bit c.word.ensures.step

pub returns-clause-seen : goal.returns-clause-seen
returns-clause-seen c = λ has. eq-eqb c.word.result 1 (c.word.ensures.seen has)

pub returns-clause-within : goal.returns-clause-within
returns-clause-within c = λ is. within_at c.args.self.now c.args.seat.now _ c.requires.seat (c.word.ensures.within (eqb-true c.word.result 1 is))
