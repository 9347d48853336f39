use Rattle.tests_image.proofs.InOrder.{numbered_rise}
use Rattle.tests_image.proofs.tests.leaders.leads_by.Goals as goal

pub fold-requires-clause-order : goal.fold-requires-clause-order
fold-requires-clause-order g c κs bound = numbered_rise c.args.items.now c.requires.numbered
