use Rattle.icf_part.proofs.TablePlaces.{below_last}
use Rattle.icf_part.proofs.place_table.width_of.Goals as goal

pub returns : goal.returns
returns c = below_last c.args.sections.now c.last_of.result c.requires c.last_of.ensures
