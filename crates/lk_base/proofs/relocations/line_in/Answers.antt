use Rattle.lk_base.proofs.TableByNumber.{line_is, linked_is, none_is, width_is}
use Rattle.lk_base.proofs.relocations.line_in.Goals as goal

pub returns-clause-line : goal.returns-clause-line
returns-clause-line c = line_is c.args.lines.now c.requires c.args.number c.row_of.result c.row_of.ensures

pub returns-clause-few : goal.returns-clause-few
returns-clause-few c = width_is c.args.lines.now c.requires c.args.number c.row_of.result c.row_of.ensures

pub returns-clause-none : goal.returns-clause-none
returns-clause-none c = none_is c.args.lines.now c.requires c.args.number c.row_of.result c.row_of.ensures

pub returns-clause-linked : goal.returns-clause-linked
returns-clause-linked c = linked_is c.args.lines.now c.requires c.args.number c.row_of.result c.row_of.ensures
