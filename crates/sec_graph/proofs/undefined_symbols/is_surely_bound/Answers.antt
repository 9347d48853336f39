use Rattle.std.proofs.lemmas.Bool.{ne_eqb}
use Rattle.lk_tables.specs.BindingView.{binding_view}
use Rattle.lk_tables.specs.TablesView.{files_of}
use Rattle.sec_graph.proofs.Standing.{prevailing}
use Rattle.sec_graph.proofs.undefined_symbols.is_surely_bound.Goals as goal

pub returns : goal.returns
returns c = λ prevails.
    let test = c.args.test.now in
    prevailing (files_of test.tables.now) (binding_view test.binding.now) c.args.rank (test.stand c.if-not-test.false) (ne_eqb _ _ c.requires) (c.is_prevailing.ensures prevails)
