use Rattle.lk_tables.specs.BindingView.{binding_view}
use Rattle.lk_tables.specs.TablesView.{files_of}
use Rattle.link_passes.proofs.Handing.{binding_is}
use Rattle.tests_image.proofs.tests.links.run_within.Goals as goal

pub find_kept-requires-clause-bound : goal.find_kept-requires-clause-bound
find_kept-requires-clause-bound g c = λ κs within.
    binding_is c.args.asked.now.entry.now (files_of c.in-Ok.both.0) (binding_view c.in-Ok-bind_names.binding) c.in-Ok-bind_names.ensures.names

pub kept_made-requires-clause-bound : goal.kept_made-requires-clause-bound
kept_made-requires-clause-bound g c = λ κs within.
    binding_is c.args.asked.now.entry.now (files_of c.in-Ok.both.0) (binding_view c.in-Ok-bind_names.binding) c.in-Ok-bind_names.ensures.names
