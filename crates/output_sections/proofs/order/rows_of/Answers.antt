use Rattle.std.proofs.Common.{◌∙◌}
use Rattle.output_sections.specs.Order.{orders_of}
use Rattle.output_sections.proofs.order.rows_of.Goals as goal

pub returns : goal.returns
unfolding orders_of
returns g c = c.in_ok-rows.ensures ∙ c.in_ok-lists.ensures
