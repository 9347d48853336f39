use Rattle.std.proofs.Common.{◌∙◌, subst}
use Rattle.lk_tables.specs.BindingView.{binding_view}
use Rattle.link_sections.specs.LaidOut.{layout_view, with_contents}
use Rattle.symbol_addresses.proofs.Near.{IsNear, bound_near}
use Rattle.symbol_addresses.proofs.addresses.find_addresses.Goals as goal

pub invariant_of-sources : goal.invariant_of-sources
unfolding layout_view with_contents
invariant_of-sources g c = record {
  near = λ f i section offset lt live is. subst IsNear is (bound_near c.args.tables.now (binding_view c.args.binding.now) f i c.requires.bound lt live);
  sound = c.requires.sound;
  by_number = c.as_slice.ensures.value ∙ c.in_ok-fixed.ensures;
  by_name = c.in_ok-extents.ensures;
}
