use Rattle.std.proofs.Common.{◌≡◌, drop}
use Rattle.lk_tables.specs.BindingView.{binding_view}
use Rattle.sym_resolve.specs.Unbound.{after_linked}
use Rattle.sym_resolve.proofs.linker.set_ranks.Given as goal

abbrev pub invariant-loop-one : goal.invariant-loop-one
invariant-loop-one l = after_linked (binding_view l.binding) (drop l.one-index l.linked) ≡ after_linked (binding_view l.initial.binding) l.linked
