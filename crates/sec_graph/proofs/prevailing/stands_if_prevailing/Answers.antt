use Rattle.std.proofs.Common.{sym, ap, ◌∙◌}
use Rattle.std.proofs.lemmas.Bool.{not-true}
use Rattle.lk_tables.specs.declared.heads.Symbol.{Symbol}
use Rattle.lk_tables.specs.Binding.{is_discarded}
use Rattle.lk_tables.specs.BindingView.{binding_view}
use Rattle.lk_tables.specs.Symbols.{is_common}
use Rattle.lk_tables.specs.TablesView.{files_of}
use Rattle.sec_graph.proofs.Standing.{stands_bound, stands_within}
use Rattle.sec_graph.proofs.prevailing.stands_if_prevailing.Goals as goal

pub returns-then-is_common : goal.returns-then-is_common
returns-then-is_common c = λ bound_to.
    stands_bound (files_of c.args.tables.now) (binding_view c.args.binding.now) c.args.file c.args.symbol (not-true _ (sym c.is_bound.ensures ∙ bound_to))

pub returns : goal.returns
returns c = λ kept.
    let files = files_of c.args.tables.now in
    let b = binding_view c.args.binding.now in
    stands_within files b c.args.file c.args.symbol
    (ap (λ (s : Symbol). is_common s.place) (sym c.requires.own) ∙ sym c.is_common.ensures ∙ c.if-is_common.false)
    (ap (λ (s : Symbol). is_discarded files b.discarded c.args.file s.place) (sym c.requires.own) ∙ sym c.is_discarded.ensures ∙ not-true _ kept)
