use Rattle.std.proofs.Common.{sym, ap, ◌∙◌, ◌==◌}
use Rattle.std.proofs.lemmas.Bool.{eq-eqb, ne_eqb}
use Rattle.lk_base.specs.declared.abi.TheConstants.{STB_WEAK}
use Rattle.lk_tables.specs.declared.heads.Symbol.{Symbol}
use Rattle.lk_tables.specs.Binding.{is_discarded}
use Rattle.lk_tables.specs.BindingView.{binding_view}
use Rattle.lk_tables.specs.Files.{is_visible}
use Rattle.lk_tables.specs.Symbols.{is_common}
use Rattle.lk_tables.specs.TablesView.{files_of}
use Rattle.sec_graph.proofs.Standing.{local_is, weak_stands}
use Rattle.sec_graph.proofs.undefined_symbols.stands_for_nothing.Goals as goal

pub returns-then-own-eq-STB_WEAK : goal.returns-then-own-eq-STB_WEAK
returns-then-own-eq-STB_WEAK c =
    let test = c.args.test.now in
    sym (weak_stands (files_of test.tables.now) (binding_view test.binding.now) c.args.file c.args.symbol
    (ap (λ (s : Symbol). s.binding == STB_WEAK) (sym c.requires.own) ∙ eq-eqb _ _ c.if-own-eq-STB_WEAK.true))

pub returns : goal.returns
returns c =
    let test = c.args.test.now in
    let files = files_of test.tables.now in
    let b = binding_view test.binding.now in
    c.is_discarded.ensures ∙ ap (λ (s : Symbol). is_discarded files b.discarded c.args.file s.place) c.requires.own
    ∙ sym (local_is files b c.args.file c.args.symbol
    (ap (λ (s : Symbol). s.binding == STB_WEAK) (sym c.requires.own) ∙ ne_eqb _ _ c.if-own-eq-STB_WEAK.false)
    (ap is_visible (sym c.requires.own) ∙ sym c.is_visible.ensures ∙ c.if-is_visible.false)
    (ap (λ (s : Symbol). is_common s.place) (sym c.requires.own) ∙ sym c.is_common.ensures ∙ c.if-is_common.false))
