use Rattle.std.proofs.Common.{sym, ap, ◌∙◌, ◌≡◌, subst, ℕ, false}
use Rattle.lk_tables.specs.BindingView.{binding_view}
use Rattle.lk_tables.specs.Files.{symbol_no}
use Rattle.lk_tables.specs.TablesView.{files_of}
use Rattle.lk_tables.specs.Targets.{bound_by, rank_at}
use Rattle.sec_graph.specs.Prevailing.{is_nobody}
use Rattle.sec_graph.proofs.Standing.{bound_name, unbound_name}
use Rattle.sec_graph.proofs.undefined_symbols.is_unbound.Goals as goal
use Rattle.sec_graph.proofs.undefined_symbols.is_unbound.Goals.{After-rank_at-rank}

rank_is : (c : After-rank_at-rank) → c.rank_at-rank.result ≡ rank_at (binding_view c.args.test.now.binding.now) (symbol_no (files_of c.args.test.now.tables.now) c.args.file c.args.symbol)
rank_is c = c.rank_at-rank.ensures ∙ ap (rank_at (binding_view c.args.test.now.binding.now)) c.symbol_no-number.ensures

pub returns-then-rank : goal.returns-then-rank
returns-then-rank c =
    sym (unbound_name (files_of c.args.test.now.tables.now) (binding_view c.args.test.now.binding.now) c.args.file c.args.symbol c.requires.strong c.requires.visible
    (sym (rank_is (goal.at.returns-then-rank c).After-rank_at-rank) ∙ c.if-rank.true))

pub returns-then-is_surely_bound : goal.returns-then-is_surely_bound
returns-then-is_surely_bound c =
    let files = files_of c.args.test.now.tables.now in
    let b = binding_view c.args.test.now.binding.now in
    let P : ℕ → Type 0 = λ r. is_nobody (bound_by files b r) ≡ false in
    sym (bound_name files b c.args.file c.args.symbol c.requires.strong c.requires.visible
    (subst P (rank_is (goal.at.returns-then-is_surely_bound c).After-rank_at-rank) (c.is_surely_bound.ensures c.if-is_surely_bound.true)))
