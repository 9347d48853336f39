use Rattle.std.proofs.Common.{ℕ, ◌<◌, List, Bool, length, sym, subst, ◌∙◌}
use Rattle.std.specs.List.{All}
use Rattle.lk_tables.specs.BindingView.{binding_view}
use Rattle.lk_tables.specs.TablesView.{files_of}
use Rattle.link_sections.specs.Edges.{ends_of}
use Rattle.link_command.specs.Command.{lists_of}
use Rattle.link_passes.specs.Tables.{IsGraph, MayStay}
use Rattle.link_passes.proofs.Keeping.{all_stay, collected_stay, ends_count, graph_held, is_collected}
use Rattle.link_passes.proofs.collecting.find_kept_by.Goals as goal

pub returns-then-not-gc-clause-stay : goal.returns-then-not-gc-clause-stay
returns-then-not-gc-clause-stay g c =
    let files = files_of c.args.tables.now in
    let b = binding_view c.args.binding.now in
    let P : List Bool → Type 0 = λ kept. MayStay files b kept in
    subst P (sym c.in_ok-all.ensures) (all_stay files b)

pub keep-requires-clause-roots : goal.keep-requires-clause-roots
keep-requires-clause-roots g c = λ κs within.
    let files = files_of c.args.tables.now in
    let b = binding_view c.args.binding.now in
    let ends = ends_of c.in_ok-graph.graph.edges in
    let count = ends_count files b ends c.in_ok-graph.ensures.ends in
    let P : List ℕ → Type 0 = λ l. All (λ r. r < length ends) l in
    let Q : ℕ → Type 0 = λ n. All (λ r. r < n) c.in_ok-graph.graph.roots.items in
    subst P (sym c.as_slice.ensures.value) (subst Q (sym count) c.in_ok-graph.ensures.within)

pub returns-clause-stay : goal.returns-clause-stay
returns-clause-stay g c =
    let files = files_of c.args.tables.now in
    let b = binding_view c.args.binding.now in
    let ends = ends_of c.in_ok-graph.graph.edges in
    let roots_are = c.as_slice.ensures.value ∙ c.in_ok-graph.ensures.roots in
    let count = ends_count files b ends c.in_ok-graph.ensures.ends in
    collected_stay (lists_of c.args.undefined.now) files b ends c.as_slice.result.now c.in_ok-kept.kept.items c.requires.bound c.prove_few.ensures
    count roots_are c.in_ok-graph.ensures.law c.in_ok-kept.ensures.reach

pub returns-clause-collected : goal.returns-clause-collected
returns-clause-collected g c = λ gc.
    let files = files_of c.args.tables.now in
    let b = binding_view c.args.binding.now in
    let roots_are = c.as_slice.ensures.value ∙ c.in_ok-graph.ensures.roots in
    is_collected (lists_of c.args.undefined.now) files b (ends_of c.in_ok-graph.graph.edges) c.as_slice.result.now c.in_ok-kept.kept.items roots_are c.in_ok-graph.ensures.law
    c.in_ok-kept.ensures.reach

pub returns-clause-graph : goal.returns-clause-graph
returns-clause-graph g c =
    graph_held (files_of c.args.tables.now) (binding_view c.args.binding.now) (lists_of c.args.undefined.now) c.args.wanted c.in_ok-graph.graph c.graph_if.result c.graph_if.ensures.value
    (record { rooted = c.in_ok-graph.ensures.roots; within = c.in_ok-graph.ensures.within; ends = c.in_ok-graph.ensures.ends })
