use Rattle.std.proofs.Common.{◌≡◌, ◌∙◌, ℕ, List, ap, flat_map, arith, subst, sym}
use Rattle.std.specs.Prelude.{◌↔◌}
use Rattle.lk_tables.specs.BindingView.{binding_view}
use Rattle.lk_tables.specs.TablesView.{files_of}
use Rattle.sec_graph.specs.Graph.{edges}
use Rattle.sec_graph.specs.Kept.{HasEnds, IsClosedByRules}
use Rattle.sec_graph.proofs.Closing.{closed_is}
use Rattle.sec_graph.proofs.Joining.{joined_rows, row_count, rows_within}
use Rattle.sec_graph.proofs.graph.edges.Goals as goal
use Rattle.sec_graph.proofs.graph.edges.Goals.{In_ok-rows}

rows_are : (g : _) (c : In_ok-rows g) → c.in_ok-rows.rows ≡ edges (files_of c.args.tables.now) (binding_view c.args.binding.now)
rows_are g c =
    joined_rows (files_of c.args.tables.now) (binding_view c.args.binding.now) c.in_ok-parts.parts.items c.in_ok-rows.rows c.in_ok-parts.ensures
    (c.in_ok-rows.ensures ∙ ap (flat_map (λ part. part)) c.as_slice-3.ensures.value)

pub from_rows-requires-clause-within : goal.from_rows-requires-clause-within
from_rows-requires-clause-within g c =
    rows_within (files_of c.args.tables.now) (binding_view c.args.binding.now) c.in_ok-rows.rows c.requires.bound c.prove_few.ensures (rows_are g c)

pub from_rows-requires-clause-few : goal.from_rows-requires-clause-few
from_rows-requires-clause-few g c =
    omega (arith, c.prove_few.ensures.section_count_is, row_count (files_of c.args.tables.now) (binding_view c.args.binding.now) c.in_ok-rows.rows (rows_are g c))

pub returns-clause-value : goal.returns-clause-value
returns-clause-value g c = c.from_rows.ensures ∙ rows_are g ((goal.at.returns-clause-value g c).In_ok-rows)

pub returns-clause-law : goal.returns-clause-law
returns-clause-law g c = λ s.
    let files = files_of c.args.tables.now in
    let b = binding_view c.args.binding.now in
    let P : List (List ℕ) → Type 0 = λ l. IsClosedByRules files b s ↔ HasEnds l s in
    subst P (sym (c.from_rows.ensures ∙ rows_are g ((goal.at.returns-clause-law g c).In_ok-rows))) (closed_is files b s)
