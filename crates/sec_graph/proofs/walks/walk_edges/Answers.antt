use Rattle.std.proofs.Common.{◌≡◌, ◌∙◌, ◌++◌, List, ℕ, length, ap, arith, subst, sym}
use Rattle.std.specs.Prelude.{◌↔◌}
use Rattle.lk_tables.specs.BindingView.{binding_view}
use Rattle.lk_tables.specs.TablesView.{files_of}
use Rattle.lk_tables.proofs.ByNumber.{section_rows_step}
use Rattle.sec_graph.specs.Kept.{HasEnds, IsClosedByRules}
use Rattle.sec_graph.specs.WalkEdges.{walk_edges, walk_ends}
use Rattle.sec_graph.proofs.WalkClosing.{walk_count, walk_rows, walks_law, walks_within}
use Rattle.sec_graph.proofs.walks.walk_edges.Goals as goal
use Rattle.sec_graph.proofs.walks.walk_edges.Goals.{After-loop-file}

pub loop-file-preserved : goal.loop-file-preserved
loop-file-preserved c =
    section_rows_step (files_of c.args.tables.now) (walk_ends (files_of c.args.tables.now) (binding_view c.args.binding.now)) c.loop-file.file c.loop-file.rows c.append.new.self
    c.loop-file.invariant (c.in_ok-append.ensures.ok ∙ ap (λ part. c.loop-file.rows ++ part) c.in_ok-part.ensures)

rows_are : (c : After-loop-file) → c.loop-file.rows ≡ walk_edges (files_of c.args.tables.now) (binding_view c.args.binding.now)
rows_are c = walk_rows (files_of c.args.tables.now) (binding_view c.args.binding.now) c.loop-file.rows c.loop-file.file c.loop-file.invariant (omega arith)

pub from_rows-requires-clause-within : goal.from_rows-requires-clause-within
from_rows-requires-clause-within c =
    walks_within (files_of c.args.tables.now) (binding_view c.args.binding.now) c.loop-file.rows c.requires.bound c.prove_few.ensures (rows_are (goal.at.from_rows-requires-clause-within c).After-loop-file)

pub from_rows-requires-clause-few : goal.from_rows-requires-clause-few
from_rows-requires-clause-few c =
    omega (
      arith,
      c.prove_few.ensures.section_count_is,
      walk_count (files_of c.args.tables.now) (binding_view c.args.binding.now) c.loop-file.rows (rows_are (goal.at.from_rows-requires-clause-few c).After-loop-file),
    )

pub returns-clause-value : goal.returns-clause-value
returns-clause-value c = c.from_rows.ensures ∙ rows_are (goal.at.returns-clause-value c).After-loop-file

pub returns-clause-law : goal.returns-clause-law
returns-clause-law c = λ s.
    let files = files_of c.args.tables.now in
    let b = binding_view c.args.binding.now in
    let P : List (List ℕ) → Type 0 = λ l. IsClosedByRules files b s ↔ HasEnds l s in
    subst P (sym (c.from_rows.ensures ∙ rows_are (goal.at.returns-clause-law c).After-loop-file)) (walks_law files b s)
