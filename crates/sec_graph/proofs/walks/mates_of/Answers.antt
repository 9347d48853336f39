use Rattle.std.proofs.Common.{◌≡◌, ℕ, ◌++◌, ap, ◌∙◌, rules, flat_map, map}
use Rattle.std.proofs.lemmas.List.Sorted.{IsNonDecreasingBy-from_sort_by_key, answers_always}
use Rattle.lk_tables.specs.BindingView.{binding_view}
use Rattle.lk_tables.specs.Files.{File}
use Rattle.lk_tables.specs.Objects.{group_view}
use Rattle.lk_tables.specs.TablesView.{files_of}
use Rattle.sec_graph.specs.declared.pairs.Pair.{Pair}
use Rattle.sec_graph.specs.Graph.{pairs_from}
use Rattle.sec_graph.specs.WalkEdges.{mates_in, square_in}
use Rattle.sec_graph.proofs.Runs.{stable_same}
use Rattle.sec_graph.proofs.walks.mates_of.Goals as goal

abbrev number : Pair → ℕ
number p = p.from

pub returns : goal.returns
returns c =
    let files = files_of c.args.tables.now in
    let b = binding_view c.args.binding.now in
    let square = square_in files b c.args.file in
    let own = map group_view c.groups.result.now in
    let groups = c.groups.ensures ∙ ap (λ (file : File). file.object.groups) c.file.ensures in
    let whole : c.push_squares.new.pairs.items ≡ mates_in files b c.args.file =
    c.in_ok-push_squares.ensures ∙ ap (λ l. l ++ flat_map square own) c.new-pairs.ensures.items ∙ ap (flat_map square) groups in
    record {
      rises = IsNonDecreasingBy-from_sort_by_key number _ c.in_ok-sort_by_key.ensures.sorted (λ a r q k. search rules);
      same = λ section. stable_same _ _ (c.in_ok-sort_by_key.ensures.stable number (answers_always _ _ _ (λ f a r q k. search rules))) section
          ∙ ap (pairs_from section) whole;
    }
