use Rattle.std.proofs.Common.{ℕ, ap, ◌∙◌, rules}
use Rattle.std.proofs.lemmas.List.Sorted.{IsNonDecreasingBy-from_sort_by_key, answers_always}
use Rattle.sec_graph.specs.declared.pairs.Pair.{Pair}
use Rattle.sec_graph.specs.Graph.{pairs_from}
use Rattle.sec_graph.proofs.Runs.{stable_same}
use Rattle.sec_graph.proofs.named_sections.pairs_named.Goals as goal

abbrev number : Pair → ℕ
number p = p.from

pub returns : goal.returns
returns c = record {
  rises = IsNonDecreasingBy-from_sort_by_key number _ c.in_ok-sort_by_key.ensures.sorted (λ a r q k. search rules);
  same = λ section. stable_same _ _ (c.in_ok-sort_by_key.ensures.stable number (answers_always _ _ _ (λ f a r q k. search rules))) section
      ∙ ap (pairs_from section) c.in_ok-pairs.ensures;
}
