use Rattle.std.proofs.Common.{leb, leb-true, rules, sym}
use Rattle.std.proofs.lemmas.Bool.{MatchBool-at_true}
use Rattle.std.proofs.lemmas.Fn.{always_returns_same}
use Rattle.std.proofs.lemmas.List.Sorted.{IsNonDecreasingBy-from_all_adjacent}
use Rattle.output_sections.specs.Order.{key_of}
use Rattle.output_sections.proofs.rows.is_ordered.Goals as goal

pub returns : goal.returns
returns c = λ yes.
    let all = MatchBool-at_true _ _ yes (c.is_sorted_by.ensures.cases (λ x y. leb (key_of x) (key_of y)) (always_returns_same _ _ _ (λ a r f k. search rules))) in
    IsNonDecreasingBy-from_all_adjacent key_of c.args.rows.now (λ k d lt. leb-true _ _ (sym (all k d lt)))
