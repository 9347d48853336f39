use Rattle.std.proofs.Common.{rules, ◌≡◌, [], ◌-◌, ◌++◌, ◌∙◌, ap, arith, map}
use Rattle.std.specs.List.{range_with_len}
use Rattle.name_numbers.specs.Texts.{hash_at}
use Rattle.name_numbers.proofs.hash_lists.hashes_of.Goals as goal

pub push_hashes-requires-clause-within : goal.push_hashes-requires-clause-within
push_hashes-requires-clause-within c = let low = c.requires.ordered in let high = c.requires.piece in omega (arith, low, high)

pub returns : goal.returns
returns c =
    let none : c.in_ok-list.list.items ≡ [] = search rules in
    c.in_ok-push_hashes.ensures ∙ ap (λ l. l ++ map (hash_at c.args.texts.now) (range_with_len c.args.piece.start (c.args.piece.end - c.args.piece.start))) none
