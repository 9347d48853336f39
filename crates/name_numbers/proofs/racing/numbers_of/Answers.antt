use Rattle.std.proofs.Common.{rules, ◌≡◌, [], ◌++◌, ◌∙◌, ap, arith, length, map}
use Rattle.std.specs.List.{range_with_len}
use Rattle.name_numbers.specs.Texts.{number_at}
use Rattle.name_numbers.proofs.racing.numbers_of.Goals as goal

pub push_numbers-requires-clause-all : goal.push_numbers-requires-clause-all
push_numbers-requires-clause-all c = λ i lt. let within = c.requires.within in c.requires.all i (omega (arith, within, lt))

pub returns : goal.returns
returns c =
    let none : c.in_ok-list.list.items ≡ [] = search rules in
    c.in_ok-push_numbers.ensures.numbers ∙ ap (λ l. l ++ map (number_at c.args.texts.now) (range_with_len c.args.start (length c.args.slots.now))) none
