use Rattle.std.proofs.Common.{rules, ◌≡◌, sym, ◌∙◌}
use Rattle.std.specs.Str.{bytes_eq}
use Rattle.intern_race.specs.Texts.{text_at}
use Rattle.intern_race.proofs.Seats.{apart_of, placed_apart, placed_number}
use Rattle.intern_race.proofs.table.Interner.same.Goals as goal

pub text-requires : goal.text-requires
text-requires c =
    let texts = c.args.texts.now in
    let apart = apart_of c.seat.inside.seat c.args.seat.now texts c.seat.invariant c.seat.view_is (c.requires.seat.texts ∙ sym c.requires.texts) in
    placed_number texts c.args.seat.now c.args.i apart c.requires.first

pub text-requires-2 : goal.text-requires-2
text-requires-2 c =
    let texts = c.args.texts.now in
    let apart = apart_of c.seat.inside.seat c.args.seat.now texts c.seat.invariant c.seat.view_is (c.requires.seat.texts ∙ sym c.requires.texts) in
    placed_number texts c.args.seat.now c.args.j apart c.requires.second

pub returns-clause-slots : goal.returns-clause-slots
returns-clause-slots c =
    let texts = c.args.texts.now in
    let apart = apart_of c.seat.inside.seat c.args.seat.now texts c.seat.invariant c.seat.view_is (c.requires.seat.texts ∙ sym c.requires.texts) in
    let is : c.eq.result ≡ bytes_eq (text_at texts c.args.i) (text_at texts c.args.j) = search rules in
    λ k l one two. placed_apart texts c.args.seat.now k l c.args.i c.args.j c.eq.result apart one two is
