use Rattle.std.proofs.Common.{ℕ, map, ◌≡◌, sym, subst, arith}
use Rattle.std.specs.List.{range_with_len}
use Rattle.std.specs.Prelude.{IfOk}
use Rattle.std.specs.Global.{Vec}
use Rattle.name_numbers.specs.Placed.{HasSlots}
use Rattle.name_numbers.specs.Texts.{number_at}
use Rattle.name_numbers.proofs.racing.number_piece.Goals as goal

pub numbers_of-requires-clause-slots : goal.numbers_of-requires-clause-slots
numbers_of-requires-clause-slots c =
    let P : ℕ → Type 0 = λ n. HasSlots c.args.table.now c.args.seat.placed c.args.piece.start n c.args.slots.now in
    subst P (sym c.requires.slots.wide) c.requires.slots

pub numbers_of-requires-clause-within : goal.numbers_of-requires-clause-within
numbers_of-requires-clause-within c =
    let wide = c.requires.slots.wide in
    let low = c.requires.ordered in
    let high = c.requires.piece in
    omega (arith, wide, low, high)

pub returns : goal.returns
returns c =
    let P : ℕ → Type 0 = λ n. IfOk c.numbers_of.result (λ (list : Vec ℕ). list.items ≡ map (number_at c.args.texts.now) (range_with_len c.args.piece.start n)) in
    subst P c.requires.slots.wide c.numbers_of.ensures
