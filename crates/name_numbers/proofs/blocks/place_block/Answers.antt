use Rattle.std.proofs.Common.{ℕ, length, ap, arith}
use Rattle.name_numbers.proofs.BlockTexts.{none_early, slots_stay}
use Rattle.name_numbers.proofs.blocks.place_block.Goals as goal

pub place_listed-left-requires-clause-early : goal.place_listed-left-requires-clause-early
place_listed-left-requires-clause-early c =
    let len = c.forget_slots.ensures.len in
    let whole = ap length c.as_mut_slice-early.ensures.value in
    let room = c.find_near.ensures.room.early in
    let most = c.requires.most in
    none_early c.args.table.now c.args.seat.now.placed _ (length c.args.hashes.now) c.forget_slots.new.early (omega (arith, len, whole, room, most)) (λ k lt. c.forget_slots.ensures.none k (omega (arith, lt, len)))

pub returns-clause-keeps : goal.returns-clause-keeps
returns-clause-keeps c = λ p has. c.list_slots.ensures.keeps p (c.place_listed-left-2.ensures.keeps p (c.place_listed-left.ensures.keeps p has))

pub list_slots-requires-clause-slots : goal.list_slots-requires-clause-slots
list_slots-requires-clause-slots c =
    let n : ℕ = length c.args.slots.now.items in
    slots_stay c.args.table.now c.args.seat.now.placed _ c.args.start n c.args.slots.now.items (λ p has. c.place_listed-left-2.ensures.keeps p (c.place_listed-left.ensures.keeps p has)) c.requires.slots
