use Rattle.std.proofs.Common.{rules, ℕ, List, ◌≡◌, ◌+◌, ◌-◌, length, map, take, drop, ap, sym, ◌∙◌, subst, arith}
use Rattle.std.specs.List.{range_with_len}
use Rattle.name_numbers.specs.Placed.{HasSlots}
use Rattle.name_numbers.specs.Texts.{hash_at}
use Rattle.name_numbers.proofs.BlockTexts.{hashes_part}
use Rattle.name_numbers.proofs.Placing.{slots_none}
use Rattle.name_numbers.proofs.racing.place_run.Goals as goal

pub loop-done-init : goal.loop-done-init
loop-done-init c = record {
  sits = c.requires.seat;
  room = c.in_ok-block.ensures;
  within = omega arith;
  slots = slots_none c.args.table.now c.args.seat.now.placed c.args.start c.in_ok-slots.slots.items (search rules);
}

pub place_block-requires-clause-seat : goal.place_block-requires-clause-seat
place_block-requires-clause-seat c = c.loop-done.invariant.sits

pub place_block-requires-clause-room : goal.place_block-requires-clause-room
place_block-requires-clause-room c = c.loop-done.invariant.room

pub place_block-requires-clause-some : goal.place_block-requires-clause-some
place_block-requires-clause-some c = c.next_block-part.ensures.some

pub place_block-requires-clause-most : goal.place_block-requires-clause-most
place_block-requires-clause-most c = c.next_block-part.ensures.most

pub place_block-requires-clause-within : goal.place_block-requires-clause-within
place_block-requires-clause-within c =
    let wide = c.loop-done.invariant.slots.wide in
    let within = c.next_block-part.ensures.within in
    let all = c.requires.within in
    omega (arith, wide, within, all)

pub place_block-requires-clause-hashes : goal.place_block-requires-clause-hashes
place_block-requires-clause-hashes c =
    let texts = c.args.texts.now in
    let next : List ℕ = c.next_block-part.result.now in
    let at : c.args.start + c.loop-done.done ≡ c.args.start + length c.loop-done.slots.items = ap (λ n. c.args.start + n) (sym c.loop-done.invariant.slots.wide) in
    let P : ℕ → Type 0 = λ n. next ≡ map (hash_at texts) (range_with_len n (length next)) in
    subst P at (c.next_block-part.ensures.is ∙ hashes_part texts c.args.start (length c.args.hashes.now) c.loop-done.done (length next) c.args.hashes.now c.requires.hashes c.next_block-part.ensures.within)

pub place_block-requires-clause-slots : goal.place_block-requires-clause-slots
place_block-requires-clause-slots c =
    let P : ℕ → Type 0 = λ n. HasSlots c.args.table.now c.loop-done.seat.placed c.args.start n c.loop-done.slots.items in
    subst P (sym c.loop-done.invariant.slots.wide) c.loop-done.invariant.slots

pub loop-done-preserved : goal.loop-done-preserved
loop-done-preserved c =
    let at = ap (λ n. n + length c.next_block-part.result.now) c.loop-done.invariant.slots.wide in
    let P : ℕ → Type 0 = λ n. HasSlots c.args.table.now c.place_block.new.seat.placed c.args.start n c.place_block.new.slots.items in
    record {
      sits = c.place_block.ensures.sits;
      room = c.place_block.ensures.room;
      within = c.next_block-part.ensures.within;
      slots = subst P at c.in_ok-next.ensures.slots;
    }

pub returns-clause-sits : goal.returns-clause-sits
returns-clause-sits c = c.loop-done.invariant.sits

pub returns-clause-slots : goal.returns-clause-slots
returns-clause-slots c =
    let high = c.loop-done.invariant.within in
    let low = c.loop-done-test.false in
    let all : c.loop-done.done ≡ length c.args.hashes.now = omega (arith, high, low) in
    let P : ℕ → Type 0 = λ n. HasSlots c.args.table.now c.loop-done.seat.placed c.args.start n c.loop-done.slots.items in
    subst P all c.loop-done.invariant.slots
