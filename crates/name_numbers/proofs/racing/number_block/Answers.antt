use Rattle.std.proofs.Common.{ℕ, List, ◌≡◌, ◌+◌, length, map, ap, refl, sym, ◌∙◌, subst, arith}
use Rattle.std.specs.List.{range_with_len}
use Rattle.name_numbers.specs.Placed.{AreNumbered, HasSlots}
use Rattle.name_numbers.specs.Texts.{hash_at, number_at}
use Rattle.name_numbers.proofs.BlockTexts.{numbered_on, placed_on}
use Rattle.name_numbers.proofs.Placing.{slots_none}
use Rattle.name_numbers.proofs.racing.number_block.Goals as goal

pub place_block-requires-clause-within : goal.place_block-requires-clause-within
place_block-requires-clause-within c =
    let none = ap length c.clear.ensures.items in
    let within = c.requires.within in
    omega (arith, none, within)

pub place_block-requires-clause-hashes : goal.place_block-requires-clause-hashes
place_block-requires-clause-hashes c =
    let none = ap length c.clear.ensures.items in
    let from : c.args.start ≡ c.args.start + length c.clear.new.self.items = omega (arith, none) in
    let P : ℕ → Type 0 = λ n. c.args.hashes.now ≡ map (hash_at c.args.texts.now) (range_with_len n (length c.args.hashes.now)) in
    subst P from c.requires.hashes

pub place_block-requires-clause-slots : goal.place_block-requires-clause-slots
place_block-requires-clause-slots c =
    let slots : List ℕ = c.clear.new.self.items in
    let P : ℕ → Type 0 = λ n. HasSlots c.args.table.now c.args.seat.now.placed c.args.start n slots in
    subst P (sym (ap length c.clear.ensures.items)) (slots_none c.args.table.now c.args.seat.now.placed c.args.start slots c.clear.ensures.items)

pub push_numbers-requires-clause-within : goal.push_numbers-requires-clause-within
push_numbers-requires-clause-within c =
    let none = ap length c.clear.ensures.items in
    let wide = c.in_ok-left.ensures.slots.wide in
    let within = c.requires.within in
    let long = ap length c.as_slice.ensures.value in
    omega (arith, none, wide, within, long)

pub push_numbers-requires-clause-all : goal.push_numbers-requires-clause-all
push_numbers-requires-clause-all c =
    let slots = c.in_ok-left.ensures.slots in
    let same = ap length c.as_slice.ensures.value ∙ slots.wide in
    placed_on c.args.table.now c.args.seat.now.placed _ c.args.start (length c.as_slice.result.now) _ c.place_block.ensures.keeps
    (subst (λ n. HasSlots c.args.table.now c.place_block.new.seat.placed c.args.start n c.place_block.new.slots.items) (sym same) slots) c.requires.before.all

pub push_numbers-requires-clause-slots : goal.push_numbers-requires-clause-slots
push_numbers-requires-clause-slots c =
    let slots = c.in_ok-left.ensures.slots in
    let P : List ℕ → Type 0 = λ l. HasSlots c.args.table.now c.place_block.new.seat.placed c.args.start (length l) l in
    subst P (sym c.as_slice.ensures.value) (subst (λ n. HasSlots c.args.table.now c.place_block.new.seat.placed c.args.start n c.place_block.new.slots.items) (sym slots.wide) slots)

pub returns-clause-numbered : goal.returns-clause-numbered
returns-clause-numbered c =
    let none = ap length c.clear.ensures.items in
    let slots = c.in_ok-left.ensures.slots in
    let n : ℕ = length c.clear.new.self.items + length c.args.hashes.now in
    let same : length c.as_slice.result.now ≡ n = ap length c.as_slice.ensures.value ∙ slots.wide in
    let count : n ≡ length c.args.hashes.now = omega (arith, none) in
    let P : ℕ → Type 0 = λ m. AreNumbered c.args.texts.now c.push_numbers.new.seat.placed (c.args.start + m) c.push_numbers.new.numbers.items in
    subst P (same ∙ count) (numbered_on c.args.table.now c.args.texts.now c.args.seat.now.placed _ _ c.args.start (length c.as_slice.result.now) _ c.args.numbers.now.items c.push_numbers.new.numbers.items
    c.place_block.ensures.keeps c.push_numbers.ensures.keeps
    (subst (λ m. HasSlots c.args.table.now c.place_block.new.seat.placed c.args.start m c.place_block.new.slots.items) (sym same) slots)
    c.in_ok-push_numbers.ensures.numbers c.requires.before)
