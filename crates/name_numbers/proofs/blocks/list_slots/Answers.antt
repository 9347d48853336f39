use Rattle.std.proofs.Common.{ℕ, ◌≡◌, ◌+◌, length, map, Contains, subst, arith}
use Rattle.std.specs.List.{range_with_len}
use Rattle.intern_race.specs.Interning.{pair}
use Rattle.name_numbers.specs.Placed.{AreAlike, AreEarly, HasSlots}
use Rattle.name_numbers.specs.Texts.{hash_at}
use Rattle.name_numbers.proofs.BlockTexts.{early_kept}
use Rattle.name_numbers.proofs.Placing.{slots_next}
use Rattle.name_numbers.proofs.blocks.list_slots.Goals as goal

pub loop-k-init : goal.loop-k-init
loop-k-init c =
    let n : ℕ = length c.args.slots.now.items in
    let is : n ≡ n + 0 = omega arith in
    let P : ℕ → Type 0 = λ m. HasSlots c.args.table.now c.args.seat.now.placed c.args.start m c.args.slots.now.items in
    record { sits = c.requires.seat; keeps = λ p has. has; slots = subst P is c.requires.slots }

pub slot_of-slot-requires-clause-seat : goal.slot_of-slot-requires-clause-seat
slot_of-slot-requires-clause-seat c = c.loop-k.invariant.sits

pub slot_of-slot-requires-clause-early : goal.slot_of-slot-requires-clause-early
slot_of-slot-requires-clause-early c =
    let is = c.len.ensures in
    let at : c.args.start + length c.args.slots.now.items ≡ c.args.start + c.len.result = omega (arith, is) in
    let P : ℕ → Type 0 = λ m. AreEarly c.args.table.now c.loop-k.seat.placed m (length c.args.hashes.now) c.args.early.now in
    subst P at (early_kept c.args.table.now c.args.seat.now.placed c.loop-k.seat.placed _ (length c.args.hashes.now) c.args.early.now c.loop-k.invariant.keeps c.requires.early)

pub returns-in_err-push-clause-sits : goal.returns-in_err-push-clause-sits
returns-in_err-push-clause-sits c = c.slot_of-slot.ensures.sits

pub returns-in_err-push-clause-keeps : goal.returns-in_err-push-clause-keeps
returns-in_err-push-clause-keeps c = λ p has. c.slot_of-slot.ensures.keeps p (c.loop-k.invariant.keeps p has)

pub loop-k-preserved : goal.loop-k-preserved
loop-k-preserved c =
    let t = c.args.table.now in
    let old = c.loop-k.seat in
    let start : ℕ = c.args.start in
    let n : ℕ = length c.args.slots.now.items in
    let k : ℕ = c.loop-k.k in
    let before = c.loop-k.invariant in
    let now = c.slot_of-slot.ensures in
    let is = c.len.ensures in
    let at : start + c.len.result + k ≡ start + (n + k) = omega (arith, is) in
    let next : n + k + 1 ≡ n + (k + 1) = omega arith in
    let In : ℕ → Type 0 = λ m. Contains c.slot_of-slot.new.seat.placed (pair c.slot_of-slot.result m) in
    let P : ℕ → Type 0 = λ m. HasSlots t c.slot_of-slot.new.seat.placed start m c.push.new.self.items in
    record {
      sits = now.sits;
      keeps = λ p has. now.keeps p (before.keeps p has);
      slots = subst P next (slots_next t old.placed _ start (n + k) c.slot_of-slot.result c.loop-k.slots.items c.push.new.self.items before.slots now.keeps now.within (subst In at now.placed) c.in_ok-push.ensures.items);
    }

pub returns-clause-sits : goal.returns-clause-sits
returns-clause-sits c = c.loop-k.invariant.sits

pub returns-clause-keeps : goal.returns-clause-keeps
returns-clause-keeps c = c.loop-k.invariant.keeps

pub returns-clause-slots : goal.returns-clause-slots
returns-clause-slots c =
    let n : ℕ = length c.args.slots.now.items in
    let all : n + c.loop-k.k ≡ n + length c.args.hashes.now = omega arith in
    let P : ℕ → Type 0 = λ m. HasSlots c.args.table.now c.loop-k.seat.placed c.args.start m c.loop-k.slots.items in
    subst P all c.loop-k.invariant.slots
