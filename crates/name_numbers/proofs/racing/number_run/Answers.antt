use Rattle.std.proofs.Common.{rules, ◌≡◌, ◌+◌, ℕ, List, length, map, ap, sym, ◌∙◌, subst, arith}
use Rattle.std.specs.List.{range_with_len}
use Rattle.name_numbers.specs.Placed.{AreNumbered}
use Rattle.name_numbers.specs.Texts.{hash_at}
use Rattle.name_numbers.proofs.Placing.{numbered_none, numbers_of_all, tags_listed, tags_so_far}
use Rattle.name_numbers.proofs.racing.number_run.Goals as goal

pub loop-done-init : goal.loop-done-init
loop-done-init c = record {
  sits = c.requires.seat;
  room = c.in_ok-block.ensures;
  within = omega arith;
  numbered = numbered_none c.args.texts.now c.args.seat.now.placed c.in_ok-numbers.numbers.items (search rules);
  tags = search rules;
}

pub hash_block-requires-clause-tags : goal.hash_block-requires-clause-tags
hash_block-requires-clause-tags c = c.loop-done.invariant.tags

pub number_block-requires-clause-seat : goal.number_block-requires-clause-seat
number_block-requires-clause-seat c = c.loop-done.invariant.sits

pub number_block-requires-clause-room : goal.number_block-requires-clause-room
number_block-requires-clause-room c = c.loop-done.invariant.room

pub number_block-requires-clause-some : goal.number_block-requires-clause-some
number_block-requires-clause-some c =
    let long = ap length c.as_slice.ensures.value in
    let some = c.in_ok-hash_block.ensures.some in
    omega (arith, long, some)

pub number_block-requires-clause-most : goal.number_block-requires-clause-most
number_block-requires-clause-most c =
    let long = ap length c.as_slice.ensures.value in
    let most = c.in_ok-hash_block.ensures.most in
    omega (arith, long, most)

pub number_block-requires-clause-within : goal.number_block-requires-clause-within
number_block-requires-clause-within c =
    let long = ap length c.as_slice.ensures.value in
    let within = c.in_ok-hash_block.ensures.within in
    omega (arith, long, within)

pub number_block-requires-clause-hashes : goal.number_block-requires-clause-hashes
number_block-requires-clause-hashes c =
    let P : List ℕ → Type 0 = λ l. l ≡ map (hash_at c.args.texts.now) (range_with_len c.loop-done.done (length l)) in
    subst P (sym c.as_slice.ensures.value) c.in_ok-hash_block.ensures.hashes

pub number_block-requires-clause-tags : goal.number_block-requires-clause-tags
number_block-requires-clause-tags c = tags_listed c.args.texts.now _ c.as_slice-in-loop-done.result.now (c.as_slice-in-loop-done.ensures.value ∙ c.in_ok-hash_block.ensures.tags)

pub number_block-requires-clause-before : goal.number_block-requires-clause-before
number_block-requires-clause-before c = c.loop-done.invariant.numbered

pub loop-done-preserved : goal.loop-done-preserved
loop-done-preserved c =
    let texts = c.args.texts.now in
    let done = c.loop-done.done in
    let long = ap length c.as_slice.ensures.value in
    let within = c.in_ok-hash_block.ensures.within in
    let is = c.len-done.ensures in
    let same : length c.hash_block.new.hashes.items ≡ c.len-done.result = omega (arith, is) in
    let P : ℕ → Type 0 = λ n. AreNumbered texts c.number_block.new.seat.placed (done + n) c.number_block.new.numbers.items in
    record {
      sits = c.number_block.ensures.sits;
      room = c.number_block.ensures.room;
      within = omega (arith, is, within);
      numbered = subst P (long ∙ same) c.in_ok-next.ensures.numbered;
      tags = tags_so_far texts _ _ c.hash_block.new.tags.items (ap (λ n. done + n) same) c.in_ok-hash_block.ensures.tags;
    }

pub returns : goal.returns
returns c =
    let high = c.loop-done.invariant.within in
    let low = c.loop-done-test.false in
    numbers_of_all c.args.texts.now c.loop-done.done c.loop-done.numbers.items (omega (arith, low, high)) c.loop-done.invariant.numbered.list
