use Rattle.std.proofs.Common.{ℕ, ◌≡◌, ◌+◌, ◌-◌, ◌≤◌, length, take, drop, ap, sym, ◌∙◌, arith}
use Rattle.name_numbers.proofs.BlockTexts.{part_is, part_long}
use Rattle.name_numbers.proofs.racing.next_block.Goals as goal

pub returns-clause-some : goal.returns-clause-some
returns-clause-some c =
    let long = part_long c.args.hashes.now c.args.done c.block_of-count.result c.part_of.result.now (omega arith) c.part_of.ensures in
    let some = c.block_of-count.ensures.some in
    omega (arith, long, some)

pub returns-clause-most : goal.returns-clause-most
returns-clause-most c =
    let long = part_long c.args.hashes.now c.args.done c.block_of-count.result c.part_of.result.now (omega arith) c.part_of.ensures in
    let room = c.block_of-count.ensures.room in
    omega (arith, long, room)

pub returns-clause-within : goal.returns-clause-within
returns-clause-within c =
    let long = part_long c.args.hashes.now c.args.done c.block_of-count.result c.part_of.result.now (omega arith) c.part_of.ensures in
    let most = c.block_of-count.ensures.most in
    let start = c.requires in
    omega (arith, long, most, start)

pub returns-clause-is : goal.returns-clause-is
returns-clause-is c = part_is c.args.hashes.now c.args.done c.block_of-count.result c.part_of.result.now (omega arith) c.part_of.ensures
