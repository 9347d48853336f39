use Rattle.std.proofs.Common.{◌+◌, ◌<◌, length, arith}
use Rattle.intern_race.proofs.Sitting.{sits_after}
use Rattle.intern_race.proofs.Walks.{walk_places}
use Rattle.name_numbers.proofs.BlockTexts.{early_read}
use Rattle.name_numbers.proofs.Placing.{hash_read, keeps_after}
use Rattle.name_numbers.proofs.blocks.slot_of.Goals as goal

pub bounds-early-k : goal.bounds-early-k
bounds-early-k c = let wide = c.requires.early.wide in let lt = c.requires.k in omega (arith, wide, lt)

pub bounds-alike-k : goal.bounds-alike-k
bounds-alike-k c = let wide = c.requires.alike.wide in let lt = c.requires.k in omega (arith, wide, lt)

pub returns-then-slot-clause-keeps : goal.returns-then-slot-clause-keeps
returns-then-slot-clause-keeps c = λ p has. has

pub returns-then-slot-clause-within : goal.returns-then-slot-clause-within
returns-then-slot-clause-within c =
    (early_read c.args.table.now c.args.seat.now.placed c.args.from (length c.args.hashes.now) c.args.k c.args.early.now c.requires.k c.if-slot.true c.requires.early).0

pub returns-then-slot-clause-placed : goal.returns-then-slot-clause-placed
returns-then-slot-clause-placed c =
    (early_read c.args.table.now c.args.seat.now.placed c.args.from (length c.args.hashes.now) c.args.k c.args.early.now c.requires.k c.if-slot.true c.requires.early).1

pub place_hashed-requires-clause-hash : goal.place_hashed-requires-clause-hash
place_hashed-requires-clause-hash c = hash_read c.args.texts.now c.args.from _ c.args.k c.args.hashes.now c.requires.hashes c.requires.k

pub place_hashed-requires-clause-alike : goal.place_hashed-requires-clause-alike
place_hashed-requires-clause-alike c = c.requires.alike.each c.args.k c.requires.k

pub returns-clause-sits : goal.returns-clause-sits
returns-clause-sits c =
    let walk = c.place_hashed.ensures.walk in
    sits_after c.args.table.now c.args.seat.now _ walk.0 c.requires.seat walk.2

pub returns-clause-keeps : goal.returns-clause-keeps
returns-clause-keeps c =
    let walk = c.place_hashed.ensures.walk in
    keeps_after c.args.seat.now _ walk.0 walk.2

pub returns-clause-placed : goal.returns-clause-placed
returns-clause-placed c = walk_places c.args.table.now (c.args.from + c.args.k) c.place_hashed.result c.args.seat.now _ c.place_hashed.ensures.walk
