use Rattle.std.proofs.Common.{◌+◌, ◌<◌, length, arith}
use Rattle.intern_race.proofs.Sitting.{sits_after}
use Rattle.intern_race.proofs.Walks.{walk_places}
use Rattle.name_numbers.proofs.BlockTexts.{early_set}
use Rattle.name_numbers.proofs.Placing.{hash_read, keeps_after}
use Rattle.name_numbers.proofs.blocks.place_one.Goals as goal

pub bounds-alike-k : goal.bounds-alike-k
bounds-alike-k c = let wide = c.requires.alike.wide in omega (arith, wide)

pub place_hashed-slot-requires-clause-hash : goal.place_hashed-slot-requires-clause-hash
place_hashed-slot-requires-clause-hash c = hash_read c.args.texts.now c.args.from _ c.args.k c.args.hashes.now c.requires.hashes (omega arith)

pub place_hashed-slot-requires-clause-alike : goal.place_hashed-slot-requires-clause-alike
place_hashed-slot-requires-clause-alike c = c.requires.alike.each c.args.k (omega arith)

pub bounds-early-k : goal.bounds-early-k
bounds-early-k c = let wide = c.requires.early.wide in omega (arith, wide)

pub returns-clause-sits : goal.returns-clause-sits
returns-clause-sits c =
    let walk = c.place_hashed-slot.ensures.walk in
    sits_after c.args.table.now c.args.seat.now _ walk.0 c.requires.seat walk.2

pub returns-clause-keeps : goal.returns-clause-keeps
returns-clause-keeps c =
    let walk = c.place_hashed-slot.ensures.walk in
    keeps_after c.args.seat.now _ walk.0 walk.2

pub returns-clause-early : goal.returns-clause-early
returns-clause-early c =
    let t = c.args.table.now in
    let old = c.args.seat.now in
    let walk = c.place_hashed-slot.ensures.walk in
    early_set t old.placed _ c.args.from (length c.args.hashes.now) c.args.k c.place_hashed-slot.result c.args.early.now (omega arith) (keeps_after old _ walk.0 walk.2)
    c.place_hashed-slot.ensures.within (walk_places t (c.args.from + c.args.k) c.place_hashed-slot.result old _ walk) c.requires.early
