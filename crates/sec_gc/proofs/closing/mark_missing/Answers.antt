use Rattle.std.proofs.Common.{List, ℕ, length, sym, subst}
use Rattle.std.specs.declared.ops.Range.{Range}
use Rattle.sec_gc.specs.Closing.{KeepsSeen}
use Rattle.sec_gc.proofs.Rounds.{all_rest, found_each}
use Rattle.work_split.specs.Pieces.{Tiles}
use Rattle.sec_gc.proofs.closing.mark_missing.Goals as goal

pub mark_pieces-requires-clause-found : goal.mark_pieces-requires-clause-found
mark_pieces-requires-clause-found g c κs within = found_each c.args.marks.now c.args.seat.now.seen c.args.on.now c.in_ok-seats.seats.items c.requires.found c.in_ok-seats.ensures.same

pub returns-clause-keeps : goal.returns-clause-keeps
returns-clause-keeps g c = subst (λ l. KeepsSeen l c.join_all.new.seat.seen) c.seats_for.ensures.seen c.join_all.ensures.keeps

pub returns-clause-rests : goal.returns-clause-rests
returns-clause-rests g c =
    let on = c.args.on.now in
    let Tile : List (Range ℕ) → Type 0 = Tiles 0 (length on) in
    let tiles : Tile c.as_slice.result.now = subst Tile (sym c.as_slice.ensures.value) c.in_ok-cuts.ensures.tiles in
    let joined = c.join_all.ensures in
    all_rest c.args.marks.now on c.as_slice.result.now c.in_ok-done.done.items c.join_all.new.seat c.join_all.result tiles c.in_ok-done.ensures joined.kept joined.some joined.none
