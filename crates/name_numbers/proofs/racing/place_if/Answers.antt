use Rattle.std.proofs.Common.{ℕ, List, ◌≡◌, ◌+◌, ◌-◌, length, map, ap, sym, ◌∙◌, subst, arith}
use Rattle.std.specs.Prelude.{Option, Result, IfOk, IfSome}
use Rattle.std.specs.Global.{Vec}
use Rattle.std.specs.List.{range_with_len}
use Rattle.lk_base.specs.declared.defects.LinkStop.{LinkStop}
use Rattle.name_numbers.specs.Placed.{HasHashes, HasSlots}
use Rattle.name_numbers.specs.Texts.{hash_at}
use Rattle.name_numbers.proofs.BlockTexts.{slots_if}
use Rattle.name_numbers.proofs.Placing.{hashed_whole, length_hashes}
use Rattle.name_numbers.proofs.racing.place_if.Goals as goal

pub place_run-requires-clause-hashes : goal.place_run-requires-clause-hashes
place_run-requires-clause-hashes c =
    let texts = c.args.texts.now in
    let start : ℕ = c.args.piece.start in
    let n : ℕ = c.args.piece.end - c.args.piece.start in
    let P : Result (Vec ℕ) LinkStop → Type 0 = HasHashes texts c.args.piece in
    let Q : List ℕ → Type 0 = λ l. l ≡ map (hash_at texts) (range_with_len start (length l)) in
    let are = subst P c.in-Ok.is c.requires.hashes in
    subst Q (sym c.as_slice.ensures.value) (hashed_whole texts start n c.in-Ok.list.items are)

pub place_run-requires-clause-within : goal.place_run-requires-clause-within
place_run-requires-clause-within c =
    let texts = c.args.texts.now in
    let P : Result (Vec ℕ) LinkStop → Type 0 = HasHashes texts c.args.piece in
    let are = subst P c.in-Ok.is c.requires.hashes in
    let long = ap length c.as_slice.ensures.value ∙ length_hashes texts c.args.piece.start (c.args.piece.end - c.args.piece.start) c.in-Ok.list.items are in
    let low = c.requires.ordered in
    let high = c.requires.piece in
    omega (arith, long, low, high)

pub returns-in-Ok-place_run-clause-slots : goal.returns-in-Ok-place_run-clause-slots
returns-in-Ok-place_run-clause-slots c =
    let texts = c.args.texts.now in
    let start : ℕ = c.args.piece.start in
    let n : ℕ = c.args.piece.end - c.args.piece.start in
    let P : Result (Vec ℕ) LinkStop → Type 0 = HasHashes texts c.args.piece in
    let are = subst P c.in-Ok.is c.requires.hashes in
    let long = ap length c.as_slice.ensures.value ∙ length_hashes texts start n c.in-Ok.list.items are in
    slots_if c.args.table.now c.place_run.new.seat.placed start (length c.as_slice.result.now) n c.place_run.result c.in-Ok-place_run.slots long c.in-Ok-place_run.is c.place_run.ensures.slots
