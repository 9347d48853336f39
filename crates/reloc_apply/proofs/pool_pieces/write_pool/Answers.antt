use Rattle.std.proofs.Common.{◌+◌, ◌∙◌, List, ap, arith, flat_map, get_or, length, subst, sym, take}
use Rattle.link_sections.specs.declared.pieces.Piece.{Piece as HeldPiece}
use Rattle.link_sections.specs.Views.{files_in}
use Rattle.reloc_apply.specs.Image.{Piece, ShowsFrom}
use Rattle.reloc_apply.specs.Standing.{no_piece}
use Rattle.reloc_apply.proofs.PieceWalks.{walk_end, walk_next, walk_start}
use Rattle.reloc_apply.proofs.PoolSteps.{begins_last, ends_first, none, part_away, part_pieces, pool_is}
use Rattle.reloc_apply.proofs.pool_pieces.write_pool.Goals as goal

pub begun_before-last-requires : goal.begun_before-last-requires
begun_before-last-requires c = (c.pieces-pieces.ensures.piled none (pool_is c.args.view.now c.args.pool c.requires.number).number).order

pub ended_before-k-requires-clause-order : goal.ended_before-k-requires-clause-order
ended_before-k-requires-clause-order c = (c.pieces-pieces.ensures.piled none (pool_is c.args.view.now c.args.pool c.requires.number).number).order

pub loop-k-init : goal.loop-k-init
loop-k-init c =
    let files = files_in c.args.view.now in
    let pieces = c.pieces-pieces.result.now in
    let P : List HeldPiece → Type 0 = λ l. ShowsFrom c.args.from c.args.block.now c.args.block.now (flat_map (part_pieces files c.args.at) (take c.ended_before-k.result l)) in
    subst P c.pieces-pieces.ensures.value
    (walk_start (part_pieces files c.args.at) no_piece pieces c.args.from c.ended_before-k.result c.args.block.now c.ended_before-k.ensures.bound (λ j lt.
    let p = get_or pieces j no_piece in
    let before = c.ended_before-k.ensures.before j lt in
    part_away files c.args.from (length c.args.block.now) c.args.at p
    (ends_first c.args.from (length c.args.block.now) c.args.at p.position p.text.len (omega (arith, before, c.saturating_sub-2.ensures)))))

pub write_piece-requires-clause-room : goal.write_piece-requires-clause-room
write_piece-requires-clause-room c =
    let pool = pool_is c.args.view.now c.args.pool c.requires.number in
    let pile = c.pieces-pieces.ensures.piled none pool.number in
    let within = c.loop-k.auto.k-end in
    let lt = c.loop-k-test.true in
    let inside = pile.inside c.loop-k.k no_piece (omega (arith, lt, within, c.begun_before-last.ensures.bound)) in
    let size = pool.size in
    omega (arith, inside, size, c.requires.room)

pub loop-k-preserved : goal.loop-k-preserved
loop-k-preserved c =
    let files = files_in c.args.view.now in
    let f = part_pieces files c.args.at in
    let pieces = c.pieces-pieces.result.now in
    let P : List HeldPiece → Type 0 = λ l. ShowsFrom c.args.from c.args.block.now c.write_piece.new.block (flat_map f (take (c.loop-k.k + 1) l)) in
    let Q : List HeldPiece → Type 0 = λ l. ShowsFrom c.args.from c.args.block.now c.loop-k.block (flat_map f (take c.loop-k.k l)) in
    let lt = c.loop-k-test.true in
    let within = c.loop-k.auto.k-end in
    subst P c.pieces-pieces.ensures.value
    (walk_next f no_piece pieces c.args.from c.loop-k.k c.args.block.now c.loop-k.block c.write_piece.new.block (omega (arith, lt, within, c.begun_before-last.ensures.bound))
    (subst Q (sym c.pieces-pieces.ensures.value) c.loop-k.invariant) c.write_piece.ensures)

pub returns : goal.returns
returns c =
    let files = files_in c.args.view.now in
    let f = part_pieces files c.args.at in
    let pieces = c.pieces-pieces.result.now in
    let pool = pool_is c.args.view.now c.args.pool c.requires.number in
    let P : List Piece → Type 0 = λ ps. ShowsFrom c.args.from c.args.block.now c.loop-k.block ps in
    let Q : List HeldPiece → Type 0 = λ l. ShowsFrom c.args.from c.args.block.now c.loop-k.block (flat_map f (take c.loop-k.k l)) in
    let past = c.loop-k-test.false in
    subst P (ap (flat_map f) c.pieces-pieces.ensures.value ∙ sym (pool.pieces c.args.at))
    (walk_end f no_piece pieces c.args.from c.loop-k.k c.args.block.now c.loop-k.block (λ j le lt.
    let p = get_or pieces j no_piece in
    let after = c.begun_before-last.ensures.after j (omega (arith, past, le)) lt in
    part_away files c.args.from (length c.args.block.now) c.args.at p
    (begins_last c.args.from (length c.args.block.now) c.args.at p.position p.text.len (omega (arith, after, c.saturating_sub.ensures))))
    (subst Q (sym c.pieces-pieces.ensures.value) c.loop-k.invariant))
