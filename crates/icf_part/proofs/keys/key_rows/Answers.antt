use Rattle.std.proofs.Common.{ℕ, List, ◌∙◌, ap, subst, sym, get_or, arith}
use Rattle.icf_part.specs.Chosen.{views_at}
use Rattle.icf_part.specs.Signatures.{AreRowsFrom, key_at, key_words}
use Rattle.icf_part.proofs.ChosenItems.{chosen_view}
use Rattle.icf_part.proofs.PartSteps.{rows_first, rows_more, rows_end}
use Rattle.icf_part.proofs.keys.key_rows.Goals as goal

pub loop-a-init : goal.loop-a-init
loop-a-init c =
    let words = key_at (views_at c.args.items.now c.args.chosen.now) c.args.bytes.now c.args.outputs.now in
    let P : List (List ℕ) → Type 0 = AreRowsFrom words c.args.piece.start c.args.piece.start in
    (omega arith, subst P (sym c.in_ok-rows.ensures) (rows_first words c.args.piece.start))

pub loop-a-preserved : goal.loop-a-preserved
loop-a-preserved c =
    let words = key_at (views_at c.args.items.now c.args.chosen.now) c.args.bytes.now c.args.outputs.now in
    let low = c.loop-a.invariant.0 in
    let view = chosen_view c.args.items.now c.args.chosen.now c.loop-a.a c.index-items-chosen.result c.requires.chosen (omega (arith, c.loop-a-test.true, c.requires.within)) c.index-items-chosen.is in
    let x = get_or c.args.bytes.now c.loop-a.a 0 in
    let y = get_or c.args.outputs.now c.loop-a.a 0 in (
      omega (arith, low),
      rows_more words c.args.piece.start c.loop-a.a c.loop-a.rows c.push_row.new.rows c.as_slice.result.now low c.loop-a.invariant.1
          (c.as_slice.ensures.value ∙ c.in_ok-put_key.ensures ∙ ap (key_words x y) view)
          c.in_ok-push_row.ensures.fit c.in_ok-push_row.ensures.row,
    )

pub returns : goal.returns
returns c =
    rows_end (key_at (views_at c.args.items.now c.args.chosen.now) c.args.bytes.now c.args.outputs.now) c.args.piece.start c.loop-a.a c.args.piece.end c.loop-a.rows _
    (omega (arith, c.loop-a.invariant.0)) c.in_ok-parts.ensures c.loop-a.invariant.1
