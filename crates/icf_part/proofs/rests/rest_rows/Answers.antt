use Rattle.std.proofs.Common.{◌≡◌, ℕ, List, [], length, ◌∙◌, ap, subst, sym, get_or, arith}
use Rattle.link_sections.specs.FoldItems.{FoldItem, item_view, sections_of}
use Rattle.icf_part.specs.Chosen.{views_at}
use Rattle.icf_part.specs.Signatures.{AreRowsFrom, rest_at, rest_words}
use Rattle.icf_part.proofs.ChosenItems.{chosen_view}
use Rattle.icf_part.proofs.PartSteps.{rows_first, rows_more, rows_end}
use Rattle.icf_part.proofs.rests.rest_rows.Goals as goal

pub loop-a-init : goal.loop-a-init
loop-a-init c =
    let words = rest_at (views_at c.args.items.now c.args.chosen.now) c.args.keys.now c.args.ends.now in
    let P : List (List ℕ) → Type 0 = AreRowsFrom words c.args.piece.start c.args.piece.start in
    (omega arith, subst P (sym c.in_ok-rows.ensures) (rows_first words c.args.piece.start))

pub loop-a-preserved : goal.loop-a-preserved
loop-a-preserved c =
    let words = rest_at (views_at c.args.items.now c.args.chosen.now) c.args.keys.now c.args.ends.now in
    let secs : (sections : List ℕ) → sections ≡ sections_of (views_at c.args.items.now c.args.chosen.now) → (x y : ℕ) (i : FoldItem) → rest_words sections x y i ≡ rest_words (sections_of (views_at c.args.items.now c.args.chosen.now)) x y i =
    λ sections is x y i. ap (λ s. rest_words s x y i) is in
    let low = c.loop-a.invariant.0 in
    let view = chosen_view c.args.items.now c.args.chosen.now c.loop-a.a c.index-items-chosen.result c.requires.chosen (omega (arith, c.loop-a-test.true, c.requires.within)) c.index-items-chosen.is in
    let x = get_or c.args.keys.now c.loop-a.a 0 in
    let y = length (get_or c.args.ends.now c.loop-a.a []) in
    let count = ap (λ (l : List ℕ). rest_words c.args.sections.now x (length l) (item_view c.index-items-chosen.result)) c.row.ensures in (
      omega (arith, low),
      rows_more words c.args.piece.start c.loop-a.a c.loop-a.rows c.push_row.new.rows c.as_slice.result.now low c.loop-a.invariant.1
          (c.as_slice.ensures.value ∙ c.in_ok-put_rest.ensures ∙ count ∙ secs c.args.sections.now c.requires.sections x y (item_view c.index-items-chosen.result)
          ∙ ap (rest_words (sections_of (views_at c.args.items.now c.args.chosen.now)) x y) view)
          c.in_ok-push_row.ensures.fit c.in_ok-push_row.ensures.row,
    )

pub returns : goal.returns
returns c =
    rows_end (rest_at (views_at c.args.items.now c.args.chosen.now) c.args.keys.now c.args.ends.now) c.args.piece.start c.loop-a.a c.args.piece.end c.loop-a.rows _
    (omega (arith, c.loop-a.invariant.0)) c.in_ok-parts.ensures c.loop-a.invariant.1
