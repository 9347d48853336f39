use Rattle.std.proofs.Common.{◌≡◌, [], ◌∷◌, ◌++◌, ap, ◌∙◌, arith}
use Rattle.icf_part.specs.Chosen.{views_at}
use Rattle.icf_part.specs.Folding.{item_at}
use Rattle.icf_part.specs.Signatures.{places, places_from}
use Rattle.work_split.proofs.ListedRuns.{first_run, run_more}
use Rattle.icf_part.proofs.ChosenItems.{chosen_view}
use Rattle.icf_part.proofs.places.places_of.Goals as goal

pub loop-a-init : goal.loop-a-init
loop-a-init c = (omega arith, c.in_ok-rows.ensures ∙ first_run (λ a. places c.args.sections.now (item_at (views_at c.args.items.now c.args.chosen.now) a)) c.args.piece.start)

pub loop-a-preserved : goal.loop-a-preserved
loop-a-preserved c =
    let secs = c.args.sections.now in
    let low = c.loop-a.invariant.0 in
    let view = chosen_view c.args.items.now c.args.chosen.now c.loop-a.a c.index-items-chosen.result c.requires.chosen (omega (arith, c.loop-a-test.true, c.requires.within)) c.index-items-chosen.is in (
      omega (arith, low),
      run_more (λ a. places secs (item_at (views_at c.args.items.now c.args.chosen.now) a)) c.args.piece.start c.loop-a.a c.loop-a.rows c.push.new.self low c.loop-a.invariant.1
          (c.in_ok-push.ensures.ok ∙ ap (λ l. c.loop-a.rows ++ l ∷ []) (c.as_slice.ensures.value ∙ c.in_ok-put_places.ensures ∙ ap (places secs) view)),
    )

pub returns : goal.returns
returns c =
    let e : c.loop-a.a ≡ c.args.piece.end = omega (arith, c.loop-a.invariant.0) in
    c.in_ok-parts.ensures ∙ c.loop-a.invariant.1 ∙ ap (places_from c.args.sections.now (views_at c.args.items.now c.args.chosen.now) c.args.piece.start) e
