use Rattle.std.proofs.Common.{◌++◌, ◌∷◌, [], ap, ◌∙◌, get_or, arith}
use Rattle.lk_base.proofs.Loops.{mapped_at}
use Rattle.link_sections.specs.FoldItems.{FoldItem, item_views, section_of, sections_of}
use Rattle.icf_part.specs.Folding.{item_at}
use Rattle.icf_part.proofs.ChosenItems.{chosen_all}
use Rattle.icf_part.proofs.PartSteps.{viewed_there}
use Rattle.icf_part.proofs.places.sections_of.Goals as goal

pub loop-k-preserved : goal.loop-k-preserved
loop-k-preserved c =
    let view = viewed_there c.args.items.now (get_or c.args.chosen.now c.loop-k.k 0) c.index-items-chosen.result (c.requires c.loop-k.k 0 c.loop-k-test.true) in
    mapped_at (λ a. section_of (item_at (item_views c.args.items.now) a)) c.args.chosen.now c.loop-k.k 0 c.loop-k.sections.items c.push.new.self.items
    c.loop-k-test.true c.loop-k.invariant (c.in_ok-push.ensures.items ∙ ap (λ (i : FoldItem). c.loop-k.sections.items ++ i.section ∷ []) view)

pub returns : goal.returns
unfolding sections_of
returns c = chosen_all section_of c.args.items.now c.args.chosen.now c.loop-k.k c.loop-k.sections.items (omega arith) c.loop-k.invariant
