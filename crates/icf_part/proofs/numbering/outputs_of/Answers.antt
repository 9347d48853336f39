use Rattle.std.proofs.Common.{◌++◌, ◌∷◌, [], ℕ, List, map, get_or, ap, ◌∙◌, arith}
use Rattle.std.specs.Borrow.{Bor}
use Rattle.std.proofs.lemmas.List.{map-append}
use Rattle.lk_base.proofs.Loops.{mapped_at}
use Rattle.link_sections.specs.FoldItems.{FoldItem, item_views}
use Rattle.name_numbers.specs.Texts.{lent_texts}
use Rattle.icf_part.specs.Folding.{item_at}
use Rattle.icf_part.specs.Signatures.{output_of}
use Rattle.icf_part.proofs.ChosenItems.{chosen_all}
use Rattle.icf_part.proofs.PartSteps.{viewed_there}
use Rattle.icf_part.proofs.numbering.outputs_of.Goals as goal

pub loop-k-preserved : goal.loop-k-preserved
loop-k-preserved c =
    let lent : Bor (List ℕ) → List ℕ = λ t. t.now in
    let a = get_or c.args.chosen.now c.loop-k.k 0 in
    let view = viewed_there c.args.items.now a c.index-items-chosen.result (c.requires c.loop-k.k 0 c.loop-k-test.true) in
    let x = get_or c.args.items.now a c.index-items-chosen.result in
    mapped_at (λ b. output_of (item_at (item_views c.args.items.now) b)) c.args.chosen.now c.loop-k.k 0 (lent_texts c.loop-k.texts.items) (lent_texts c.push.new.self.items)
    c.loop-k-test.true c.loop-k.invariant
    (ap (map lent) c.in_ok-push.ensures.items ∙ map-append lent c.loop-k.texts.items (x.output ∷ []) ∙ ap (λ (i : FoldItem). lent_texts c.loop-k.texts.items ++ i.output ∷ []) view)

pub returns : goal.returns
returns c = chosen_all output_of c.args.items.now c.args.chosen.now c.loop-k.k _ (omega arith) c.loop-k.invariant
