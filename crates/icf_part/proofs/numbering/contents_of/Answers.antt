use Rattle.std.proofs.Common.{◌∷◌, [], ℕ, List, map, get_or, ap, ◌∙◌, arith}
use Rattle.std.specs.Borrow.{Bor}
use Rattle.std.proofs.lemmas.List.{map-append}
use Rattle.lk_base.proofs.Loops.{mapped_at}
use Rattle.link_sections.specs.declared.fold_items.FoldItem.{FoldItem as LentItem}
use Rattle.name_numbers.specs.Texts.{lent_texts}
use Rattle.icf_part.specs.Signatures.{bytes_of}
use Rattle.icf_part.proofs.Collected.{mapped_views}
use Rattle.icf_part.proofs.numbering.contents_of.Goals as goal

pub loop-a-preserved : goal.loop-a-preserved
loop-a-preserved c =
    let lent : Bor (List ℕ) → List ℕ = λ t. t.now in
    let x = get_or c.args.items.now c.loop-a.a c.index-items-a.result in
    mapped_at (λ (i : LentItem). i.bytes.now) c.args.items.now c.loop-a.a c.index-items-a.result (lent_texts c.loop-a.texts.items) (lent_texts c.push.new.self.items)
    c.loop-a-test.true c.loop-a.invariant (ap (map lent) c.in_ok-push.ensures.items ∙ map-append lent c.loop-a.texts.items (x.bytes ∷ []))

pub returns : goal.returns
returns c = mapped_views bytes_of c.args.items.now c.loop-a.a _ (omega arith) c.loop-a.invariant
