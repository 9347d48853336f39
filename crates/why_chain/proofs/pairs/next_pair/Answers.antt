use Rattle.std.proofs.Common.{◌≡◌, ◌∙◌, length, sym, ap, ap₂}
use Rattle.std.proofs.lemmas.List.{length-map}
use Rattle.link_sections.specs.FoldItems.{FoldItem, item_view, item_views, sections_of}
use Rattle.icf_part.specs.Folding.{target_at}
use Rattle.why_chain.specs.Aparts.{items_of, next_pair}
use Rattle.why_chain.proofs.Pairing.{next_within}
use Rattle.why_chain.proofs.Placing.{view_at}
use Rattle.why_chain.proofs.pairs.next_pair.Goals as goal
use Rattle.why_chain.proofs.pairs.next_pair.Goals.{After-items_of}

is_next : (c : After-items_of) → c.items_of.result ≡ next_pair (item_views c.args.items.now) c.args.pair c.args.k
is_next c =
    let items = c.args.items.now in
    let k = c.args.k in
    let one = view_at items c.args.pair.one c.index-items-pair.result c.requires.one c.index-items-pair.is in
    let two = view_at items c.args.pair.two c.index-items-pair-2.result c.requires.two c.index-items-pair-2.is in
    c.items_of.ensures ∙ ap₂ (items_of (sections_of (item_views items)))
    (c.target_of.ensures ∙ ap (λ (i : FoldItem). target_at i k) (sym one)) (c.target_of-2.ensures ∙ ap (λ (i : FoldItem). target_at i k) (sym two))

pub returns-clause-pair : goal.returns-clause-pair
returns-clause-pair c = is_next (goal.at.returns-clause-pair c).After-items_of

pub returns-clause-within : goal.returns-clause-within
returns-clause-within c =
    next_within (item_views c.args.items.now) c.args.pair c.args.k (length c.args.items.now) (length-map c.args.items.now item_view) c.items_of.result
    (is_next (goal.at.returns-clause-within c).After-items_of)
