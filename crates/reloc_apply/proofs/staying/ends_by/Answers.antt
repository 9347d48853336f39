use Rattle.std.proofs.Common.{ℕ, ◌<◌, length, get_or, leb-true, ap, arith, rules}
use Rattle.std.proofs.lemmas.List.{get_or_default, length-map}
use Rattle.link_sections.specs.declared.cuts.Cut.{Cut as HeldCut}
use Rattle.link_sections.specs.CutsView.{cut_view}
use Rattle.reloc_apply.specs.Sites.{no_held}
use Rattle.reloc_apply.specs.Staying.{no_cut}
use Rattle.reloc_apply.proofs.CutViews.{cut_is}
use Rattle.reloc_apply.proofs.staying.ends_by.Goals as goal

pub returns-in-Some-clause-whole : goal.returns-in-Some-clause-whole
returns-in-Some-clause-whole c = λ told.
    let cuts = c.args.cuts.now in
    let k = c.args.k in
    let lt : k < length cuts = search rules in
    let end = leb-true c.args.end c.in-Some.cut.now.at told in
    let own = ap (λ (x : HeldCut). x.at) (c.in-Some.ensures.lookup.1) in
    let same = ap (λ (x : HeldCut). x.at) (get_or_default cuts k c.in-Some.cut.now no_held lt) in
    let at = (cut_is cuts k c.requires.cuts lt).at in
    let lies = c.requires.within k no_cut (omega (arith, lt, length-map cuts cut_view)) in
    omega (arith, end, own, same, at, lies)
