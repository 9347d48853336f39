use Rattle.std.proofs.Common.{◌++◌, ap, sym, ◌∙◌}
use Rattle.std.proofs.lemmas.List.{append-nil}
use Rattle.link_sections.specs.CutsView.{cut_views}
use Rattle.relax.specs.CallSizes.{size_in}
use Rattle.relax.specs.Placing.{added}
use Rattle.relax.proofs.Fitting.{adds_none}
use Rattle.relax.proofs.keeping.keep.Goals as goal

pub returns-then-not-moves_bytes-clause-views : goal.returns-then-not-moves_bytes-clause-views
returns-then-not-moves_bytes-clause-views c =
    let old = cut_views c.args.cuts.now.items in
    let still = sym c.moves_bytes.ensures ∙ c.if-not-moves_bytes.true in
    let none = adds_none (size_in c.args.calls.now c.args.sizes.now c.args.member c.args.k) c.args.reloc.now still in
    sym (ap (λ l. old ++ l) none ∙ append-nil old)

pub returns-clause-views : goal.returns-clause-views
returns-clause-views c = c.in_ok-after.ensures.views ∙ ap (λ s. cut_views c.args.cuts.now.items ++ added s c.args.reloc.now) c.size_in-size.ensures
