use Rattle.std.proofs.Common.{◌<◌, ℕ, ◌∙◌, length, get_or, refl, subst, sym, ap, arith}
use Rattle.link_sections.specs.Edges.{ends_of}
use Rattle.lk_tables.specs.Reach.{ends_at}
use Rattle.sec_gc.specs.Visits.{Progress, Searched, progress}
use Rattle.sec_gc.proofs.Searching.{searched_one}
use Rattle.sec_gc.proofs.Visiting.{grown_all, grown_same}
use Rattle.sec_gc.proofs.alone.follow_to.Goals as goal

pub follow_next-requires-clause-waits : goal.follow_next-requires-clause-waits
follow_next-requires-clause-waits c =
    let long = c.steps.invariant.0 in
    omega (arith, c.steps-test.true, long)

pub follow_next-requires-clause-wide : goal.follow_next-requires-clause-wide
follow_next-requires-clause-wide c = c.steps.invariant.1

pub steps-preserved : goal.steps-preserved
steps-preserved c =
    let ends = ends_of c.args.edges.now in
    let before = progress c.steps.search.seen.items c.steps.search.queue.items in
    let now = progress c.follow_next.new.search.seen.items c.follow_next.new.search.queue.items in
    let is = c.in_ok-follow_next.ensures.found in
    let next = c.in_ok-follow_next.ensures.next in
    let long = c.steps.invariant.0 in
    let low : c.steps.search.next < length c.steps.search.queue.items = omega (arith, c.steps-test.true, long) in
    let grown = grown_all before before (ends_at ends (get_or c.steps.search.queue.items c.steps.search.next 0)) (grown_same before) in
    let queue = ap (λ (q : Progress). length q.queue) is in (
      omega (arith, long, grown.longer, queue),
      ap (λ (q : Progress). length q.seen) is ∙ grown.wide ∙ c.steps.invariant.1,
      λ roots held.
          let P : ℕ → Type 0 = λ n. Searched roots ends n now in
          subst P (sym next) (searched_one roots ends c.args.edges.now.within c.steps.search.next _ before now low refl (c.steps.invariant.2 roots held) is),
    )

pub steps-smaller : goal.steps-smaller
steps-smaller c = omega (arith, c.steps-test.true, c.in_ok-follow_next.ensures.next)
