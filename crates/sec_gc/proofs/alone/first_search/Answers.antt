use Rattle.std.proofs.Common.{◌≡◌, ◌∙◌, false, ap, length, replicate, rules}
use Rattle.link_sections.specs.Edges.{ends_of}
use Rattle.sec_gc.specs.Visits.{progress, all_visited}
use Rattle.sec_gc.proofs.Searching.{searched_first}
use Rattle.sec_gc.proofs.alone.first_search.Goals as goal

pub returns : goal.returns
returns c =
    let roots = c.args.roots.now in
    let ends = ends_of c.args.edges.now in
    let marks = c.in_ok-seen.seen.items in
    let fresh : marks ≡ replicate c.count.result false = search rules in
    let count : c.count.result ≡ length ends = c.count.ensures.value in
    searched_first roots ends c.requires.roots (progress c.visit_all.new.seen.items c.visit_all.new.queue.items)
    (c.in_ok-visit_all.ensures ∙ ap (λ s. all_visited (progress s c.in_ok-queue.queue.items) roots) (fresh ∙ ap (λ n. replicate n false) count)
    ∙ ap (λ q. all_visited (progress (replicate (length ends) false) q) roots) c.in_ok-queue.ensures.items)
