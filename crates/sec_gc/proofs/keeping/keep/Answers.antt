use Rattle.std.proofs.Common.{◌<◌, ◌≤◌, ℕ, All, IfOk, List, length, sym, subst, arith}
use Rattle.link_sections.specs.Edges.{ends_of}
use Rattle.lk_tables.specs.Reach.{IsReach}
use Rattle.sec_gc.specs.Visits.{progress}
use Rattle.sec_gc.proofs.Reached.{kept_is, reach_from}
use Rattle.sec_gc.proofs.Searching.{queue_within, searched_all, searched_is}
use Rattle.sec_gc.proofs.keeping.keep.Goals as goal

pub keep_shared-requires-clause-list : goal.keep_shared-requires-clause-list
keep_shared-requires-clause-list g c κs within =
    let ends = ends_of c.args.edges.now in
    let found = c.in_ok-found.found in
    let P : List ℕ → Type 0 = All (λ r. r < length ends) in
    subst P (sym c.as_slice.ensures.value) (queue_within c.args.roots.now ends found.next (progress found.seen.items found.queue.items) c.in_ok-found.ensures)

pub returns-then-len-found-clause-reach : goal.returns-then-len-found-clause-reach
returns-then-len-found-clause-reach g c =
    let found = c.in_ok-found.found in
    let past : length found.queue.items ≤ found.next = omega (arith, c.if-len-found.true, c.len.ensures, found.queue.ok.0) in
    searched_all c.args.roots.now (ends_of c.args.edges.now) found.next (progress found.seen.items found.queue.items) past c.in_ok-found.ensures

pub returns-then-len-found-clause-kept : goal.returns-then-len-found-clause-kept
returns-then-len-found-clause-kept g c =
    let found = c.in_ok-found.found in
    let past : length found.queue.items ≤ found.next = omega (arith, c.if-len-found.true, c.len.ensures, found.queue.ok.0) in
    searched_is c.args.roots.now (ends_of c.args.edges.now) found.next (progress found.seen.items found.queue.items) past c.in_ok-found.ensures

pub returns : goal.returns
returns g c =
    let roots = c.args.roots.now in
    let ends = ends_of c.args.edges.now in
    let found = c.in_ok-found.found in
    let result = c.keep_shared.result in
    let P : List ℕ → Type 0 = λ l. IfOk result (λ on. IsReach l ends on.items) in
    let reach = reach_from roots ends result found.next (progress found.seen.items found.queue.items) c.in_ok-found.ensures (subst P c.as_slice.ensures.value c.keep_shared.ensures) in record {
      reach = reach;
      kept = kept_is roots ends result c.requires.roots c.args.edges.now.within reach;
    }
