use Rattle.std.proofs.Common.{◌≡◌, ◌+◌, ◌<◌, false, length, replicate, get_or, sym, ap, ◌∙◌, subst, arith, rules}
use Rattle.std.proofs.lemmas.List.{length-map, length-replicate, get_or_default}
use Rattle.lk_tables.specs.FileView.{file_view, file_views}
use Rattle.lk_tables.specs.Reach.{ends_at}
use Rattle.file_live.specs.Pulls.{asked_members, commands, ends, first_files, lists_of, pulled_in}
use Rattle.file_live.specs.Visits.{Reached, reached, all_visited}
use Rattle.file_live.proofs.Searching.{Searched, searched_start, searched_more, searched_all, queue_within, visited_append, length_all_visited}
use Rattle.file_live.proofs.Pulling.{length_ends, ends_read}
use Rattle.file_live.proofs.TakePart.{ends_within, first_within}
use Rattle.file_live.proofs.search.reach.Goals as goal

pub loop-next-init : goal.loop-next-init
loop-next-init c =
    let lent = c.args.files.now in
    let files = file_views lent in
    let undefined = lists_of c.args.undefined.now in
    let fresh : c.in_ok-seen.seen.items ≡ replicate (length lent) false = search rules in
    let start = reached c.in_ok-seen.seen.items c.in_ok-queue.queue.items in
    let few : length files < 16777216 = omega (arith, c.requires.files, length-map lent file_view) in
    searched_start (first_files undefined files) (ends files) (length lent) c.in_ok-seen.seen.items c.in_ok-queue.queue.items
    (reached c.visit_asked.new.seen.items c.visit_asked.new.queue.items)
    (omega (arith, length_ends files, length-map lent file_view)) (first_within undefined files few c.requires.symbols (length lent) (sym (length-map lent file_view))) fresh
    c.in_ok-queue.ensures.items
    (c.in_ok-visit_asked.ensures ∙ ap (λ r. all_visited r (asked_members undefined files)) c.in_ok-visit_commands.ensures
    ∙ sym (visited_append start (commands files) (asked_members undefined files)))

pub visit_pulled-requires-clause-file : goal.visit_pulled-requires-clause-file
visit_pulled-requires-clause-file c =
    let lent = c.args.files.now in
    let files = file_views lent in
    let undefined = lists_of c.args.undefined.now in
    let queue = c.loop-next.queue.items in
    let ok = c.loop-next.queue.ok in
    let test = c.loop-next-test.true in
    let len = c.len.ensures in
    let lt : c.loop-next.next < length queue = omega arith in
    let low = queue_within (first_files undefined files) (ends files) c.loop-next.next (reached c.loop-next.seen.items queue) lt c.loop-next.invariant in
    let at = c.index.ensures ∙ get_or_default queue c.loop-next.next c.index.result.now 0 lt in
    omega (arith, length_ends files, length-map lent file_view)

pub visit_pulled-requires-clause-wide : goal.visit_pulled-requires-clause-wide
visit_pulled-requires-clause-wide c =
    let wide = c.loop-next.invariant.tied.wide in
    omega (arith, length_ends (file_views c.args.files.now), length-map c.args.files.now file_view)

pub loop-next-smaller : goal.loop-next-smaller
loop-next-smaller c =
    let ok = c.loop-next.queue.ok in
    let test = c.loop-next-test.true in
    let len = c.len.ensures in
    let counted = c.loop-next.invariant.tied.counted in
    omega (arith, length_ends (file_views c.args.files.now), length-map c.args.files.now file_view)

pub loop-next-preserved : goal.loop-next-preserved
loop-next-preserved c =
    let lent = c.args.files.now in
    let files = file_views lent in
    let undefined = lists_of c.args.undefined.now in
    let queue = c.loop-next.queue.items in
    let seen = c.loop-next.seen.items in
    let next = c.loop-next.next in
    let ok = c.loop-next.queue.ok in
    let test = c.loop-next-test.true in
    let len = c.len.ensures in
    let lt : next < length queue = omega arith in
    let low = queue_within (first_files undefined files) (ends files) next (reached seen queue) lt c.loop-next.invariant in
    let at : c.index.result.now ≡ get_or queue next 0 = c.index.ensures ∙ get_or_default queue next c.index.result.now 0 lt in
    let within : c.index.result.now < length files = omega (arith, length_ends files) in
    let pulls : pulled_in files c.index.result.now ≡ ends_at (ends files) (get_or queue next 0) = sym (ends_read files c.index.result.now within) ∙ ap (ends_at (ends files)) at in
    let few : length files < 16777216 = omega (arith, c.requires.files, length-map lent file_view) in
    let P : Reached → Type 0 = Searched (first_files undefined files) (ends files) (next + 1) in
    subst P (sym (c.in_ok-visit_pulled.ensures ∙ ap (all_visited (reached seen queue)) pulls))
    (searched_more (first_files undefined files) (ends files) next (reached seen queue) lt (ends_within files few c.requires.symbols) c.loop-next.invariant)

pub returns : goal.returns
returns c =
    let files = file_views c.args.files.now in
    let undefined = lists_of c.args.undefined.now in
    let ok = c.loop-next.queue.ok in
    let test = c.loop-next-test.false in
    let len = c.len.ensures in
    searched_all (first_files undefined files) (ends files) c.loop-next.next (reached c.loop-next.seen.items c.loop-next.queue.items) (omega arith) c.loop-next.invariant

pub visit_asked-requires-clause-wide : goal.visit_asked-requires-clause-wide
visit_asked-requires-clause-wide c =
    let lent = c.args.files.now in
    let fresh : c.in_ok-seen.seen.items ≡ replicate (length lent) false = search rules in
    ap (λ (r : Reached). length r.seen) c.in_ok-visit_commands.ensures
    ∙ length_all_visited (reached c.in_ok-seen.seen.items c.in_ok-queue.queue.items) (commands (file_views lent))
    ∙ ap length fresh ∙ length-replicate (length lent) false
