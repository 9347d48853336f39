use Rattle.std.proofs.Common.{ap, refl, ◌∙◌, arith}
use Rattle.link_sections.specs.SizesView.{sizes_of}
use Rattle.output_sections.specs.ItemViews.{items_view}
use Rattle.layout.specs.Layout.{all_weight, bounds_of, frame_sizes, no_trail, trail_of, trail_view}
use Rattle.layout.proofs.ItemFacts.{ready_rows}
use Rattle.layout.proofs.Laying.{low_starts, none_counts, ready_is, room_of}
use Rattle.layout.proofs.SizeBounds.{all_apart}
use Rattle.layout.proofs.placing.walk_sections.Goals as goal

pub walk_all-requires-clause-ready : goal.walk_all-requires-clause-ready
walk_all-requires-clause-ready c =
    let counts = none_counts c.in_ok-walked.walked _ _ c.in_ok-walked.ensures.trail in
    ready_is (sizes_of c.args.sizes.now) _ _ _ _ c.args.o.now.rows _
    (ready_rows (sizes_of c.args.sizes.now) c.args.sections c.args.pools (items_view c.args.o.now.items.items) c.requires.there c.args.o.now.sized)
    counts.0 counts.1 c.args.o.now.ordered

pub walk_all-requires-clause-room : goal.walk_all-requires-clause-room
walk_all-requires-clause-room c =
    let room = room_of c.args.o.now.items.items c.args.o.now.few c.args.o.now.bytes in
    omega (arith, room, ap all_weight c.args.o.now.ordered)

pub returns-clause-bounds : goal.returns-clause-bounds
returns-clause-bounds c = c.in_ok-bounds.ensures.bounds ∙ ap (λ o. bounds_of (sizes_of c.args.sizes.now) o (frame_sizes c.args.frames.now)) c.args.o.now.ordered

pub returns-clause-trail : goal.returns-clause-trail
returns-clause-trail c =
    let sizes = sizes_of c.args.sizes.now in
    let parts = items_view c.args.o.now.items.items in
    c.in_ok-bounds.ensures.trail
    ∙ ap (λ l. trail_of sizes (items_view l) c.args.o.now.rows c.in_ok-bounds.bounds (trail_view c.in_ok-walked.walked)) c.deref.ensures.value
    ∙ ap (λ t. trail_of sizes parts c.args.o.now.rows c.in_ok-bounds.bounds t) c.in_ok-walked.ensures.trail
    ∙ ap (λ b. trail_of sizes parts c.args.o.now.rows b (no_trail c.args.sections c.args.pools)) c.in_ok-bounds.ensures.bounds
    ∙ ap (λ o. trail_of sizes parts o (bounds_of sizes o (frame_sizes c.args.frames.now)) (no_trail c.args.sections c.args.pools)) c.args.o.now.ordered

pub returns-clause-low : goal.returns-clause-low
returns-clause-low c =
    let sizes = sizes_of c.args.sizes.now in
    let parts = items_view c.args.o.now.items.items in
    let room = room_of c.args.o.now.items.items c.args.o.now.few c.args.o.now.bytes in
    low_starts c.walk_all.new.walked sizes parts c.args.o.now.rows (frame_sizes c.args.frames.now) c.in_ok-bounds.bounds c.args.sections c.args.pools c.args.pools
    (all_apart c.args.sizes.now.rows c.args.sizes.now.sound)
    (ready_is sizes _ _ c.args.sections c.args.pools c.args.o.now.rows _
    (ready_rows sizes c.args.sections c.args.pools parts c.requires.there c.args.o.now.sized) refl refl c.args.o.now.ordered)
    (omega (arith, room, ap all_weight c.args.o.now.ordered)) c.requires.small c.in_ok-bounds.ensures.bounds
    (c.in_ok-bounds.ensures.trail
    ∙ ap (λ l. trail_of sizes (items_view l) c.args.o.now.rows c.in_ok-bounds.bounds (trail_view c.in_ok-walked.walked)) c.deref.ensures.value ∙ ap (λ t. trail_of sizes parts c.args.o.now.rows c.in_ok-bounds.bounds t) c.in_ok-walked.ensures.trail)

pub returns-clause-count : goal.returns-clause-count
returns-clause-count c = c.in_ok-bounds.ensures.sections ∙ (none_counts c.in_ok-walked.walked _ _ c.in_ok-walked.ensures.trail).0
