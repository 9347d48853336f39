use Rattle.std.proofs.Common.{refl, rules}
use Rattle.link_sections.specs.SizesView.{sizes_of}
use Rattle.output_sections.specs.ItemViews.{items_view}
use Rattle.layout.specs.Layout.{frame_sizes, trail_view}
use Rattle.layout.proofs.Chain.{bounds_is}
use Rattle.layout.proofs.Trails.{trail_is}
use Rattle.layout.proofs.placing.walk_all.Goals as goal

pub returns-clause-bounds : goal.returns-clause-bounds
returns-clause-bounds c = bounds_is (sizes_of c.args.from.now.sizes.now) c.args.o.now.rows (frame_sizes c.args.frames.now) _ (search rules)

pub returns-clause-trail : goal.returns-clause-trail
returns-clause-trail c =
    trail_is (sizes_of c.args.from.now.sizes.now) (items_view c.args.from.now.items.now) c.args.o.now.rows _ c.frame_bounds-last.result (trail_view c.args.walked.now)
    (trail_view c.walk_bits.new.walked) (trail_view c.walk_frames.new.walked) (trail_view c.walk_bits-2.new.walked) (trail_view c.walk_bits-3.new.walked)
    (trail_view c.walk_nobits.new.walked) (trail_view c.walk_bits-4.new.walked) (trail_view c.walk_nobits-2.new.walked)
    (record { has = refl; header = refl; header_end = refl; frames = refl; frames_end = refl; r_end = refl })
    (search rules) c.in_ok-walk_frames.ensures.trail (search rules) (search rules) (search rules) (search rules) (search rules)
