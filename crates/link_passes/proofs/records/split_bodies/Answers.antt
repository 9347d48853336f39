use Rattle.std.proofs.Common.{map, ap, ◌∙◌, arith}
use Rattle.std.specs.Vec.Iter.{into_iter_items}
use Rattle.work_split.proofs.Sharing.{taken_all, taken_more}
use Rattle.link_passes.specs.Reading.{object_in, records_in}
use Rattle.link_passes.proofs.NumberedRecords.{mapped_more, view}
use Rattle.link_passes.proofs.records.split_bodies.Goals as goal

pub loop-body-preserved : goal.loop-body-preserved
loop-body-preserved c =
    let before = c.loop-body.invariant in
    let items = into_iter_items c.loop-body.body-iterator in
    let rest = into_iter_items c.next.new.self in
    let next = c.in-Some.ensures.steps.0 in (
      tt,
      tt,
      taken_more c.loop-body.yielded items rest c.args.bodies.items c.in-Some.body before.2 next,
      mapped_more object_in c.loop-body.objects.items c.push_body.new.objects.items c.loop-body.yielded c.in-Some.body before.3 c.in_ok-push_body.ensures.objects,
      mapped_more records_in (map view c.loop-body.records.items) (map view c.push_body.new.records.items) c.loop-body.yielded c.in-Some.body before.4 c.in_ok-push_body.ensures.records,
    )

pub returns-clause-objects : goal.returns-clause-objects
returns-clause-objects c =
    let before = c.loop-body.invariant in
    let items = into_iter_items c.loop-body.body-iterator in
    let none = c.in-None.ensures.steps.0 in
    let counts = c.loop-body.body-iterator.rest.ok.0 in
    before.3 ∙ ap (map object_in) (taken_all c.loop-body.yielded items c.args.bodies.items before.2 (omega arith))

pub returns-clause-records : goal.returns-clause-records
returns-clause-records c =
    let before = c.loop-body.invariant in
    let items = into_iter_items c.loop-body.body-iterator in
    let none = c.in-None.ensures.steps.0 in
    let counts = c.loop-body.body-iterator.rest.ok.0 in
    before.4 ∙ ap (map records_in) (taken_all c.loop-body.yielded items c.args.bodies.items before.2 (omega arith))
