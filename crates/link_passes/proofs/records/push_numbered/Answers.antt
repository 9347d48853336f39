use Rattle.std.proofs.Common.{◌++◌, map, ap, ◌∙◌, arith}
use Rattle.std.specs.Vec.Iter.{into_iter_items}
use Rattle.lk_tables.specs.Files.{file_at}
use Rattle.lk_tables.specs.Frames.{list_views}
use Rattle.lk_tables.specs.TablesView.{files_of}
use Rattle.work_split.proofs.Sharing.{taken_all, taken_more}
use Rattle.link_passes.specs.Frames.{numbered}
use Rattle.link_passes.proofs.NumberedRecords.{listed_here, numbered_more}
use Rattle.link_passes.proofs.records.push_numbered.Goals as goal

pub number_of-requires-clause-live : goal.number_of-requires-clause-live
number_of-requires-clause-live c =
    (listed_here (file_at (files_of c.args.tables.now) c.args.file) c.args.records.items c.loop-list.yielded (into_iter_items c.loop-list.list-iterator)
    (into_iter_items c.next.new.self) c.in-Some.list c.requires.records c.loop-list.invariant.2 c.in-Some.ensures.steps.0).live

pub number_of-requires-clause-index : goal.number_of-requires-clause-index
number_of-requires-clause-index c =
    (listed_here (file_at (files_of c.args.tables.now) c.args.file) c.args.records.items c.loop-list.yielded (into_iter_items c.loop-list.list-iterator)
    (into_iter_items c.next.new.self) c.in-Some.list c.requires.records c.loop-list.invariant.2 c.in-Some.ensures.steps.0).index

pub loop-list-preserved : goal.loop-list-preserved
loop-list-preserved c =
    let before = c.loop-list.invariant in
    let items = into_iter_items c.loop-list.list-iterator in
    let rest = into_iter_items c.next.new.self in (
      tt,
      tt,
      taken_more c.loop-list.yielded items rest c.args.records.items c.in-Some.list before.2 c.in-Some.ensures.steps.0,
      numbered_more (files_of c.args.tables.now) c.args.file (list_views c.args.lists.now.items) c.loop-list.yielded c.loop-list.lists.items c.push.new.self.items c.in-Some.list
          c.number_of.result before.3 c.in_ok-push.ensures.items c.number_of.ensures,
    )

pub returns : goal.returns
returns c =
    let before = c.loop-list.invariant in
    let items = into_iter_items c.loop-list.list-iterator in
    let none = c.in-None.ensures.steps.0 in
    let counts = c.loop-list.list-iterator.rest.ok.0 in
    before.3 ∙ ap (λ l. list_views c.args.lists.now.items ++ map (numbered (files_of c.args.tables.now) c.args.file) (list_views l))
    (taken_all c.loop-list.yielded items c.args.records.items before.2 (omega arith))
