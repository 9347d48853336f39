use Rattle.std.proofs.Common.{◌≡◌, ◌++◌, ℕ, flat_map, length, map, ap, ◌∙◌, arith}
use Rattle.std.specs.List.{range_with_len}
use Rattle.std.specs.Vec.Iter.{into_iter_items}
use Rattle.std.proofs.lemmas.List.{length_push}
use Rattle.lk_base.proofs.Loops.{flat_step}
use Rattle.work_split.proofs.Sharing.{taken_more}
use Rattle.lk_tables.specs.Frames.{all_lists, list_at, list_views}
use Rattle.lk_tables.specs.TablesView.{files_of}
use Rattle.lk_tables.specs.Walks.{over_file, over_live}
use Rattle.lk_tables.proofs.Putting.{given_all}
use Rattle.link_passes.specs.Frames.{numbered}
use Rattle.link_passes.proofs.EachBody.{numbered_lists}
use Rattle.link_passes.proofs.NumberedRecords.{count_is, file_within, lists_here}
use Rattle.link_passes.proofs.records.number_records.Goals as goal

pub push_numbered-requires-clause-file : goal.push_numbered-requires-clause-file
push_numbered-requires-clause-file c =
    let before = c.loop-list.invariant in
    file_within (files_of c.args.tables.now) c.args.records.items c.requires c.loop-list.yielded (into_iter_items c.loop-list.list-iterator) (into_iter_items c.next.new.self)
    c.in-Some.list before.2 c.in-Some.ensures.steps.0 c.loop-list.file before.3

pub push_numbered-requires-clause-records : goal.push_numbered-requires-clause-records
push_numbered-requires-clause-records c =
    let before = c.loop-list.invariant in
    lists_here (files_of c.args.tables.now) c.args.records.items c.requires c.loop-list.yielded (into_iter_items c.loop-list.list-iterator) (into_iter_items c.next.new.self)
    c.in-Some.list before.2 c.in-Some.ensures.steps.0 c.loop-list.file before.3

pub loop-list-preserved : goal.loop-list-preserved
loop-list-preserved c =
    let files = files_of c.args.tables.now in
    let before = c.loop-list.invariant in
    let items = into_iter_items c.loop-list.list-iterator in
    let rest = into_iter_items c.next.new.self in
    let next = c.in-Some.ensures.steps.0 in
    let f : ℕ = c.loop-list.file in
    let here = lists_here files c.args.records.items c.requires c.loop-list.yielded items rest c.in-Some.list before.2 next f before.3 in
    let old = list_views c.loop-list.lists.items in (
      tt,
      tt,
      taken_more c.loop-list.yielded items rest c.args.records.items c.in-Some.list before.2 next,
      omega (arith, before.3, length_push c.loop-list.yielded c.in-Some.list),
      flat_step (over_file files (list_at files)) f old (list_views c.push_numbered.new.lists.items) before.4
          (c.in_ok-push_numbered.ensures ∙ ap (λ l. old ++ l) (ap (map (numbered files f)) here ∙ numbered_lists files f)),
    )

pub returns : goal.returns
unfolding all_lists over_live
returns c =
    let files = files_of c.args.tables.now in
    let before = c.loop-list.invariant in
    let none = c.in-None.ensures.steps.0 in
    let counts = c.loop-list.list-iterator.rest.ok.0 in
    let all : c.loop-list.file ≡ length files =
    omega (arith, before.3, given_all c.loop-list.yielded (into_iter_items c.loop-list.list-iterator) c.args.records.items before.2 (omega arith), count_is files c.args.records.items c.requires) in
    before.4 ∙ ap (λ k. flat_map (over_file files (list_at files)) (range_with_len 0 k)) all
