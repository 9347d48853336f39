use Rattle.std.proofs.Common.{ℕ, ◌<◌, List, [], Option, map, replicate, ap, sym, ◌∙◌, subst, arith}
use Rattle.std.specs.Global.{Vec}
use Rattle.std.specs.List.{All}
use Rattle.lk_tables.specs.BindingView.{binding_view}
use Rattle.lk_tables.specs.Files.{section_total}
use Rattle.lk_tables.specs.Frames.{RecordList, list_views}
use Rattle.lk_tables.specs.TablesView.{files_of}
use Rattle.lk_tables.specs.declared.records.FrameNo.{FrameNo}
use Rattle.lk_tables.specs.declared.records.Record.{Record}
use Rattle.eh_frame.proofs.Owning.{all_after, all_lists_are, few_records, owners_read, step_lists}
use Rattle.eh_frame.proofs.owners.table.Goals as goal

pub loop-number-init : goal.loop-number-init
loop-number-init g c =
    ap (all_after (files_of c.args.tables.now) (binding_view c.args.binding.now) (list_views c.as_slice-lists.result.now))
    (c.in_ok-of.ensures ∙ ap (λ n. replicate n []) c.section_count.ensures)

pub find_owners-requires-clause-sections : goal.find_owners-requires-clause-sections
find_owners-requires-clause-sections g c = λ κs bound.
    let P : List (ℕ × Vec Record) → Type 0 = λ ls. All (λ (l : RecordList). l.section < section_total (files_of c.args.tables.now)) (list_views ls) in
    subst P (sym c.as_slice-lists.ensures.value) c.requires.sections

pub push_list-requires-clause-owners : goal.push_list-requires-clause-owners
push_list-requires-clause-owners g c =
    owners_read (files_of c.args.tables.now) (binding_view c.args.binding.now) c.as_slice-lists.result.now (map (λ (list : Vec (Option ℕ)). list.items) c.as_slice-owners.result.now)
    c.loop-number.number _ _ c.owners_at.result.now (omega arith) c.index-lists-number.is
    (ap (λ (ls : List (Vec (Option ℕ))). map (λ (list : Vec (Option ℕ)). list.items) ls) c.as_slice-owners.ensures.value ∙ c.in_ok-found.ensures)
    c.owners_at.ensures

pub push_list-requires-clause-few : goal.push_list-requires-clause-few
push_list-requires-clause-few g c =
    few_records c.args.records.items c.as_slice-lists.result.now c.loop-number.number _ _ c.as_slice-lists.ensures.value (omega arith) c.requires.few c.index-lists-number.is

pub loop-number-preserved : goal.loop-number-preserved
loop-number-preserved g c =
    step_lists (files_of c.args.tables.now) (binding_view c.args.binding.now) c.as_slice-lists.result.now c.loop-number.number _ _
    (map (λ (list : Vec FrameNo). list.items) c.loop-number.of.items) (map (λ (list : Vec FrameNo). list.items) c.push_list.new.of.items)
    (all_after (files_of c.args.tables.now) (binding_view c.args.binding.now) (list_views c.as_slice-lists.result.now) (replicate (section_total (files_of c.args.tables.now)) []))
    (omega arith) c.index-lists-number.is c.in_ok-push_list.ensures c.loop-number.invariant

pub returns-clause-of : goal.returns-clause-of
returns-clause-of g c =
    all_lists_are (files_of c.args.tables.now) (binding_view c.args.binding.now) c.args.records.items c.as_slice-lists.result.now c.loop-number.number
    (map (λ (list : Vec FrameNo). list.items) c.loop-number.of.items) c.as_slice-lists.ensures.value (omega arith) c.loop-number.invariant
