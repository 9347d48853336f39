use Rattle.std.proofs.Common.{◌≡◌, ◌-◌, ◌<◌, ◌∙◌, Some, List, sym, ap, subst, arith, inl, inr}
use Rattle.std.specs.List.Sorted.{IsNonDecreasingBy}
use Rattle.std.proofs.lemmas.Bool.{cases_lt}
use Rattle.lk_tables.specs.declared.records.Record.{Record}
use Rattle.lk_tables.specs.declared.section_places.SectionPlace.{SectionPlace}
use Rattle.lk_tables.specs.BindingView.{binding_view}
use Rattle.lk_tables.specs.Frames.{IsListWithin, RecordList, all_lists, list_view, lists_of}
use Rattle.lk_tables.specs.RecordViews.{record_views}
use Rattle.lk_tables.specs.Sites.{place_of}
use Rattle.lk_tables.specs.TablesView.{files_of}
use Rattle.sec_graph.specs.FrameRelocs.{list_in}
use Rattle.sec_graph.specs.Needs.{IsCountUpto, needs}
use Rattle.sec_graph.proofs.FoundRecords.{found_list}
use Rattle.sec_graph.proofs.Needing.{held_rising, listed_apart, needed_at, needed_gone, needed_none, needed_past}
use Rattle.sec_graph.proofs.needed_frames.is_needed.Goals as goal

pub list_of-requires : goal.list_of-requires
list_of-requires c = c.requires.within.order

pub count_upto-count-requires : goal.count_upto-count-requires
count_upto-count-requires c =
    let files = files_of c.args.tables.now in
    let b = binding_view c.args.binding.now in
    let l = list_view c.in-Some.list.now in
    let n = c.args.section in
    let is : list_in (all_lists files) n ≡ Some l = ap (λ (ls : List RecordList). list_in ls n) (sym c.requires.lists) ∙ sym c.in-Some.ensures in
    let P : List Record → Type 0 = λ xs. IsNonDecreasingBy (λ (r : Record). r.from) xs in
    subst P (sym c.as_slice-records.ensures.value) (held_rising c.in-Some.list.now.1.items (listed_apart files b c.args.kept.now l c.args.reloc.now n is))

pub place_of-file-requires : goal.place_of-file-requires
place_of-file-requires c =
    let files = files_of c.args.tables.now in
    let l = list_view c.in-Some.list.now in
    let below = (found_list (IsListWithin files) (lists_of c.args.frames.now) c.args.section l c.requires.within.within (sym c.in-Some.ensures)).has.section in
    omega (arith, below)

pub returns-in_default : goal.returns-in_default
returns-in_default c =
    let files = files_of c.args.tables.now in
    let n = c.args.section in
    sym (needed_past files (binding_view c.args.binding.now) c.args.kept.now n c.args.reloc.now (ap (λ (ls : List RecordList). list_in ls n) (sym c.requires.lists) ∙ sym c.in_default.ensures))

pub returns-then-is_discarded : goal.returns-then-is_discarded
returns-then-is_discarded c =
    let files = files_of c.args.tables.now in
    let b = binding_view c.args.binding.now in
    let l = list_view c.in-Some.list.now in
    let n = c.args.section in
    let is : list_in (all_lists files) n ≡ Some l = ap (λ (ls : List RecordList). list_in ls n) (sym c.requires.lists) ∙ sym c.in-Some.ensures in
    sym (needed_gone files b c.args.kept.now l c.args.reloc.now n is (sym c.is_discarded.ensures ∙ c.if-is_discarded.true))

pub returns-then-count-eq0 : goal.returns-then-count-eq0
returns-then-count-eq0 c =
    let files = files_of c.args.tables.now in
    let b = binding_view c.args.binding.now in
    let l = list_view c.in-Some.list.now in
    let n = c.args.section in
    let r = c.args.reloc.now in
    let count = c.count_upto-count.result in
    let is : list_in (all_lists files) n ≡ Some l = ap (λ (ls : List RecordList). list_in ls n) (sym c.requires.lists) ∙ sym c.in-Some.ensures in
    let upto : IsCountUpto l.records r.offset count =
    subst (λ (xs : List Record). IsCountUpto (record_views xs) r.offset count) c.as_slice-records.ensures.value c.count_upto-count.ensures in
    sym (needed_none files b c.args.kept.now l r n count is (sym c.is_discarded.ensures ∙ c.if-is_discarded.false) upto c.if-count-eq0.true)

pub returns : goal.returns
returns c =
    let files = files_of c.args.tables.now in
    let b = binding_view c.args.binding.now in
    let l = list_view c.in-Some.list.now in
    let n = c.args.section in
    let r = c.args.reloc.now in
    let count = c.count_upto-count.result in
    let is : list_in (all_lists files) n ≡ Some l = ap (λ (ls : List RecordList). list_in ls n) (sym c.requires.lists) ∙ sym c.in-Some.ensures in
    let upto : IsCountUpto l.records r.offset count =
    subst (λ (xs : List Record). IsCountUpto (record_views xs) r.offset count) c.as_slice-records.ensures.value c.count_upto-count.ensures in
    let places : c.place_of-file.result.file ≡ (place_of files l.section).file = ap (λ (p : SectionPlace). p.file) c.place_of-file.ensures.place in
    let some : 0 < count = elim (cases_lt 0 count) [
      | inl lt ↦ lt
      | inr le ↦ absurd (c.if-count-eq0.false (omega (arith, le)))
    ] in
    c.needs.ensures
    ∙ ap (λ f. needs files b c.args.kept.now f (record_views c.as_slice-records.result.now) (count - 1) r) places
    ∙ ap (λ (xs : List Record). needs files b c.args.kept.now (place_of files l.section).file (record_views xs) (count - 1) r) c.as_slice-records.ensures.value
    ∙ sym (needed_at files b c.args.kept.now l r n count is (sym c.is_discarded.ensures ∙ c.if-is_discarded.false) upto some)
