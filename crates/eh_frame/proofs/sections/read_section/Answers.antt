use Rattle.std.proofs.Common.{◌≡◌, List, [], map, length, get_or, sym, ap, ◌∙◌, subst, arith}
use Rattle.std.specs.Global.{Vec}
use Rattle.std.proofs.lemmas.List.{length-map}
use Rattle.std.specs.List.Sorted.{IsNonDecreasingBy}
use Rattle.std.proofs.lemmas.Result.{err_from_is_err_and}
use Rattle.lk_tables.specs.declared.heads.Section.{Section}
use Rattle.lk_tables.specs.declared.objects.Reloc.{Reloc}
use Rattle.lk_tables.specs.Files.{no_section}
use Rattle.lk_tables.specs.Heads.{head_view}
use Rattle.lk_tables.specs.Objects.{object_view, relocs_for}
use Rattle.eh_frame.proofs.HeadObject.{count_is, in_order, lists_are, relocs_are, section_is}
use Rattle.eh_frame.proofs.OneSection.{IsSection, all_read, records_are, records_fail, records_rise, strays_fail}
use Rattle.eh_frame.proofs.sections.read_section.Goals as goal
use Rattle.eh_frame.proofs.sections.read_section.Goals.{After-list_at-relocs}

abbrev items : Vec Reloc → List Reloc
items list = list.items

own : (c : After-list_at-relocs) → c.list_at-relocs.result.now ≡ get_or (object_view c.args.object.now).relocs c.args.section []
own c = c.list_at-relocs.ensures ∙ ap (λ (l : List (Vec Reloc)). get_or (map items l) c.args.section []) c.as_slice-2.ensures.value

relocs : (c : After-list_at-relocs) → c.list_at-relocs.result.now ≡ relocs_for c.args.bytes.now c.args.section
relocs c =
    let b = c.args.bytes.now in
    let head = head_view c.args.head.now in
    own c ∙ relocs_are b (object_view c.args.object.now) c.args.section c.requires.object (omega (arith, c.requires.section, count_is b head c.requires.head))

is : (c : After-list_at-relocs) → IsSection c.args.bytes.now c.args.section c.section_at-header.result c.contents_of-contents.result.now c.list_at-relocs.result.now
is c =
    let b = c.args.bytes.now in
    let head = head_view c.args.head.now in
    record {
      header = c.section_at-header.ensures no_section ∙ ap (λ (l : List Section). get_or l c.args.section no_section) c.as_slice.ensures.value
          ∙ section_is b head c.args.section no_section c.requires.head c.requires.section;
      bytes = c.contents_of-contents.ensures.value;
      own = relocs c;
    }

pub list_at-relocs-requires : goal.list_at-relocs-requires
list_at-relocs-requires c =
    let b = c.args.bytes.now in
    let head = head_view c.args.head.now in
    let counted = lists_are b head (object_view c.args.object.now) c.requires.head c.requires.object c.requires.short in
    omega (arith, c.requires.section, counted, length-map c.args.object.now.relocs.items items, ap length c.as_slice-2.ensures.value)

pub read_records-requires-clause-ordered : goal.read_records-requires-clause-ordered
read_records-requires-clause-ordered c =
    let b = c.args.bytes.now in
    let head = head_view c.args.head.now in
    let counted = lists_are b head (object_view c.args.object.now) c.requires.head c.requires.object c.requires.short in
    let P : List Reloc → Type 0 = λ l. IsNonDecreasingBy (λ (r : Reloc). r.offset) l in
    let own_is = own (goal.at.read_records-requires-clause-ordered c).After-list_at-relocs in
    subst P (sym own_is) (in_order b head (object_view c.args.object.now) c.args.section c.requires.head c.requires.object c.requires.short (omega (arith, c.requires.section, counted)))

pub returns-in_err-records : goal.returns-in_err-records
returns-in_err-records c =
    let p = err_from_is_err_and c.from_residual.result c.from_residual.ensures.1 in
    let at = (goal.at.returns-in_err-records c).After-list_at-relocs in
    rw (p.1, p.2)
    (records_fail c.args.bytes.now c.args.section c.section_at-header.result c.contents_of-contents.result.now c.list_at-relocs.result.now _ (is at) c.in_err-records.ensures.exact)

pub check_relocations-requires-clause-relocs : goal.check_relocations-requires-clause-relocs
check_relocations-requires-clause-relocs c = relocs (goal.at.check_relocations-requires-clause-relocs c).After-list_at-relocs

pub check_relocations-requires-clause-records : goal.check_relocations-requires-clause-records
check_relocations-requires-clause-records c =
    records_are c.args.section c.section_at-header.result.offset c.contents_of-contents.result.now c.list_at-relocs.result.now c.as_slice-3.result.now c.in_ok-records.records.items
    c.as_slice-3.ensures.value c.in_ok-records.ensures.exact

pub check_relocations-requires-clause-ordered : goal.check_relocations-requires-clause-ordered
check_relocations-requires-clause-ordered c =
    records_rise c.contents_of-contents.result.now c.list_at-relocs.result.now c.as_slice-3.result.now
    (records_are c.args.section c.section_at-header.result.offset c.contents_of-contents.result.now c.list_at-relocs.result.now c.as_slice-3.result.now c.in_ok-records.records.items
    c.as_slice-3.ensures.value c.in_ok-records.ensures.exact)

pub returns-in_err-check_relocations : goal.returns-in_err-check_relocations
returns-in_err-check_relocations c =
    let p = err_from_is_err_and c.from_residual-in_err-check_relocations.result c.from_residual-in_err-check_relocations.ensures.1 in
    let at = (goal.at.returns-in_err-check_relocations c).After-list_at-relocs in
    rw (p.1, p.2)
    (strays_fail c.args.bytes.now c.args.section c.section_at-header.result c.contents_of-contents.result.now c.list_at-relocs.result.now c.in_ok-records.records.items _ (is at)
    c.in_ok-records.ensures.exact c.in_err-check_relocations.ensures)

pub returns : goal.returns
returns c =
    let at = (goal.at.returns c).After-list_at-relocs in
    all_read c.args.bytes.now c.args.section c.section_at-header.result c.contents_of-contents.result.now c.list_at-relocs.result.now c.in_ok-records.records.items (is at)
    c.in_ok-records.ensures.exact c.in_ok-check_relocations.ensures
