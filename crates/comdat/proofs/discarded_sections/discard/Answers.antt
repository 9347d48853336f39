use Rattle.std.proofs.Common.{◌≡◌, ℕ, ◌<◌, false, List, [], length, replicate, ap, ◌∙◌, sym, subst}
use Rattle.std.specs.Prelude.{All}
use Rattle.std.proofs.lemmas.List.{length-map, nil_from_length}
use Rattle.lk_tables.specs.Files.{section_total}
use Rattle.lk_tables.specs.TablesView.{files_of}
use Rattle.lk_tables.specs.Reach.{with_marked}
use Rattle.name_numbers.specs.Texts.{text_numbers}
use Rattle.comdat.specs.declared.groups.ComdatGroup.{ComdatGroup}
use Rattle.comdat.specs.Comdats.{comdat_view, comdat_views}
use Rattle.comdat.specs.Discarded.{Comdat, comdats, rank}
use Rattle.comdat.specs.Marks.{IsOfFiles, beaten_members}
use Rattle.comdat.specs.Signatures.{group_at, signatures}
use Rattle.comdat.proofs.Beaten.{beaten_goes, length_numbers}
use Rattle.comdat.proofs.FirstStays.{keeps_first}
use Rattle.comdat.proofs.GroupLists.{comdats_of_files}
use Rattle.comdat.proofs.Rising.{ranks_rise}
use Rattle.comdat.proofs.Sections.{none_discarded, some_discarded}
use Rattle.comdat.proofs.discarded_sections.discard.Goals as goal

pub returns-then-len-eq0-clause-discarded : goal.returns-then-len-eq0-clause-discarded
returns-then-len-eq0-clause-discarded g c =
    let files = files_of c.args.tables.now in
    let are : comdat_views c.in_ok-groups.groups.items ≡ comdats files = c.in_ok-groups.ensures ∙ ap comdats c.files.ensures in
    let empty : c.in_ok-groups.groups.items ≡ [] =
    nil_from_length c.in_ok-groups.groups.items (sym c.in_ok-groups.groups.ok.0 ∙ sym c.len.ensures ∙ c.if-len-eq0.true) in
    none_discarded files c.in_ok-marks.marks.items (sym are ∙ ap comdat_views empty)
    (c.in_ok-marks.ensures.items_if_clones_equal (λ y h. h) ∙ ap (λ n. replicate n false) c.section_count.ensures)

pub returns-then-len-eq0-clause-kept : goal.returns-then-len-eq0-clause-kept
returns-then-len-eq0-clause-kept g c = keeps_first (comdats (files_of c.args.tables.now))

pub prove_few_groups-requires : goal.prove_few_groups-requires
prove_few_groups-requires g c = c.in_ok-groups.ensures ∙ ap comdats c.files.ensures

pub mark_beaten-requires-clause-files : goal.mark_beaten-requires-clause-files
mark_beaten-requires-clause-files g c =
    let files = files_of c.args.tables.now in
    let are = ap comdat_views c.as_slice-2.ensures.value ∙ c.in_ok-groups.ensures ∙ ap comdats c.files.ensures in
    let P : List Comdat → Type 0 = All (IsOfFiles files) in
    subst P (sym are) (comdats_of_files files)

pub mark_beaten-requires-clause-numbers : goal.mark_beaten-requires-clause-numbers
mark_beaten-requires-clause-numbers g c =
    let groups = c.in_ok-groups.groups.items in
    let named = c.in_ok-numbers.ensures
    ∙ ap text_numbers (c.of-signatures.ensures ∙ c.in_ok-list.ensures ∙ ap (λ (l : List ComdatGroup). signatures (comdat_views l)) c.as_slice.ensures.value) in
    ap length c.as_slice-3.ensures.value ∙ length_numbers (comdat_views groups) c.in_ok-numbers.numbers.items named
    ∙ length-map groups comdat_view ∙ sym (ap length c.as_slice-2.ensures.value)

pub returns-clause-discarded : goal.returns-clause-discarded
returns-clause-discarded g c =
    let files = files_of c.args.tables.now in
    let groups = c.in_ok-groups.groups.items in
    let views = comdat_views groups in
    let ns = c.in_ok-numbers.numbers.items in
    let are : views ≡ comdats files = c.in_ok-groups.ensures ∙ ap comdats c.files.ensures in
    let named = c.in_ok-numbers.ensures
    ∙ ap text_numbers (c.of-signatures.ensures ∙ c.in_ok-list.ensures ∙ ap (λ (l : List ComdatGroup). signatures (comdat_views l)) c.as_slice.ensures.value) in
    let was : c.in_ok-marks.marks.items ≡ replicate (section_total files) false =
    c.in_ok-marks.ensures.items_if_clones_equal (λ y h. h) ∙ ap (λ n. replicate n false) c.section_count.ensures in
    let is : c.mark_beaten.new.marks.items ≡ with_marked c.in_ok-marks.marks.items (beaten_members files views ns) = c.mark_beaten.ensures
    ∙ ap (λ (l : List ComdatGroup). with_marked c.in_ok-marks.marks.items (beaten_members files (comdat_views l) c.as_slice-3.result.now)) c.as_slice-2.ensures.value
    ∙ ap (λ l. with_marked c.in_ok-marks.marks.items (beaten_members files views l)) c.as_slice-3.ensures.value in
    let Rises : List Comdat → Type 0 = λ l. (i j : ℕ) → i < j → j < length l → rank (group_at l i) < rank (group_at l j) in
    some_discarded files views ns c.in_ok-marks.marks.items c.mark_beaten.new.marks.items are
    (beaten_goes views ns named (subst Rises (sym are) (ranks_rise c.args.tables.now)))
    was is

pub returns-clause-kept : goal.returns-clause-kept
returns-clause-kept g c = keeps_first (comdats (files_of c.args.tables.now))
