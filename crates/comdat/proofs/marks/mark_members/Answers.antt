use Rattle.std.proofs.Common.{length, take, get_or, ap, ◌∙◌, arith}
use Rattle.std.specs.Prelude.{flat_map}
use Rattle.std.proofs.lemmas.List.{take_all}
use Rattle.lk_tables.specs.TablesView.{files_of}
use Rattle.lk_tables.specs.Reach.{with_marked}
use Rattle.lk_tables.proofs.Marking.{length_marked}
use Rattle.comdat.specs.Comdats.{comdat_view}
use Rattle.comdat.specs.Marks.{member_no, members_of}
use Rattle.comdat.proofs.Members.{member_next, member_marked, member_passed, sections_read}
use Rattle.comdat.proofs.Sections.{number_within}
use Rattle.comdat.proofs.marks.mark_members.Goals as goal
use Rattle.comdat.proofs.marks.mark_members.Goals.{then-section-count, else-section-count}

pub index_mut-requires : goal.index_mut-requires
index_mut-requires c =
    let files = files_of c.args.tables.now in
    let f = c.args.group.now.file in
    let items = c.args.group.now.members.now in
    let read = c.sections-count.ensures ∙ sections_read c.files.result.now files f c.index-files-file.result c.files.ensures c.requires.file.within c.index-files-file.is in
    let inside = number_within files (comdat_view c.args.group.now) (get_or items c.loop-member.member-index 0) c.requires.file (omega (arith, ap length read, c.if-section-count.true)) in
    omega (arith, c.section_no.ensures, inside, ap length c.loop-member.invariant, length_marked c.args.marks.now.items (flat_map (member_no files f) (take c.loop-member.member-index items)), c.requires.wide)

pub loop-member-preserved : goal.loop-member-preserved
loop-member-preserved c =
    let files = files_of c.args.tables.now in
    let f = c.args.group.now.file in
    let items = c.args.group.now.members.now in
    let i = c.loop-member.member-index in
    let sections = c.sections-count.result.now in
    let read = c.sections-count.ensures ∙ sections_read c.files.result.now files f c.index-files-file.result c.files.ensures c.requires.file.within c.index-files-file.is in
    member_next files f items i 0 c.args.marks.now.items c.loop-member.marks.items c.if-section-count.marks.items c.loop-member-test.true
    (elim c.if-section-count.branch [
      | then-section-count w ↦ member_marked files f (get_or items i 0) w.section_no.result sections c.loop-member.marks.items c.if-section-count.marks.items read w.if-section-count.true w.section_no.ensures (ap (λ v. v.items) w.marks-is)
      | else-section-count w ↦ member_passed files f (get_or items i 0) sections c.loop-member.marks.items c.if-section-count.marks.items read w.if-section-count.false (ap (λ v. v.items) w.marks-is)
    ])
    c.loop-member.invariant

pub returns : goal.returns
unfolding members_of
returns c =
    let files = files_of c.args.tables.now in
    let f = c.args.group.now.file in
    c.loop-member.invariant ∙ ap (λ l. with_marked c.args.marks.now.items (flat_map (member_no files f) l)) (take_all c.loop-member.member-index c.args.group.now.members.now c.loop-member-test.false)
