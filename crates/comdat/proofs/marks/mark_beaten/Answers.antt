use Rattle.std.proofs.Common.{◌≡◌, length, ap, ◌∙◌, arith}
use Rattle.std.specs.Prelude.{flat_map}
use Rattle.std.specs.List.{range_with_len}
use Rattle.std.proofs.lemmas.List.{length-map}
use Rattle.lk_tables.specs.TablesView.{files_of}
use Rattle.lk_tables.specs.Reach.{with_marked}
use Rattle.lk_tables.proofs.Marking.{length_marked}
use Rattle.comdat.specs.Comdats.{comdat_view, comdat_views}
use Rattle.comdat.specs.Marks.{beaten_at, beaten_members}
use Rattle.comdat.proofs.Members.{group_next, group_marked, group_passed, group_of_files}
use Rattle.comdat.proofs.marks.mark_beaten.Goals as goal
use Rattle.comdat.proofs.marks.mark_beaten.Goals.{then-is_beaten, else-is_beaten}

pub mark_members-requires-clause-wide : goal.mark_members-requires-clause-wide
mark_members-requires-clause-wide c =
    let files = files_of c.args.tables.now in
    let views = comdat_views c.args.groups.now in
    ap length c.loop-j.invariant
    ∙ length_marked c.args.marks.now.items (flat_map (beaten_at files views c.args.numbers.now) (range_with_len 0 c.loop-j.j))
    ∙ c.requires.wide

pub mark_members-requires-clause-file : goal.mark_members-requires-clause-file
mark_members-requires-clause-file c =
    group_of_files (files_of c.args.tables.now) c.args.groups.now c.args.numbers.now c.loop-j.j _ c.loop-j-test.true c.requires.files

pub loop-j-preserved : goal.loop-j-preserved
loop-j-preserved c =
    let files = files_of c.args.tables.now in
    let groups = c.args.groups.now in
    let views = comdat_views groups in
    let ns = c.args.numbers.now in
    let j = c.loop-j.j in
    let old = c.loop-j.marks.items in
    let new = c.if-is_beaten.marks.items in
    group_next files views ns j c.args.marks.now.items old new
    (elim c.if-is_beaten.branch [
      | then-is_beaten w ↦ group_marked files groups ns j _ c.loop-j-test.true c.is_beaten.result old new c.is_beaten.ensures w.if-is_beaten.true (ap (λ v. v.items) w.marks-is ∙ w.mark_members.ensures)
      | else-is_beaten w ↦ group_passed files views ns j c.is_beaten.result old new c.is_beaten.ensures w.if-is_beaten.false (ap (λ v. v.items) w.marks-is)
    ])
    c.loop-j.invariant

pub returns : goal.returns
unfolding beaten_members
returns c =
    let files = files_of c.args.tables.now in
    let views = comdat_views c.args.groups.now in
    let all : c.loop-j.j ≡ length views = omega (arith, length-map c.args.groups.now comdat_view) in
    c.loop-j.invariant ∙ ap (λ n. with_marked c.args.marks.now.items (flat_map (beaten_at files views c.args.numbers.now) (range_with_len 0 n))) all
