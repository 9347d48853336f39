use Rattle.std.proofs.Common.{◌≡◌, take}
use Rattle.std.specs.Prelude.{flat_map}
use Rattle.lk_tables.specs.TablesView.{files_of}
use Rattle.lk_tables.specs.Reach.{with_marked}
use Rattle.comdat.specs.Marks.{member_no}
use Rattle.comdat.proofs.marks.mark_members.Given as goal

abbrev pub invariant-loop-member : goal.invariant-loop-member
invariant-loop-member l =
    l.marks.items ≡ with_marked l.initial.marks.items (flat_map (member_no (files_of l.tables) l.group.file) (take l.member-index l.member-items))
