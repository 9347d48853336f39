use Rattle.std.proofs.Common.{◌≡◌}
use Rattle.std.specs.Prelude.{flat_map}
use Rattle.std.specs.List.{range_with_len}
use Rattle.lk_tables.specs.TablesView.{files_of}
use Rattle.lk_tables.specs.Reach.{with_marked}
use Rattle.comdat.specs.Comdats.{comdat_views}
use Rattle.comdat.specs.Marks.{beaten_at}
use Rattle.comdat.proofs.marks.mark_beaten.Given as goal

abbrev pub invariant-loop-j : goal.invariant-loop-j
invariant-loop-j l =
    l.marks.items ≡ with_marked l.initial.marks.items (flat_map (beaten_at (files_of l.tables) (comdat_views l.groups) l.numbers) (range_with_len 0 l.j))
