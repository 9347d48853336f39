use Rattle.std.proofs.Common.{◌≡◌, ◌++◌, map, take}
use Rattle.std.specs.Prelude.{flat_map}
use Rattle.lk_tables.specs.FileView.{file_view}
use Rattle.lk_tables.specs.Objects.{group_view}
use Rattle.comdat.specs.Comdats.{comdat_views}
use Rattle.comdat.specs.Discarded.{comdat_of}
use Rattle.comdat.proofs.groups.push_comdats.Given as goal

abbrev pub invariant-loop-group : goal.invariant-loop-group
invariant-loop-group l =
    comdat_views l.list.items
    ≡ comdat_views l.initial.list.items ++ flat_map (comdat_of (file_view l.file).bytes l.number) (take l.group-index (map group_view l.group-items))
