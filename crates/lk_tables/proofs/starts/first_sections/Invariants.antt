use Rattle.std.proofs.Common.{◌≡◌, map}
use Rattle.std.specs.List.{range_with_len}
use Rattle.lk_tables.specs.FileView.{file_views}
use Rattle.lk_tables.specs.Files.{first_section}
use Rattle.lk_tables.proofs.starts.first_sections.Given as goal

abbrev pub invariant-loop-f : goal.invariant-loop-f
invariant-loop-f l = record { listed : l.firsts.items ≡ map (first_section (file_views l.files)) (range_with_len 0 l.f); total : l.total ≡ first_section (file_views l.files) l.f }
