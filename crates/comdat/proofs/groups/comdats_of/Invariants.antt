use Rattle.std.proofs.Common.{◌≡◌}
use Rattle.std.specs.Prelude.{flat_map}
use Rattle.std.specs.List.{range_with_len}
use Rattle.lk_tables.specs.FileView.{file_views}
use Rattle.lk_tables.specs.Files.{file_at}
use Rattle.comdat.specs.Comdats.{comdat_views}
use Rattle.comdat.specs.Discarded.{comdats_in}
use Rattle.comdat.proofs.groups.comdats_of.Given as goal

abbrev pub invariant-loop-f : goal.invariant-loop-f
invariant-loop-f l = comdat_views l.list.items ≡ flat_map (λ f. comdats_in (file_at (file_views l.files) f) f) (range_with_len 0 l.f)
