use Rattle.std.proofs.Common.{◌≡◌}
use Rattle.std.specs.Prelude.{flat_map}
use Rattle.std.specs.List.{range_with_len}
use Rattle.lk_tables.specs.Files.{common_no}
use Rattle.lk_tables.specs.TablesView.{files_of}
use Rattle.sym_resolve.specs.Asks.{common_from}
use Rattle.sym_resolve.proofs.commons.commons_in.Given as goal

abbrev pub invariant-loop-i : goal.invariant-loop-i
invariant-loop-i l = record {
  listed : l.commons.items ≡ flat_map (common_from (files_of l.tables) l.least l.rooms l.f) (range_with_len 0 l.i);
  section : l.section ≡ common_no (files_of l.tables) l.f l.i;
}
