use Rattle.std.proofs.Common.{◌≡◌, ◌-◌, length}
use Rattle.std.specs.Prelude.{flat_map}
use Rattle.std.specs.List.{range_with_len}
use Rattle.lk_tables.specs.Binding.{flag_defects, float_abi_at}
use Rattle.lk_tables.specs.TablesView.{files_of}
use Rattle.sym_resolve.proofs.FloatAbis.{clashes_after}
use Rattle.sym_resolve.proofs.flags.float_clash.Given as goal

abbrev pub invariant-loop-f : goal.invariant-loop-f
invariant-loop-f l = clashes_after l.first (flat_map (float_abi_at (files_of l.tables)) (range_with_len l.f (length (files_of l.tables) - l.f))) ≡ flag_defects (files_of l.tables)
