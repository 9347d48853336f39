use Rattle.std.proofs.Common.{refl}
use Rattle.lk_base.specs.RelocKinds.{IsTable, is_linked, kind_of}
use Rattle.lk_base.proofs.relocations.line_of.Goals as goal

pub line_in-requires : goal.line_in-requires
unfolding IsTable is_linked kind_of
line_in-requires c = refl
