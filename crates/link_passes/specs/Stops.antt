-- Why a reader gave nothing, as why the link does.
use Rattle.std.specs.Prelude.{ℕ}
use Rattle.lk_base.specs.declared.defects.ReadFault.{ReadFault}
use Rattle.lk_base.specs.declared.defects.ReadFault.TheVariants as faults
use Rattle.lk_base.specs.declared.defects.LinkStop.{LinkStop}
use Rattle.lk_base.specs.declared.defects.LinkStop.TheVariants as stops
use Rattle.link_passes.specs.Defects.{defect_in}

abbrev pub stop_for : ℕ → ReadFault → LinkStop
stop_for file (faults.Bad flaw) = stops.Defect (defect_in file flaw)
stop_for file faults.Memory = stops.Memory
