-- The defects of values are in order.
use Rattle.std.proofs.Common.{ℕ, List, Option}
use Rattle.std.specs.List.{AllByRecursion}
use Rattle.lk_tables.specs.Binding.{Bindings}
use Rattle.lk_tables.specs.Files.{File, file_at}
use Rattle.lk_tables.specs.FramePlans.{PlanView}
use Rattle.lk_tables.specs.Frames.{all_lists}
use Rattle.lk_tables.specs.Sites.{place_of}
use Rattle.link_sections.specs.LaidOut.{LaidOut}
use Rattle.link_sections.specs.PoolViews.{Merged}
use Rattle.eh_frame.specs.Bytes.{record_defects}
use Rattle.eh_frame.specs.Plan.{plan_of}
use Rattle.reloc_apply.specs.Relocated.{section_defects}
use Rattle.link_driver.specs.Values.{has_records, value_defects, values_at}
use Rattle.link_driver.proofs.DefectOrder.{NotAfter, Ordered, all_if}
use Rattle.link_passes.proofs.Rising.{up_if}
use Rattle.link_driver.proofs.FrameOrder.{records_ordered, records_section}
use Rattle.link_driver.proofs.LaidOrder.{section_of, section_up}
use Rattle.link_driver.proofs.PhaseOrder.{AreInOrder, OfSection, sections_walk}

module _ (files : List File) (b : Bindings) (merged : List (Option Merged)) (leaders : List (Option ℕ)) (laid : LaidOut) where
  abbrev plan : PlanView
  plan = plan_of files b merged (all_lists files) leaders

  each : (n : ℕ) → AllByRecursion (OfSection (place_of files n).file (place_of files n).index) (values_at files b leaders laid plan n)
  each n =
      all_if (OfSection (place_of files n).file (place_of files n).index) (has_records files n)
      (record_defects files b leaders laid (all_lists files) plan laid.bounds.frames n) (section_defects files b leaders laid n)
      (records_section files b merged leaders laid laid.bounds.frames n) (section_of files b leaders laid n)

  own : ((f : ℕ) → AreInOrder (file_at files f)) → (n : ℕ) → Ordered (values_at files b leaders laid plan n)
  own rise n =
      up_if NotAfter (has_records files n)
      (record_defects files b leaders laid (all_lists files) plan laid.bounds.frames n) (section_defects files b leaders laid n)
      (records_ordered files b merged leaders laid laid.bounds.frames rise n) (section_up files b leaders laid rise n)

  pub values_ordered : ((f : ℕ) → AreInOrder (file_at files f)) → Ordered (value_defects files b leaders laid plan)
  unfolding value_defects
  values_ordered rise = sections_walk files (values_at files b leaders laid plan) each (own rise)
