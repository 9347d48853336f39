-- What a link writes of unwind records (LSB Core, "Exception Frames").
use Rattle.std.specs.Prelude.{ℕ, List, Option}
use Rattle.eh_frame.specs.FrameLaws.{HasUnwindRecords}
use Rattle.eh_frame.specs.Laws.{IsPlanned}
use Rattle.elf_out.specs.Executable.{FrameContents}
use Rattle.link_command.specs.Command.{CommandView}
use Rattle.link_sections.specs.LaidOut.{LaidOut}
use Rattle.lk_tables.specs.Binding.{Bindings}
use Rattle.lk_tables.specs.Files.{File}
use Rattle.lk_tables.specs.FramePlans.{PlanView}
use Rattle.lk_tables.specs.Frames.{all_lists}
use Rattle.link_driver.specs.Link.{bound_in, kept_in, linked_files, link_options_in}
use Rattle.link_passes.specs.Passes.{leaders_in, merged_of, plan_in}
use Rattle.link_passes.specs.Sources.{Source}

-- of the files of these sources: each FDE of a section whose own bytes are written is, once and no other; each has a CIE equal to its own, and no two
-- of the CIEs are equal
abbrev pub Plans : (asked : CommandView) → List Source → Type 0
Plans asked ss =
    let files = linked_files asked ss in
    let b = bound_in asked ss in
    let w = link_options_in asked ss in
    let kept = kept_in asked ss in
    IsPlanned files b (merged_of w files b kept) (all_lists files) (leaders_in w files b kept) (plan_in w files b kept)

-- these bytes have all that: each FDE stands whole in them, with the distance to its CIE, and the table has an entry for each, in order of address
abbrev pub Unwinds : List File → Bindings → (leaders : List (Option ℕ)) → LaidOut → PlanView → FrameContents → Type 0
Unwinds files b leaders laid plan bytes = HasUnwindRecords files b leaders laid (all_lists files) plan bytes.frame bytes.header
