-- What is settled of a link before anything is written.
use Rattle.std.specs.Prelude.{◌≡◌, Bool, List}
use Rattle.link_driver.specs.Code.{HaveOwnCuts}
use Rattle.link_driver.specs.Reach.{CallsReach}
use Rattle.elf_out.specs.Standing.{HasHeaderRoom}
use Rattle.link_sections.specs.GotUses.{HasAllUses}
use Rattle.link_sections.specs.GotView.{entries_of}
use Rattle.link_sections.specs.LaidOut.{LaidOut, layout_view, with_contents}
use Rattle.link_sections.specs.PoolViews.{pools_view}
use Rattle.layout.specs.Layout.{frame_sizes}
use Rattle.layout.specs.Spots.{HasFrames}
use Rattle.link_sections.specs.Sound.{IsSound}
use Rattle.lk_tables.specs.Binding.{Bindings}
use Rattle.lk_tables.specs.Files.{File}
use Rattle.lk_tables.specs.FramePlans.{plan_view}
use Rattle.lk_tables.specs.Frames.{all_lists, lists_of}
use Rattle.output_sections.specs.Items.{AreLeaders}
use Rattle.link_driver.specs.declared.placing.Placement.{Placement}
use Rattle.link_driver.specs.Symbols.{SymbolsStand}
use Rattle.link_passes.specs.Passes.{LinkOptions, leaders_in, plan_in}
use Rattle.link_driver.specs.Link.{laid_out}

-- where everything stands
abbrev pub laid_by : List File → Placement → LaidOut
laid_by files p = with_contents (layout_view p.layout) (pools_view files p.pools) (entries_of p.got)

-- it is the one of Link; its layout is sound and has room for the headers and for the unwind records, each shortened call reaches its target,
-- where a section loses bytes is a call's or an alignment's own place, what is computed from the linker's table has its entry there, and each symbol
-- lies in the section of its st_shndx
pub record IsPlacement (w : LinkOptions) (files : List File) (b : Bindings) (kept : List Bool) (p : Placement) : Type 0 where
  pub leaders : p.leaders.items ≡ leaders_in w files b kept
  pub lead : AreLeaders files b p.leaders.items
  pub lists : lists_of p.plan.frames.now ≡ all_lists files
  pub plan : plan_view p.plan ≡ plan_in w files b kept
  pub laid : laid_by files p ≡ laid_out w files b kept
  pub sound : IsSound files b p.leaders.items (laid_by files p)
  pub room : HasHeaderRoom p.layout.bounds
  pub framed : HasFrames (frame_sizes p.plan) p.layout.bounds
  pub reach : CallsReach files b p.leaders.items (laid_by files p)
  pub cuts : HaveOwnCuts files p.leaders.items (laid_by files p)
  pub uses : HasAllUses files p.leaders.items (entries_of p.got)
  pub symbols : SymbolsStand files b kept p.leaders.items (laid_by files p)
