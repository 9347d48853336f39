-- What a link gives, as contracts see it: three lists of bytes. Those of the executable are made of its tables.
use Rattle.std.specs.Prelude.{◌≡◌, ℕ, ◌≤◌, ◌++◌, Bool, List, Option, length}
use Rattle.elf_out.specs.Executable.{executable, own_tables}
use Rattle.elf_out.specs.Prepared.{IsPrepared}
use Rattle.elf_out.specs.TablesView.{frame_contents}
use Rattle.link_sections.specs.Addresses.{AreAddresses}
use Rattle.link_sections.specs.GotUses.{HasAllUses}
use Rattle.link_sections.specs.GotView.{entries_of}
use Rattle.link_sections.specs.LaidOut.{LaidOut, layout_view, with_contents}
use Rattle.link_sections.specs.PoolViews.{pools_view}
use Rattle.link_sections.specs.Sound.{IsSound}
use Rattle.lk_tables.specs.Binding.{Bindings}
use Rattle.lk_tables.specs.BindingView.{binding_view}
use Rattle.lk_tables.specs.Files.{File}
use Rattle.lk_tables.specs.TablesView.{files_of}
use Rattle.lk_tables.specs.Uppers.{AreListed, section_uppers}
use Rattle.link_driver.specs.declared.executable.Executable.{Executable}
use Rattle.link_driver.specs.declared.writing.Settled.{Settled}
use Rattle.link_driver.specs.declared.writing.Written.{Written}
use Rattle.link_driver.specs.Placing.{laid_by}

pub record LinkedView : Type 0 where
  pub exe : List ℕ
  pub map : List ℕ
  pub report : List ℕ

-- the lists of a link, with what is asked why in the report
abbrev pub with_why : (why : List ℕ) → LinkedView → LinkedView
with_why why l = record { exe = l.exe; map = l.map; report = l.report ++ why }

-- where everything stands
abbrev pub laid_of : Executable → LaidOut
laid_of e = with_contents (layout_view e.layout) (pools_view (files_of e.tables) e.pools) (entries_of e.got)

-- the bytes
abbrev pub exe_of : Executable → List ℕ
exe_of e = executable (files_of e.tables) (binding_view e.binding) e.kept.items e.strip e.leaders.items (laid_of e) (frame_contents e.frames)

module _ (files : List File) (b : Bindings) (kept : List Bool) (strip : Bool) (leaders : List (Option ℕ)) (laid : LaidOut) where
  -- what is made of a link that is placed so gives these lists
  abbrev pub written_view : Written → LinkedView
  written_view w = record { exe = executable files b kept strip leaders laid (frame_contents w.frames); map = w.map.items; report = w.report.items }

  -- and blocks of its executable are made of it, in a window of one block at least
  pub record IsMade (w : Written) : Type 0 where
    pub addresses : AreAddresses files b leaders laid w.addresses
    pub prepared : IsPrepared files b leaders laid (own_tables files b kept strip leaders laid) w.prepared
    pub window : 65536 ≤ length w.window.items

module _ (files : List File) (b : Bindings) (kept : List Bool) (strip : Bool) where
  -- what is settled of a link gives these lists
  abbrev pub settled_view : Settled → LinkedView
  settled_view s = written_view files b kept strip s.placement.leaders.items (laid_by files s.placement) s.written

  -- and its executable can be made
  pub record IsSettled (s : Settled) : Type 0 where
    pub listed : AreListed (section_uppers files) s.uppers
    pub uses : HasAllUses files s.placement.leaders.items (entries_of s.placement.got)
    pub sound : IsSound files b s.placement.leaders.items (laid_by files s.placement)
    pub made : IsMade files b kept strip s.placement.leaders.items (laid_by files s.placement) s.written
