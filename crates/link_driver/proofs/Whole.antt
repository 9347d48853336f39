-- A link past its layout: there is room for the headers, and what is written stands whole.
use Rattle.std.proofs.Common.{◌≡◌, ℕ, ◌+◌, ◌*◌, Bool, List, [], Option, length, sym, ap, ◌∙◌, arith, subst}
use Rattle.lk_base.specs.declared.abi.TheConstants.{EHDR_SIZE, IMAGE_BASE, PF_R, PF_W, PF_X, PHDR_SIZE}
use Rattle.lk_tables.specs.Binding.{Bindings}
use Rattle.lk_tables.specs.Files.{File}
use Rattle.lk_tables.specs.FramePlans.{PlanView}
use Rattle.link_driver.specs.Code.{CodeStands, HaveOwnCuts}
use Rattle.link_sections.specs.declared.layouts.Bounds.{Bounds}
use Rattle.link_sections.specs.LaidOut.{LaidOut}
use Rattle.layout.specs.Layout.{count_of}
use Rattle.layout.specs.Spots.{AreRising, HaveSegments}
use Rattle.link_sections.specs.GotUses.{HasAllUses}
use Rattle.elf_out.specs.Executable.{own_tables}
use Rattle.elf_out.specs.Headers.{frame_segment, loaded, segments, stack_segment, tls_segment}
use Rattle.elf_out.specs.Standing.{FramesStand, HasHeaderRoom, HeadersStand, PiecesStand, SectionsStand}
use Rattle.elf_out.proofs.Appends.{six_count}
use Rattle.elf_out.proofs.Whole.{all_stand}
use Rattle.reloc_apply.specs.Relocated.{relocation_defects}
use Rattle.link_passes.specs.Passes.{LinkOptions, leaders_in, plan_in}
use Rattle.link_driver.specs.Link.{laid_out}
use Rattle.link_driver.specs.Phases.{LinkStands, StandsWhole}
use Rattle.link_driver.specs.Symbols.{SymbolsStand}
use Rattle.link_driver.specs.Unwound.{Unwinds}
use Rattle.link_driver.specs.Values.{contents_with}

-- one program header for each segment that the layout counts
segments_are : (b : Bounds) → length (segments b) ≡ 2 + count_of b.has_rx + count_of b.has_rw + count_of b.has_tls + count_of b.has_frames
segments_are b =
    six_count (loaded PF_R IMAGE_BASE b.r_end b.r_end) stack_segment (loaded (PF_R + PF_X) b.rx_start b.rx_end b.rx_end)
    (loaded (PF_R + PF_W) b.rw_start b.bits_end b.nobits_end) (tls_segment b) (frame_segment b) b.has_rx b.has_rw b.has_tls b.has_frames

pub header_room : (b : Bounds) → HaveSegments b → AreRising b → HasHeaderRoom b
header_room b have rising = record {
  headers_end = have.headers_end ∙ ap (λ n. IMAGE_BASE + (EHDR_SIZE + PHDR_SIZE * n)) (have.headers ∙ sym (segments_are b));
  inside = omega (arith, rising.r, rising.file_least);
}

-- what is written of a layout
pub stands_so : (w : LinkOptions) (files : List File) (b : Bindings) (kept : List Bool) (leaders : List (Option ℕ)) (laid : LaidOut) (plan : PlanView) (exe made : List ℕ) → made ≡ exe
    → HeadersStand files b leaders laid (own_tables files b kept w.strip leaders laid) exe → FramesStand laid (contents_with files b leaders laid plan) exe
    → PiecesStand files b leaders laid (own_tables files b kept w.strip leaders laid) exe → SectionsStand files b leaders laid exe
    → Unwinds files b leaders laid plan (contents_with files b leaders laid plan) → relocation_defects files b leaders laid ≡ [] → CodeStands files b leaders laid → HasAllUses files leaders laid.table
    → SymbolsStand files b kept leaders laid → HaveOwnCuts files leaders laid
    → StandsWhole w files b kept leaders laid plan made
stands_so w files b kept leaders laid plan exe made is head records others stand unwound done code uses symbols cuts =
    let whole : StandsWhole w files b kept leaders laid plan exe = record {
      pieces = all_stand files b leaders laid (contents_with files b leaders laid plan) (own_tables files b kept w.strip leaders laid) exe head records others;
      sections = stand;
      records = unwound;
      done = done;
      code = code;
      cuts = cuts;
      uses = uses;
      symbols = symbols;
    } in
    subst (StandsWhole w files b kept leaders laid plan) (sym is) whole

-- over the leaders and the layout of a link
pub stands_in : (w : LinkOptions) (files : List File) (b : Bindings) (kept : List Bool) (leaders : List (Option ℕ)) (laid : LaidOut) (plan : PlanView) (exe : List ℕ)
    → leaders ≡ leaders_in w files b kept → laid ≡ laid_out w files b kept → plan ≡ plan_in w files b kept → StandsWhole w files b kept leaders laid plan exe
    → LinkStands w files b kept exe
stands_in w files b kept leaders laid plan exe lead found planned whole =
    let P : List (Option ℕ) → Type 0 = λ l. StandsWhole w files b kept l laid plan exe in
    let Q : LaidOut → Type 0 = λ l. StandsWhole w files b kept (leaders_in w files b kept) l plan exe in
    let R : PlanView → Type 0 = λ p. StandsWhole w files b kept (leaders_in w files b kept) (laid_out w files b kept) p exe in
    subst R planned (subst Q found (subst P lead whole))
