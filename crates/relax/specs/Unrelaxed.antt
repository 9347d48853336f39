-- Where sections lose bytes if no call is relaxed: each call has its eight.
use Rattle.std.specs.Prelude.{◌≡◌, ℕ, ◌-◌, ◌==◌, ◌&&◌, Bool, List, Result, IfOk, length, map, flat_map}
use Rattle.std.specs.Global.{Vec}
use Rattle.std.specs.List.{All, list_any, range_with_len}
use Rattle.std.specs.declared.ops.Range.{Range}
use Rattle.lk_base.specs.declared.defects.LinkStop.{LinkStop}
use Rattle.lk_base.specs.declared.abi.TheConstants.{R_RISCV_RELAX}
use Rattle.lk_tables.specs.declared.objects.Reloc.{Reloc}
use Rattle.lk_tables.specs.Files.{File, by_section, file_at, relocs_at, section_count}
use Rattle.link_sections.specs.declared.cuts.Cut.{Cut as HeldCut}
use Rattle.link_sections.specs.Cuts.{Cut}
use Rattle.link_sections.specs.CutsView.{AreCuts, cut_views}
use Rattle.relax.specs.CallSizes.{cuts_by}

-- the linker may relax what stands at the place of one of these, and of one in a file
abbrev pub has_relax : List Reloc → Bool
has_relax relocs = list_any (λ r. r.kind == R_RISCV_RELAX) relocs

abbrev pub relaxes : File → Bool
relaxes file = list_any (λ k. has_relax (relocs_at file k)) (range_with_len 0 (length file.head.sections))

abbrev pub some_relaxes : List File → Bool
some_relaxes files = list_any relaxes files

-- some call may be relaxed, if calls are
abbrev pub may_relax : List File → (on : Bool) → Bool
may_relax files on = on && some_relaxes files

-- the cuts of section k of file f, and those of all sections by their numbers
abbrev pub whole_cuts : List File → (f k : ℕ) → List Cut
whole_cuts files f k = cuts_by (λ _. 8) (relocs_at (file_at files f) k)

abbrev pub unrelaxed : List File → List (List Cut)
unrelaxed files = by_section files (whole_cuts files)

-- the cuts of the sections of file f, and of the files from one on and before another
abbrev pub unrelaxed_row : List File → (f : ℕ) → List (List Cut)
unrelaxed_row files f = map (whole_cuts files f) (range_with_len 0 (section_count (file_at files f)))

abbrev pub unrelaxed_from : List File → (start end : ℕ) → List (List Cut)
unrelaxed_from files start end = flat_map (unrelaxed_row files) (range_with_len start (end - start))

-- rows that have these cuts
pub record AreUnrelaxed (files : List File) (start end : ℕ) (rows : List (List HeldCut)) : Type 0 where
  pub views : map cut_views rows ≡ unrelaxed_from files start end
  pub sound : All AreCuts rows

-- what is made for a piece of the files: the rows of their sections, in parts
abbrev pub IsUnrelaxedPart : List File → Range ℕ → Result (Vec (List (List HeldCut))) LinkStop → Type 0
IsUnrelaxedPart files piece r = IfOk r (λ parts. AreUnrelaxed files piece.start piece.end (flat_map (λ part. part) parts.items))
