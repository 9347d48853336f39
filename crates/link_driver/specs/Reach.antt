-- Calls of which not all bytes stay reach their targets (RISC-V ELF psABI, "Function Call Relaxation").
use Rattle.std.specs.Prelude.{◌≡◌, ℕ, ◌<◌, ◌&&◌, nat_lt, Bool, true, Option, List, [], All}
use Rattle.lk_tables.specs.declared.objects.Reloc.{Reloc}
use Rattle.lk_tables.specs.Binding.{Bindings}
use Rattle.lk_tables.specs.Files.{File, section_total}
use Rattle.lk_tables.specs.Sites.{relocs_of}
use Rattle.link_sections.specs.Calls.{call_size, is_call}
use Rattle.link_sections.specs.LaidOut.{LaidOut, cuts_at}
use Rattle.link_sections.specs.Leaders.{leads}
use Rattle.reloc_apply.specs.Relocated.{reloc_defects}

-- a relocation of section n is a call that keeps less than its eight bytes
abbrev pub is_shortened : LaidOut → (n : ℕ) → Reloc → Bool
is_shortened laid n r = is_call r.kind && nat_lt (call_size (cuts_at laid n) r.offset) 8

-- each shortened call reaches its target: its relocation has no defect, whatever relocation comes before it, so its value is even and in the
-- range of `jal` or of `c.j`
abbrev pub CallsReach : List File → Bindings → (leaders : List (Option ℕ)) → LaidOut → Type 0
CallsReach files b leaders laid =
    (n : ℕ) → n < section_total files → leads leaders n ≡ true → All (λ r. is_shortened laid n r ≡ true → (before : Reloc) → reloc_defects files b leaders laid n before r ≡ []) (relocs_of files n)
