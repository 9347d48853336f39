-- What a link asks of the linker's global offset table is there (RISC-V ELF psABI, "Global Offset Table").
use Rattle.std.specs.Prelude.{◌≡◌, ℕ, ◌<◌, true, Option, Some, is_some, List, All}
use Rattle.lk_base.specs.RelocKinds.{goes_by_got}
use Rattle.lk_tables.specs.declared.objects.Reloc.{Reloc}
use Rattle.lk_tables.specs.Files.{File, section_total}
use Rattle.lk_tables.specs.Sites.{place_of, relocs_of}
use Rattle.link_sections.specs.declared.got.GotEntry.{GotEntry}
use Rattle.link_sections.specs.declared.got.GotUse.{GotUse}
use Rattle.link_sections.specs.GotEntries.{AreUnlike, entry_of, key_of, use_of}
use Rattle.link_sections.specs.Leaders.{leads}

-- what a relocation of section n asks for is there
abbrev pub HasUse : List File → (n : ℕ) → List GotEntry → Reloc → Type 0
HasUse files n entries r = (usage : GotUse) → use_of r.kind ≡ Some usage → is_some (entry_of entries (key_of files (place_of files n).file r.symbol) usage) ≡ true

-- each key and use has one entry at most; a kind of relocation has a use exactly if its value is computed from the table (RISC-V ELF psABI,
-- "Relocations": G); and each relocation that asks for one in a section that is its own leader has its entry
pub record HasAllUses (files : List File) (leaders : List (Option ℕ)) (entries : List GotEntry) : Type 0 where
  pub unlike : AreUnlike entries
  pub asked : (kind : ℕ) → is_some (use_of kind) ≡ goes_by_got kind
  pub each : (n : ℕ) → n < section_total files → leads leaders n ≡ true → All (HasUse files n entries) (relocs_of files n)
