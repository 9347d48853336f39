-- Entries of an object's tables, each at a file offset (System V gABI, "Section Header Table", "Symbol Table",
-- "Relocation").
use Rattle.std.specs.Prelude.{ℕ, ◌+◌, List, slice_index}
use Rattle.lk_tables.specs.declared.entries.SectionHeader.{SectionHeader}
use Rattle.lk_tables.specs.declared.entries.SymbolEntry.{SymbolEntry}
use Rattle.lk_tables.specs.declared.objects.Reloc.{Reloc}
use Rattle.lk_tables.specs.Numbers.{half_at, word_at, xword_at, sxword_at}

-- Elf64_Shdr
unfoldable pub header_at : List ℕ → ℕ → SectionHeader
header_at bytes at = record {
  name = word_at bytes at;
  sh_type = word_at bytes (at + 4);
  flags = xword_at bytes (at + 8);
  offset = xword_at bytes (at + 24);
  size = xword_at bytes (at + 32);
  link = word_at bytes (at + 40);
  info = word_at bytes (at + 44);
  align = xword_at bytes (at + 48);
  entsize = xword_at bytes (at + 56);
}

-- Elf64_Sym
unfoldable pub entry_at : List ℕ → ℕ → SymbolEntry
entry_at bytes at = record {
  name = word_at bytes at;
  info = slice_index bytes (at + 4);
  shndx = half_at bytes (at + 6);
  value = xword_at bytes (at + 8);
  size = xword_at bytes (at + 16);
}

-- Elf64_Rela: the low half of r_info is the type, the high half the symbol
unfoldable pub reloc_at : List ℕ → ℕ → Reloc
reloc_at bytes at = record {
  offset = xword_at bytes at;
  kind = word_at bytes (at + 8);
  symbol = word_at bytes (at + 12);
  addend = sxword_at bytes (at + 16);
}
