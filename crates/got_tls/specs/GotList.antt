-- Which entries the linker's global offset table has (RISC-V ELF psABI, "Global Offset Table"): one for each symbol and use for which
-- relocations ask of sections that are their own leaders, in order of the first of these, and the words of each after those of the one before.
use Rattle.std.specs.Prelude.{ℕ, ◌+◌, Bool, Option, Some, None, if◌then◌else◌, List, [], ◌∷◌, flat_map}
use Rattle.std.specs.List.{range_with_len}
use Rattle.lk_tables.specs.declared.objects.Reloc.{Reloc}
use Rattle.lk_tables.specs.Files.{File, section_total}
use Rattle.lk_tables.specs.Sites.{place_of, relocs_of}
use Rattle.link_sections.specs.declared.got.GotEntry.{GotEntry}
use Rattle.link_sections.specs.declared.got.GotUse.{GotUse}
use Rattle.link_sections.specs.declared.got.GotUse.TheVariants.{Address}
use Rattle.link_sections.specs.Distinct.{distinct}
use Rattle.link_sections.specs.GotEntries.{eq_keys, key_of, use_of, with_use, words_of}
use Rattle.link_sections.specs.Leaders.{leads}

-- what a relocation asks of the table: the key of its symbol, and a use; and the symbol itself
pub record Wanted : Type 0 where
  pub key : ℕ
  pub usage : GotUse
  pub file : ℕ
  pub symbol : ℕ

abbrev pub no_wanted : Wanted
no_wanted = record { key = 0; usage = Address; file = 0; symbol = 0 }

abbrev pub same_wanted : Wanted → Wanted → Bool
same_wanted a b = eq_keys (a.key, a.usage) (b.key, b.usage)

abbrev pub wanted_use : List File → (f : ℕ) → Reloc → Option GotUse → List Wanted
wanted_use files f r None = []
wanted_use files f r (Some usage) = record { key = key_of files f r.symbol; usage = usage; file = f; symbol = r.symbol } ∷ []

-- a relocation of file f
unfoldable pub wanted_by : List File → (f : ℕ) → Reloc → List Wanted
wanted_by files f r = wanted_use files f r (use_of r.kind)

-- what the relocations of section n ask for, if it is its own leader
unfoldable pub wanted_in : List File → (leaders : List (Option ℕ)) → (n : ℕ) → List Wanted
wanted_in files leaders n = if leads leaders n then flat_map (wanted_by files (place_of files n).file) (relocs_of files n) else []

-- what those of all sections ask for, in order of section number
unfoldable pub wanted : List File → (leaders : List (Option ℕ)) → List Wanted
wanted files leaders = flat_map (wanted_in files leaders) (range_with_len 0 (section_total files))

-- entries one after the other, the first of which has this word
abbrev pub numbered : (word : ℕ) → List Wanted → List GotEntry
numbered word [] = []
numbered word (w ∷ ws) = record { key = w.key; usage = w.usage; file = w.file; symbol = w.symbol; word = word } ∷ numbered (word + words_of w.usage) ws

-- the entries of a link: for each key and use that of the first relocation that asks for it
unfoldable pub got_of : List File → (leaders : List (Option ℕ)) → List GotEntry
got_of files leaders = numbered 0 (distinct same_wanted no_wanted (wanted files leaders))

-- the entries by uses added one at a time
abbrev pub all_added : List GotEntry → List Wanted → List GotEntry
all_added entries [] = entries
all_added entries (w ∷ ws) = all_added (with_use entries w.key w.usage w.file w.symbol) ws
