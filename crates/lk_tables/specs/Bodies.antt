-- The checks of an object's body, section by section (System V gABI, "Section Header Table", "Section Groups",
-- "Relocation") and symbol by symbol.
use Rattle.std.specs.Prelude.{ℕ, ◌%◌, Bool, not, ◌&&◌, ◌||◌, ◌==◌, nat_lt, bit_and, Option, if◌then◌else◌, List, [], ◌∷◌, ◌++◌, codes, find}
use Rattle.std.specs.List.{list_any, range_with_len}
use Rattle.std.specs.Int.{is_power_of_two}
use Rattle.std.specs.Str.{bytes_eq}
use Rattle.lk_base.specs.RelocKinds.{is_among}
use Rattle.lk_base.specs.declared.abi.TheConstants.{ALIGN_MAX, NOBITS_MAX, RELA_SIZE, SHF_WRITE, SHF_EXECINSTR, SHF_LINK_ORDER, SHF_COMPRESSED, SHT_RELA, SHT_NOBITS, SHT_REL, STT_GNU_IFUNC}
use Rattle.lk_base.specs.declared.kinds.TheConstants.{BAD_SECTION, COMPRESSED, LIMIT, BAD_ALIGNMENT, IFUNC}
use Rattle.lk_tables.specs.declared.heads.Section.{Section}
use Rattle.lk_tables.specs.Checks.{Check, ◌says◌, flaw_at, from_on}
use Rattle.lk_tables.specs.FileHeader.{place_of, section_count}
use Rattle.lk_tables.specs.Names.{text_of}
use Rattle.lk_tables.specs.Sections.{section_of, is_null, loaded_types, is_loaded, is_written, takes_relocs}
use Rattle.lk_tables.specs.Symbols.{symtab_of, symbol_of, symbol_place, symbol_count, is_common, is_undef}
use Rattle.lk_tables.specs.Groups.{group_checks}
use Rattle.lk_tables.specs.Relocations.{entries_checks}

-- an alignment that is no power of two, or too great; 0 counts as 1
unfoldable pub is_bad_alignment : ℕ → Bool
is_bad_alignment align = (not (align == 0) && not (is_power_of_two align)) || nat_lt ALIGN_MAX align

-- of a loaded section: a type that is not linked, both written to and executed, in the order of no section, or named like the table of unwind
-- records, which the linker writes
unfoldable pub is_bad_loaded : List ℕ → (count : ℕ) → Section → Bool
is_bad_loaded b count s =
    not (is_among loaded_types s.sh_type)
    || ((not (bit_and s.flags SHF_WRITE == 0) && not (bit_and s.flags SHF_EXECINSTR == 0))
    || ((not (bit_and s.flags SHF_LINK_ORDER == 0) && not (nat_lt s.link count))
    || (is_written b s && bytes_eq (text_of b s.name) (codes ".eh_frame_hdr"))))

-- "Section Header Table": no section is compressed or has relocations without addends; then what is asked of loaded ones
unfoldable pub plain_checks : List ℕ → ℕ → Section → List Check
plain_checks b i s =
    (not (bit_and s.flags SHF_COMPRESSED == 0) says flaw_at COMPRESSED i (place_of b i))
    ∷ (s.sh_type == SHT_REL says flaw_at BAD_SECTION i (place_of b i))
    ∷ (is_loaded s && is_bad_loaded b (section_count b) s says flaw_at BAD_SECTION i (place_of b i))
    ∷ (is_loaded s && is_bad_alignment s.align says flaw_at BAD_ALIGNMENT i (place_of b i))
    ∷ (is_loaded s && (s.sh_type == SHT_NOBITS && nat_lt NOBITS_MAX s.size) says flaw_at LIMIT i (place_of b i))
    ∷ []

-- section r has the relocations of section k
unfoldable pub relocates : List ℕ → (k r : ℕ) → Bool
relocates b k r = nat_lt 0 r && ((section_of b r).sh_type == SHT_RELA && ((section_of b r).info == k && takes_relocs b k))

-- the relocation section of section k, if there is one
unfoldable pub rela_of : List ℕ → (k : ℕ) → Option ℕ
rela_of b k = find (relocates b k) (range_with_len 0 (section_count b))

-- a section before section i has the relocations of section k
unfoldable pub is_relocated_before : List ℕ → (i k : ℕ) → Bool
is_relocated_before b i k = list_any (relocates b k) (range_with_len 0 i)

-- entries of another size than Elf64_Rela's
unfoldable pub is_uneven : Section → Bool
is_uneven s = not (s.entsize == RELA_SIZE) || not (s.size % RELA_SIZE == 0)

-- for another symbol table, or for no section; index 0 names none
unfoldable pub is_misdirected : (symtab count : ℕ) → Section → Bool
is_misdirected symtab count s =
    symtab == 0 || (not (s.link == symtab) || (s.info == 0 || not (nat_lt s.info count)))

-- a relocation section that cannot be, or a second one for a section
unfoldable pub is_bad_rela : List ℕ → (i : ℕ) → Section → Bool
is_bad_rela b i s =
    s.sh_type == SHT_RELA
    && (is_uneven s || (is_misdirected (symtab_of b) (section_count b) s || is_relocated_before b i s.info))

-- "Relocation": the header, and the entries if the relocations of the section that it names are read
unfoldable pub rela_checks : List ℕ → ℕ → List Check
rela_checks b i =
    (is_bad_rela b i (section_of b i) says flaw_at BAD_SECTION i (place_of b i))
    ∷ (if relocates b (section_of b i).info i then entries_checks b i else [])

-- the checks of section i
unfoldable pub body_checks : List ℕ → ℕ → List Check
body_checks b i =
    if is_null i (section_of b i).sh_type then []
    else plain_checks b i (section_of b i) ++ (rela_checks b i ++ group_checks b i)

-- the checks of symbol i, after all sections: a function that chooses a function is not defined here; what a COMMON symbol
-- asks for, of which the value is the alignment
unfoldable pub use_checks : List ℕ → ℕ → List Check
use_checks b i = if i == 0 then [] else
    ((symbol_of b i).sort == STT_GNU_IFUNC && not (is_undef (symbol_of b i).place) says flaw_at IFUNC (symtab_of b) (symbol_place b i))
    ∷ (is_common (symbol_of b i).place && is_bad_alignment (symbol_of b i).value says flaw_at BAD_ALIGNMENT (symtab_of b) (symbol_place b i))
    ∷ (is_common (symbol_of b i).place && nat_lt NOBITS_MAX (symbol_of b i).size says flaw_at LIMIT (symtab_of b) (symbol_place b i))
    ∷ []

abbrev pub all_body_checks : List ℕ → List Check
all_body_checks b = from_on (body_checks b) 0 (section_count b)

abbrev pub all_use_checks : List ℕ → List Check
all_use_checks b = from_on (use_checks b) 0 (symbol_count b)
