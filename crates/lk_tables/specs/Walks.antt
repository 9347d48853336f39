-- Lists over the sections, and over the relocations, of the files that take part in a link: in order of file, section and offset.
use Rattle.std.specs.Prelude.{ℕ, if◌then◌else◌, List, [], length, flat_map}
use Rattle.std.specs.List.{range_with_len}
use Rattle.lk_base.specs.declared.defects.Defect.{Defect}
use Rattle.lk_base.specs.declared.kinds.DefectKind.{DefectKind}
use Rattle.lk_tables.specs.declared.objects.Reloc.{Reloc}
use Rattle.lk_tables.specs.Files.{File, file_at, relocs_at}

-- what is given for each section of file f, if it is live
unfoldable pub over_file : {X : Type 0} → List File → (ℕ → ℕ → List X) → ℕ → List X
over_file files give f = if (file_at files f).live
    then flat_map (give f) (range_with_len 0 (length (file_at files f).head.sections)) else []

-- of all live files
unfoldable pub over_live : {X : Type 0} → List File → (ℕ → ℕ → List X) → List X
over_live files give = flat_map (over_file files give) (range_with_len 0 (length files))

-- what is given for each relocation of section k of file f; a section that is not read has none
abbrev pub over_section : {X : Type 0} → List File → (ℕ → ℕ → Reloc → List X) → (f k : ℕ) → List X
over_section files give f k = flat_map (give f k) (relocs_at (file_at files f) k)

abbrev pub over_relocs : {X : Type 0} → List File → (ℕ → ℕ → Reloc → List X) → List X
over_relocs files give = over_live files (over_section files give)

-- a defect of relocation r of section k of file f
abbrev pub reloc_defect : DefectKind → (f k : ℕ) → Reloc → (other : ℕ) → Defect
reloc_defect kind f k r other = record { kind = kind; file = f; section = k; place = r.offset; symbol = r.symbol; other = other }
