use Rattle.std.proofs.Common.{ℕ, List, map, Some, None, get_or, ap, ◌∙◌, ◌+◌, ◌*◌, ◌/◌, ◌<◌, arith, rules}
use Rattle.std.specs.Prelude.{Err}
use Rattle.lk_base.specs.declared.abi.TheConstants.{RELA_SIZE}
use Rattle.lk_base.specs.declared.kinds.TheConstants.{BAD_RELOC}
use Rattle.lk_tables.specs.declared.heads.Section.{Section}
use Rattle.lk_tables.specs.Checks.{flaw_at}
use Rattle.lk_tables.specs.Files.{no_reloc}
use Rattle.elf_read.specs.declared.relocations.Numbered.{Numbered}
use Rattle.elf_read.specs.Relocations.{extent_of, first_met}
use Rattle.elf_read.proofs.Overlaps.{sorted_reported, number_below}
use Rattle.elf_read.proofs.relocations.check_sorted.Goals as goal
use Rattle.elf_read.proofs.relocations.check_sorted.Goals.{In-Some}

abbrev nothing : Numbered
nothing = record { number = 0; reloc = no_reloc }

pub returns-in_default : goal.returns-in_default
returns-in_default c =
    sorted_reported c.args.file.now.bytes.now c.args.index c.args.entries.now c.args.relocs.now None nothing c.requires.entries c.requires.relocs (c.in_default.ensures.value ∙ ap (λ (cs : List ℕ). first_met 0 0 0 (map (extent_of cs) c.args.relocs.now)) c.requires.contents)

number : (c : In-Some) → (get_or c.args.entries.now c.in-Some.at nothing).number < c.args.rela.now.size / RELA_SIZE
number c =
    let lt = number_below c.args.file.now.bytes.now c.args.index c.args.entries.now c.args.relocs.now c.in-Some.at nothing c.requires.entries c.requires.relocs
    c.in-Some.ensures.within in
    omega (arith, lt, ap (λ (s : Section). s.size) c.requires.rela)

pub overflow_mul-place : goal.overflow_mul-place
overflow_mul-place c = let lt = number c in search (rules, lt)

pub overflow_add-place : goal.overflow_add-place
overflow_add-place c = let lt = number c in search (rules, lt)

pub returns : goal.returns
returns c =
    ap Err (c.flaw.ensures
    ∙ ap (λ (s : Section). flaw_at BAD_RELOC c.args.index (s.offset + RELA_SIZE * (get_or c.args.entries.now c.in-Some.at nothing).number)) c.requires.rela)
    ∙ sorted_reported c.args.file.now.bytes.now c.args.index c.args.entries.now c.args.relocs.now (Some c.in-Some.at) nothing c.requires.entries c.requires.relocs
    (c.in-Some.ensures.value ∙ ap (λ (cs : List ℕ). first_met 0 0 0 (map (extent_of cs) c.args.relocs.now)) c.requires.contents)
