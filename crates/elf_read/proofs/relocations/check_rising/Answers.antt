use Rattle.std.proofs.Common.{ℕ, List, map, Some, None, ap, ◌∙◌, ◌+◌, ◌*◌}
use Rattle.std.specs.Prelude.{Err}
use Rattle.lk_base.specs.declared.abi.TheConstants.{RELA_SIZE}
use Rattle.lk_base.specs.declared.kinds.TheConstants.{BAD_RELOC}
use Rattle.lk_tables.specs.declared.heads.Section.{Section}
use Rattle.lk_tables.specs.Checks.{flaw_at}
use Rattle.elf_read.specs.Relocations.{extent_of, first_met}
use Rattle.elf_read.proofs.Overlaps.{rising_reported}
use Rattle.elf_read.proofs.relocations.check_rising.Goals as goal

pub returns-in_default : goal.returns-in_default
returns-in_default c =
    rising_reported c.args.file.now.bytes.now c.args.index c.args.relocs.now None c.requires.relocs c.requires.rising (c.in_default.ensures.value ∙ ap (λ (cs : List ℕ). first_met 0 0 0 (map (extent_of cs) c.args.relocs.now)) c.requires.contents)

pub returns : goal.returns
returns c =
    ap Err (c.flaw.ensures ∙ ap (λ (s : Section). flaw_at BAD_RELOC c.args.index (s.offset + RELA_SIZE * c.in-Some.number)) c.requires.rela)
    ∙ rising_reported c.args.file.now.bytes.now c.args.index c.args.relocs.now (Some c.in-Some.number) c.requires.relocs c.requires.rising (c.in-Some.ensures.value ∙ ap (λ (cs : List ℕ). first_met 0 0 0 (map (extent_of cs) c.args.relocs.now)) c.requires.contents)
