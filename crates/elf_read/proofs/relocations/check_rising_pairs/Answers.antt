use Rattle.std.proofs.Common.{Some, None, ap, ◌∙◌, ◌+◌, ◌*◌}
use Rattle.std.specs.Prelude.{Err}
use Rattle.lk_base.specs.declared.abi.TheConstants.{RELA_SIZE}
use Rattle.lk_base.specs.declared.kinds.TheConstants.{BAD_ULEB}
use Rattle.lk_tables.specs.declared.heads.Section.{Section}
use Rattle.lk_tables.specs.Checks.{flaw_at}
use Rattle.elf_read.proofs.Overlaps.{rising_pairs}
use Rattle.elf_read.proofs.relocations.check_rising_pairs.Goals as goal

pub returns-in_default : goal.returns-in_default
returns-in_default c =
    rising_pairs c.args.file.now.bytes.now c.args.index c.args.relocs.now None c.requires.relocs c.requires.rising c.in_default.ensures.value

pub returns : goal.returns
returns c =
    ap Err (c.flaw.ensures ∙ ap (λ (s : Section). flaw_at BAD_ULEB c.args.index (s.offset + RELA_SIZE * c.in-Some.number)) c.requires.rela)
    ∙ rising_pairs c.args.file.now.bytes.now c.args.index c.args.relocs.now (Some c.in-Some.number) c.requires.relocs c.requires.rising c.in-Some.ensures.value
