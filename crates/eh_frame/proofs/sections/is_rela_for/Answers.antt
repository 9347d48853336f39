use Rattle.std.proofs.Common.{arith}
use Rattle.lk_tables.specs.Files.{no_section}
use Rattle.eh_frame.proofs.StrayChecks.{first_is_none, is_rela_from}
use Rattle.eh_frame.proofs.sections.is_rela_for.Goals as goal

pub returns-then-rela-eq0 : goal.returns-then-rela-eq0
returns-then-rela-eq0 c = first_is_none c.args.sections.now c.args.section c.args.rela c.if-rela-eq0.true

pub returns : goal.returns
returns c =
    is_rela_from c.args.sections.now c.args.section c.args.rela c.is_rela.result c.section_at.result (omega (arith, c.if-rela-eq0.false)) (c.section_at.ensures no_section) c.is_rela.ensures
