use Rattle.std.proofs.Common.{◌+◌, ◌*◌, ◌++◌, [], ◌∷◌, ap, ◌∙◌}
use Rattle.lk_base.proofs.Loops.{map_step}
use Rattle.lk_base.specs.declared.abi.TheConstants.{WORD_SIZE}
use Rattle.lk_tables.specs.declared.heads.Section.{Section}
use Rattle.lk_tables.specs.Groups.{member}
use Rattle.lk_tables.specs.Numbers.{word_at}
use Rattle.elf_read.proofs.groups.read_members.Goals as goal

pub loop-number-preserved : goal.loop-number-preserved
loop-number-preserved c =
    let b = c.args.file.now.bytes.now in
    let n = c.loop-number.number in
    let read = c.word_at.ensures ∙ ap (λ (s : Section). word_at b (s.offset + WORD_SIZE * (n + 1))) c.requires.section in
    map_step (member b c.args.index) n _ _ c.loop-number.invariant
    (c.in_ok-push.ensures.items ∙ ap (λ m. c.loop-number.members.items ++ (m ∷ [])) read)
