use Rattle.std.proofs.Common.{rules, ◌∙◌, true, get_or}
use Rattle.std.proofs.lemmas.List.{length-set}
use Rattle.elf_read.proofs.GroupLists.{mark_step, mark_end}
use Rattle.elf_read.proofs.groups.mark.Goals as goal

pub loop-number-preserved : goal.loop-number-preserved
loop-number-preserved c = record {
  len = length-set c.loop-number.taken (get_or c.args.members.now c.loop-number.number 0) true ∙ c.loop-number.invariant.len;
  rest = mark_step c.loop-number.taken c.args.members.now c.loop-number.number _ (search rules) c.loop-number.invariant.rest;
}

pub returns : goal.returns
returns c = mark_end c.loop-number.taken c.args.members.now c.loop-number.number _ (search rules) c.loop-number.invariant.rest
