use Rattle.std.proofs.Common.{map, sym, ◌∙◌, rules}
use Rattle.std.proofs.lemmas.Bool.{cond-true, cond-false}
use Rattle.std.proofs.lemmas.List.{at_drop_all}
use Rattle.lk_tables.specs.Files.{no_reloc}
use Rattle.elf_read.specs.Relocations.{extent_of, first_met}
use Rattle.elf_read.proofs.Overlaps.{first_more}
use Rattle.elf_read.proofs.relocations.first_overlap.Goals as goal

pub returns-then-is_met-clause-value : goal.returns-then-is_met-clause-value
returns-then-is_met-clause-value c =
    let met = rw c.extent_of-extent.ensures at (sym c.is_met.ensures ∙ c.if-is_met.true) in
    sym (cond-true _ _ _ met) ∙ sym (first_more c.args.contents.now c.loop-at.moving_end c.loop-at.end c.loop-at.at c.args.relocs.now no_reloc (search rules))
    ∙ c.loop-at.invariant

pub loop-at-preserved : goal.loop-at-preserved
loop-at-preserved c =
    let unmet = rw c.extent_of-extent.ensures at (sym c.is_met.ensures ∙ c.if-is_met.false) in
    rw (c.later_moving_end-moving_end.ensures, c.later_end-end.ensures, c.extent_of-extent.ensures)
    (sym (first_more c.args.contents.now c.loop-at.moving_end c.loop-at.end c.loop-at.at c.args.relocs.now no_reloc (search rules) ∙ cond-false _ _ _ unmet) ∙ c.loop-at.invariant)

pub returns-clause-value : goal.returns-clause-value
unfolding first_met
returns-clause-value c =
    sym (at_drop_all (λ rs. first_met c.loop-at.moving_end c.loop-at.end c.loop-at.at (map (extent_of c.args.contents.now) rs)) c.args.relocs.now c.loop-at.at (search rules))
    ∙ c.loop-at.invariant
