use Rattle.std.proofs.Common.{ap, ◌∙◌, ◌∷◌, [], ◌++◌}
use Rattle.lk_base.proofs.Loops.{map_step}
use Rattle.eh_frame.specs.declared.sections.Entry.{Entry}
use Rattle.eh_frame.specs.Sections.{entry_at}
use Rattle.eh_frame.proofs.EntryOrder.{entry_is}
use Rattle.eh_frame.proofs.sections.entries_of.Goals as goal

pub loop-number-preserved : goal.loop-number-preserved
loop-number-preserved c =
    let old = c.loop-number.entries.items in
    map_step (entry_at c.args.bytes.now c.args.index) c.loop-number.number old _ c.loop-number.invariant
    (c.in_ok-push.ensures.items
    ∙ ap (λ (e : Entry). old ++ (e ∷ [])) (entry_is c.args.bytes.now c.args.index c.loop-number.number c.xword_at-offset.result c.args.rela.now c.requires.rela c.xword_at-offset.ensures))
