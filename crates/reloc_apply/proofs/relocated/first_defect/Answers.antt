use Rattle.std.proofs.Common.{◌+◌, Option, arith, sym, subst}
use Rattle.link_sections.specs.Views.{binding_in, files_in, laid_in, leaders_in}
use Rattle.reloc_apply.specs.declared.founds.Found.{Found}
use Rattle.reloc_apply.proofs.FoundSteps.{IsLeast, least_next, least_none, least_some, least_start}
use Rattle.reloc_apply.proofs.SoundLists.{all_sound}
use Rattle.reloc_apply.proofs.relocated.first_defect.Goals as goal

pub loop-k-init : goal.loop-k-init
loop-k-init c =
    let view = c.args.view.now in
    least_start (files_in view) (binding_in view) (leaders_in view) (laid_in view) view.sound (all_sound view.tables.now) c.args.from c.args.len c.members_past-k.result
    c.members_past-k.ensures.before

pub loop-k-preserved : goal.loop-k-preserved
loop-k-preserved c =
    let view = c.args.view.now in
    let P : Option Found → Type 0 = IsLeast (files_in view) (binding_in view) (leaders_in view) (laid_in view) c.args.from c.args.len (c.loop-k.k + 1) in
    subst P (sym c.earlier-least.ensures)
    (least_next (files_in view) (binding_in view) (leaders_in view) (laid_in view) view.sound (all_sound view.tables.now) c.args.from c.args.len c.loop-k.k
    c.loop-k.least c.found_in.result (omega (arith, c.members_before-last.ensures.bound)) c.loop-k.invariant c.found_in.ensures)

pub returns-in-Some : goal.returns-in-Some
returns-in-Some c =
    let view = c.args.view.now in
    let P : Option Found → Type 0 = IsLeast (files_in view) (binding_in view) (leaders_in view) (laid_in view) c.args.from c.args.len c.loop-k.k in
    least_some (files_in view) (binding_in view) (leaders_in view) (laid_in view) view.sound (all_sound view.tables.now) c.args.from c.args.len c.loop-k.k c.in-Some.found
    (subst P c.in-Some.is c.loop-k.invariant) (λ j le lt. c.members_before-last.ensures.after j (omega (arith, le)) lt)

pub returns-in-None : goal.returns-in-None
returns-in-None c =
    let view = c.args.view.now in
    let P : Option Found → Type 0 = IsLeast (files_in view) (binding_in view) (leaders_in view) (laid_in view) c.args.from c.args.len c.loop-k.k in
    least_none (files_in view) (binding_in view) (leaders_in view) (laid_in view) view.sound (all_sound view.tables.now) c.args.from c.args.len c.loop-k.k
    (subst P c.in-None.is c.loop-k.invariant) (λ j le lt. c.members_before-last.ensures.after j (omega (arith, le)) lt)
