use Rattle.std.proofs.Common.{◌+◌, ◌-◌, ◌≤◌, arith, inl, inr, get_or}
use Rattle.std.proofs.lemmas.Bool.{cases_lt}
use Rattle.lk_tables.specs.Files.{no_reloc}
use Rattle.link_sections.specs.Views.{binding_in, files_in, laid_in, leaders_in}
use Rattle.reloc_apply.specs.Sites.{end_by}
use Rattle.reloc_apply.proofs.ScanSteps.{rise}
use Rattle.reloc_apply.proofs.States.{wide_few}
use Rattle.reloc_apply.proofs.scanning.chain_start.Goals as goal

pub returns-then-offset-limit-clause-clear : goal.returns-then-offset-limit-clause-clear
returns-then-offset-limit-clause-clear c = λ j lt.
    let at = c.args.k - 1 - c.loop-back.back in
    let r = get_or c.args.source.now.relocs.now j no_reloc in
    let far = c.if-offset-limit.true in
    let own = c.offset_of-offset.ensures.value in
    let most = c.loop-back.invariant.most in
    let end : end_by c.args.view.now c.args.source.now r ≤ c.loop-back.limit = elim (cases_lt (j + c.loop-back.back) c.args.k) [
      | inl low ↦
          let up = rise c.args.view.now c.args.source.now c.requires.source j at (omega (arith, low)) (omega (arith, c.requires.reloc)) in
          omega (arith, up, far, own, wide_few (files_in c.args.view.now) (binding_in c.args.view.now) (leaders_in c.args.view.now) (laid_in c.args.view.now) c.args.source.now.site.section r)
      | inr high ↦ c.loop-back.invariant.clear j high lt
    ] in
    omega (arith, end, most)

pub returns-then-offset-limit-clause-own : goal.returns-then-offset-limit-clause-own
returns-then-offset-limit-clause-own c = λ same j lt.
    let at = c.args.k - 1 - c.loop-back.back in
    let r = get_or c.args.source.now.relocs.now j no_reloc in
    let far = c.if-offset-limit.true in
    let own = c.offset_of-offset.ensures.value in
    let start = c.loop-back.invariant.own same in
    elim (cases_lt (j + c.loop-back.back) c.args.k) [
      | inl low ↦
          let up = rise c.args.view.now c.args.source.now c.requires.source j at (omega (arith, low)) (omega (arith, c.requires.reloc)) in
          omega (arith, up, far, own, start, wide_few (files_in c.args.view.now) (binding_in c.args.view.now) (leaders_in c.args.view.now) (laid_in c.args.view.now) c.args.source.now.site.section r)
      | inr high ↦ let end = c.loop-back.invariant.clear j high lt in omega (arith, end, start)
    ]
