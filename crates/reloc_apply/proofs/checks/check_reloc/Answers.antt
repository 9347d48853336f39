use Rattle.std.proofs.Common.{◌≡◌, ◌-◌, ◌∙◌, ℤ, Option, get_or, subst, sym}
use Rattle.std.specs.Prelude.{IfSome}
use Rattle.std.proofs.lemmas.Bool.{eqb-true}
use Rattle.lk_base.specs.RelocKinds.{HasValue}
use Rattle.lk_base.specs.declared.abi.TheConstants.{R_RISCV_RELAX}
use Rattle.link_sections.specs.Views.{binding_in, files_in, laid_in, leaders_in}
use Rattle.reloc_apply.proofs.HintValues.{hint_defects}
use Rattle.reloc_apply.proofs.EveryValues.{every_defects}
use Rattle.lk_tables.specs.Files.{no_reloc}
use Rattle.reloc_apply.proofs.checks.check_reloc.Goals as goal

pub fits_place-requires-clause-kind : goal.fits_place-requires-clause-kind
fits_place-requires-clause-kind c =
    let P : Option ℤ → Type 0 = λ o. IfSome o (λ _. HasValue (get_or c.args.relocs.now c.args.k no_reloc).kind) in
    subst P c.in-Some.is c.in-Ok.ensures.kind

pub returns-then-is_hint : goal.returns-then-is_hint
returns-then-is_hint c =
    let v = c.args.view.now in
    let r = get_or c.args.relocs.now c.args.k no_reloc in
    let hint : r.kind ≡ R_RISCV_RELAX = eqb-true r.kind R_RISCV_RELAX (sym c.is_hint.ensures ∙ c.if-is_hint.true) in
    hint_defects (files_in v) (binding_in v) (leaders_in v) (laid_in v) c.args.site.section r hint (get_or c.args.relocs.now (c.args.k - 1) no_reloc)

pub returns-then-takes_every : goal.returns-then-takes_every
returns-then-takes_every c =
    let v = c.args.view.now in
    let r = get_or c.args.relocs.now c.args.k no_reloc in
    every_defects (files_in v) (binding_in v) (leaders_in v) (laid_in v) c.args.site.section r (sym c.takes_every.ensures ∙ c.if-takes_every.true) (get_or c.args.relocs.now (c.args.k - 1) no_reloc)
