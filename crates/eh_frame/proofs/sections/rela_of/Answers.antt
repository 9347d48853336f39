use Rattle.std.proofs.Common.{length, sym, ◌∙◌, arith, rules, inl, inr, ap}
use Rattle.std.proofs.lemmas.Bool.{cases_eq}
use Rattle.lk_tables.proofs.Finding.{first_number, no_number}
use Rattle.eh_frame.specs.Sections.{is_rela_for}
use Rattle.eh_frame.proofs.sections.rela_of.Goals as goal

pub loop-rela-init : goal.loop-rela-init
loop-rela-init c = λ k lt. absurd (omega (arith, lt))

pub loop-rela-preserved : goal.loop-rela-preserved
loop-rela-preserved c = λ k lt.
    elim (cases_eq k c.loop-rela.rela) [
      | inl same ↦ ap (is_rela_for c.args.sections.now c.args.section) same ∙ (sym c.is_rela_for.ensures ∙ c.if-is_rela_for.false)
      | inr other ↦ c.loop-rela.invariant k (omega (arith, lt, other))
    ]

pub returns-then-is_rela_for : goal.returns-then-is_rela_for
returns-then-is_rela_for c =
    sym (first_number (is_rela_for c.args.sections.now c.args.section) (length c.args.sections.now) c.loop-rela.rela (search rules) c.loop-rela.invariant (sym c.is_rela_for.ensures ∙ c.if-is_rela_for.true))

pub returns : goal.returns
returns c =
    sym (no_number (is_rela_for c.args.sections.now c.args.section) (length c.args.sections.now) (λ k lt. c.loop-rela.invariant k (search (rules, arith))))
