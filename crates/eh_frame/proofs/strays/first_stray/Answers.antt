use Rattle.std.proofs.Common.{ℕ, Bool, get_or, length, sym, ◌∙◌, arith, rules, inl, inr, ap}
use Rattle.std.proofs.lemmas.Bool.{cases_eq}
use Rattle.lk_tables.specs.Files.{no_reloc}
use Rattle.lk_tables.proofs.Finding.{first_number, no_number}
use Rattle.eh_frame.specs.RecordChecks.{is_stray}
use Rattle.eh_frame.proofs.strays.first_stray.Goals as goal

pub loop-number-init : goal.loop-number-init
loop-number-init c = λ k lt. absurd (omega (arith, lt))

pub loop-number-preserved : goal.loop-number-preserved
loop-number-preserved c = λ k lt.
    elim (cases_eq k c.loop-number.number) [
      | inl same ↦ ap (λ n. is_stray c.args.bytes.now (get_or c.args.relocs.now n no_reloc)) same ∙ (sym c.is_stray.ensures ∙ c.if-is_stray.false)
      | inr other ↦ c.loop-number.invariant k (omega (arith, lt, other))
    ]

pub returns-then-is_stray-clause-value : goal.returns-then-is_stray-clause-value
returns-then-is_stray-clause-value c =
    let p : ℕ → Bool = λ k. is_stray c.args.bytes.now (get_or c.args.relocs.now k no_reloc) in
    sym (first_number p (length c.args.relocs.now) c.loop-number.number (search rules) c.loop-number.invariant (sym c.is_stray.ensures ∙ c.if-is_stray.true))

pub returns-clause-value : goal.returns-clause-value
returns-clause-value c =
    let p : ℕ → Bool = λ k. is_stray c.args.bytes.now (get_or c.args.relocs.now k no_reloc) in
    sym (no_number p (length c.args.relocs.now) (λ k lt. c.loop-number.invariant k (search (rules, arith))))
