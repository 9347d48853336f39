use Rattle.std.proofs.Common.{◌≡◌, ◌<◌, ℕ, Bool, [], ◌∷◌, ◌++◌, All, List, cond, sym, ap, ◌∙◌, subst, arith}
use Rattle.std.specs.List.{filter, range_with_len}
use Rattle.std.specs.List.Sorted.{IsStrictlyIncreasing}
use Rattle.lk_tables.specs.BindingView.{binding_view}
use Rattle.lk_tables.specs.Files.{section_total}
use Rattle.lk_tables.specs.TablesView.{files_of}
use Rattle.sec_graph.specs.Foldable as spec
use Rattle.sec_graph.specs.Foldable.{foldable}
use Rattle.sec_graph.proofs.FoldOrder.{foldable_rise, foldable_within, passing_more}
use Rattle.sec_graph.proofs.fold_lists.foldable.Goals as goal

pub overflow_cast-section : goal.overflow_cast-section
overflow_cast-section c = omega (arith, c.prove_few.ensures.section_count_is, c.section_count-section-end.ensures, c.loop-section-test.true)

pub loop-section-preserved : goal.loop-section-preserved
loop-section-preserved c =
    let test : ℕ → Bool = spec.is_foldable (files_of c.args.tables.now) (binding_view c.args.binding.now) c.args.kept.now c.args.barred.now in
    let n = c.loop-section.section in
    c.in_ok-push_foldable.ensures ∙ ap (λ l. l ++ cond (test n) (n ∷ []) []) c.loop-section.invariant ∙ sym (passing_more test n)

pub returns-clause-sections : goal.returns-clause-sections
unfolding foldable
returns-clause-sections c =
    let test : ℕ → Bool = spec.is_foldable (files_of c.args.tables.now) (binding_view c.args.binding.now) c.args.kept.now c.args.barred.now in
    let n : c.loop-section.section ≡ section_total (files_of c.args.tables.now) = omega (arith, c.section_count-section-end.ensures) in
    c.loop-section.invariant ∙ ap (λ k. filter test (range_with_len 0 k)) n

pub returns-clause-within : goal.returns-clause-within
unfolding foldable
returns-clause-within c =
    let files = files_of c.args.tables.now in
    let test : ℕ → Bool = spec.is_foldable files (binding_view c.args.binding.now) c.args.kept.now c.args.barred.now in
    let n : c.loop-section.section ≡ section_total files = omega (arith, c.section_count-section-end.ensures) in
    let P : List ℕ → Type 0 = All (λ k. k < section_total files) in
    subst P (sym (c.loop-section.invariant ∙ ap (λ k. filter test (range_with_len 0 k)) n)) (foldable_within files (binding_view c.args.binding.now) c.args.kept.now c.args.barred.now)

pub returns-clause-order : goal.returns-clause-order
unfolding foldable
returns-clause-order c =
    let files = files_of c.args.tables.now in
    let test : ℕ → Bool = spec.is_foldable files (binding_view c.args.binding.now) c.args.kept.now c.args.barred.now in
    let n : c.loop-section.section ≡ section_total files = omega (arith, c.section_count-section-end.ensures) in
    let P : List ℕ → Type 0 = IsStrictlyIncreasing in
    subst P (sym (c.loop-section.invariant ∙ ap (λ k. filter test (range_with_len 0 k)) n)) (foldable_rise files (binding_view c.args.binding.now) c.args.kept.now c.args.barred.now)
