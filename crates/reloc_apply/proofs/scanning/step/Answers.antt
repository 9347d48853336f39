use Rattle.std.proofs.Common.{◌≡◌, ℕ, ◌+◌, ◌-◌, ◌≤◌, ◌++◌, ◌∙◌, ap, sym, subst, arith, get_or, take, drop, List, slice_index, pos, ℤ}
use Rattle.std.specs.Int.{w128}
use Rattle.std.proofs.lemmas.Int.{to_z-of_z}
use Rattle.lk_base.specs.RelocKinds.{is_uleb}
use Rattle.lk_base.specs.declared.abi.TheConstants.{R_RISCV_RELAX}
use Rattle.std.proofs.lemmas.Bool.{eqb-true}
use Rattle.lk_tables.specs.Files.{no_reloc}
use Rattle.link_sections.specs.Views.{binding_in, files_in, laid_in, leaders_in}
use Rattle.rv_code.specs.Places.{number_of}
use Rattle.reloc_apply.specs.Relocated.{filled, operand, put}
use Rattle.reloc_apply.specs.Sites.{IsFresh, offset_by, width_by}
use Rattle.reloc_apply.proofs.HintValues.{hint_put, hint_width, none_over}
use Rattle.reloc_apply.specs.Values.{value_of}
use Rattle.reloc_apply.proofs.ScanSteps.{first_is, fits_at}
use Rattle.reloc_apply.proofs.States.{fill, kind_at, operand_same, plain_few, wide_few, width_of}
use Rattle.reloc_apply.proofs.WindowSteps.{window_put}
use Rattle.reloc_apply.proofs.scanning.step.Goals as goal

pub returns-clause-bytes : goal.returns-clause-bytes
returns-clause-bytes c = λ state shows fresh long j lt.
    let view = c.args.view.now in
    let files = files_in view in
    let b = binding_in view in
    let leaders = leaders_in view in
    let laid = laid_in view in
    let s = c.args.source.now in
    let n = s.site.section in
    let r = get_or s.relocs.now c.args.k no_reloc in
    let p = get_or s.relocs.now (c.args.k - 1) no_reloc in
    let P : List ℕ → Type 0 = λ xs. IsFresh xs state (c.args.at + 10) in
    let at = c.offset_of-offset.ensures.value in
    let held = c.slide.ensures state shows (subst P (first_is view s c.requires.source) fresh) in
    let few = wide_few files b leaders laid n r in
    let fits = fits_at view s c.requires.source c.args.k c.requires.reloc in
    let window = c.slide.new.window in
    let w = width_of files b leaders laid n r in
    let wide : c.width_in-width.result ≡ w = c.width_in-width.ensures.value in
    let stands : ℤ = pos (number_of (take w window)) in
    let number : c.operand-number.result ≡ operand files b leaders laid n p r stands =
    c.operand-number.ensures.value
    ∙ operand_same files b leaders laid n p r (pos c.held_in-held.result) stands (λ plain.
    let short : c.width_in-width.result ≤ 8 = omega (arith, wide, plain_few files b leaders laid n r plain) in
    ap pos (c.held_in-held.ensures short ∙ ap (λ k. number_of (take k window)) wide)) in
    let new : c.put_in.new.window ≡ fill files b leaders laid n p r stands (take w window) ++ drop w window =
    c.put_in.ensures
    ∙ ap (λ v. filled (is_uleb r.kind) (kind_at files b leaders laid n r) (value_of files b leaders laid n r v) (take c.width_in-width.result window) ++ drop c.width_in-width.result window)
    (to_z-of_z w128 c.operand-number.result (record { sfits = c.operand-number.type_inv }))
    ∙ ap (λ k. filled (is_uleb r.kind) (kind_at files b leaders laid n r) (value_of files b leaders laid n r c.operand-number.result) (take k window) ++ drop k window) wide
    ∙ ap (λ v. filled (is_uleb r.kind) (kind_at files b leaders laid n r) (value_of files b leaders laid n r v) (take w window) ++ drop w window) number in
    window_put files b leaders laid n p r state window c.put_in.new.window few (omega (arith, c.slide.auto.window, c.requires.window))
    (omega (arith, fits, long))
    (λ i less. held i (omega (arith, less, c.slide.auto.window, c.requires.window)) ∙ ap (λ q. slice_index state (q + i)) at)
    new j (omega (arith, lt, c.put_in.auto.window, c.slide.auto.window, c.requires.window))
    ∙ ap (λ q. slice_index (put files b leaders laid n p r state) (q + j)) (sym at)

pub returns-then-is_hint-clause-bytes : goal.returns-then-is_hint-clause-bytes
returns-then-is_hint-clause-bytes c = λ state shows fresh long j lt.
    let view = c.args.view.now in
    let s = c.args.source.now in
    let n = s.site.section in
    let r = get_or s.relocs.now c.args.k no_reloc in
    let p = get_or s.relocs.now (c.args.k - 1) no_reloc in
    let P : List ℕ → Type 0 = λ xs. IsFresh xs state (c.args.at + 10) in
    let held = c.slide.ensures state shows (subst P (first_is view s c.requires.source) fresh) in
    let hint : r.kind ≡ R_RISCV_RELAX = eqb-true r.kind R_RISCV_RELAX (sym c.is_hint.ensures ∙ c.if-is_hint.true) in
    held j lt ∙ ap (λ l. slice_index l (c.offset_of-offset.result + j)) (sym (hint_put (files_in view) (binding_in view) (leaders_in view) (laid_in view) n r hint p state))

pub returns-then-is_hint-clause-over : goal.returns-then-is_hint-clause-over
returns-then-is_hint-clause-over c = λ i lt.
    let view = c.args.view.now in
    let s = c.args.source.now in
    let n = s.site.section in
    let r = get_or s.relocs.now c.args.k no_reloc in
    let hint : r.kind ≡ R_RISCV_RELAX = eqb-true r.kind R_RISCV_RELAX (sym c.is_hint.ensures ∙ c.if-is_hint.true) in
    let none = hint_width (files_in view) (binding_in view) (leaders_in view) (laid_in view) n r hint in
    sym (none_over (s.at + offset_by view s r) (width_by view s r) (slice_index c.args.block.now i) (c.args.from + i) c.slide.new.window none)
