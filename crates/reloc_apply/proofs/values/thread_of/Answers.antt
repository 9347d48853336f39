use Rattle.std.proofs.Common.{◌≡◌, ◌∙◌, ap, sym, false, pos, ◌+ℤ◌, ◌-ℤ◌, rules}
use Rattle.std.specs.Prelude.{if◌then◌else◌}
use Rattle.link_sections.specs.declared.targets.Target.{Target}
use Rattle.link_sections.specs.Addresses.{target_address}
use Rattle.link_sections.specs.LaidOut.{layout_view, with_contents}
use Rattle.link_sections.specs.Views.{binding_in, files_in, laid_in, leaders_in}
use Rattle.reloc_apply.specs.Values.{addend_of, is_zero, sum_of, target_in, thread_of}
use Rattle.reloc_apply.proofs.values.thread_of.Goals as goal

pub returns : goal.returns
unfolding thread_of sum_of layout_view with_contents
returns c =
    let view = c.args.view.now in
    let files = files_in view in
    let b = binding_in view in
    let leaders = leaders_in view in
    let laid = laid_in view in
    let r = c.args.reloc.now in
    let n = c.args.site.section in
    let off : is_zero (target_in files b leaders laid n r) ≡ false = ap is_zero (sym c.target_of-target.ensures) ∙ sym c.is_zero.ensures ∙ c.if-is_zero.false in
    let same : c.target_sum.result -ℤ pos view.layout.now.bounds.tls_start ≡ thread_of files b leaders laid n r =
    ap (λ x. x -ℤ pos view.layout.now.bounds.tls_start) (c.target_sum.ensures.value ∙ ap (λ (t : Target). pos (target_address files b leaders laid t) +ℤ addend_of t r) c.target_of-target.ensures)
    ∙ sym (ap (λ d. if d then r.addend else sum_of files b leaders laid n r -ℤ pos view.layout.now.bounds.tls_start) off) in
    search (rules, same)
