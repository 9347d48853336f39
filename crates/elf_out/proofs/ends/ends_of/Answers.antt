use Rattle.std.proofs.Common.{◌+◌, ◌-◌, ap, map, length, refl, arith, ◌∙◌, sym}
use Rattle.std.proofs.lemmas.List.{length-map}
use Rattle.lk_base.specs.declared.abi.TheConstants.{IMAGE_BASE}
use Rattle.link_sections.specs.declared.layouts.Bounds.{Bounds}
use Rattle.link_sections.specs.LaidOut.{output_view}
use Rattle.link_sections.specs.Views.{laid_in}
use Rattle.elf_out.specs.TablesView.{tables_if}
use Rattle.elf_out.proofs.EndSteps.{ends_are}
use Rattle.elf_out.proofs.Outputs.{bounds_are, few_outputs, low_end, outputs_are}
use Rattle.elf_out.proofs.ends.ends_of.Goals as goal

pub returns : goal.returns
returns c =
    let v = c.args.view.now in
    let outputs = c.as_slice-outputs.result.now in
    let same = c.as_slice-outputs.ensures.value in
    let few = few_outputs v in
    ends_are (laid_in v) (tables_if c.args.tables.now) (map output_view outputs) c.offset_of-last.result c.up-symbols_at.result c.in_ok-names_at.names_at
    c.in_ok-names_size.names_size c.up-table_at.result (length outputs + c.table_count.result + 2) _
    (ap (map output_view) same ∙ sym (outputs_are v)) (c.offset_of-last.ensures ∙ ap (λ (b : Bounds). b.file_end - IMAGE_BASE) (sym (bounds_are v)))
    (omega (arith, c.offset_of-last.ensures, low_end v)) c.up-symbols_at.ensures.value c.in_ok-names_at.ensures.value c.in_ok-names_at.ensures.small
    c.in_ok-names_size.ensures.value c.in_ok-names_size.ensures.small c.up-table_at.ensures.value
    (omega (arith, c.table_count.ensures.value, length-map outputs output_view)) (omega (arith, few, ap length same, length-map outputs output_view))
    (omega (arith, c.table_count.ensures.value, c.table_count.ensures.most)) refl refl refl refl refl
