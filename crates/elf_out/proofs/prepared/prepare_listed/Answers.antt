use Rattle.std.proofs.Common.{◌∙◌, ap, arith, length, map, refl, sym}
use Rattle.link_sections.specs.LaidOut.{output_view}
use Rattle.elf_out.specs.Headers.{section_names}
use Rattle.elf_out.specs.TablesView.{tables_if}
use Rattle.elf_out.proofs.Outputs.{few_outputs, names_are, outputs_are}
use Rattle.elf_out.proofs.Preparing.{prepared_is}
use Rattle.elf_out.proofs.prepared.prepare_listed.Goals as goal

pub header_table-requires-clause-names : goal.header_table-requires-clause-names
header_table-requires-clause-names g c =
    let t = tables_if c.in_ok-tables.tables in
    c.in_ok-ends.ensures.names_size ∙ ap length (names_are c.args.view.now t)
    ∙ ap (λ xs. length (section_names (map output_view xs) t)) (sym c.as_slice-outputs.ensures.value)

pub header_table-requires-clause-few : goal.header_table-requires-clause-few
header_table-requires-clause-few g c = omega (arith, ap length c.as_slice-outputs.ensures.value, few_outputs c.args.view.now)

pub returns : goal.returns
returns g c =
    prepared_is c.args.view.now _ (tables_if c.in_ok-tables.tables) (map output_view c.as_slice-outputs.result.now) c.in_ok-tables.ensures refl
    c.in_ok-ends.ensures (ap (λ xs. map output_view xs) c.as_slice-outputs.ensures.value ∙ sym (outputs_are c.args.view.now)) c.in_ok-headers.ensures
    c.in_ok-names.ensures c.in_ok-headers_of_sections.ensures
