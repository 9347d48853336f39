use Rattle.std.proofs.Common.{◌+◌, arith, length, map}
use Rattle.std.proofs.lemmas.List.{length-map}
use Rattle.link_sections.specs.LaidOut.{output_view}
use Rattle.elf_out.specs.TablesView.{tables_if}
use Rattle.elf_out.proofs.NameSteps.{names_shorter, table_is}
use Rattle.elf_out.proofs.sections.header_table.Goals as goal

pub push_output_headers-requires : goal.push_output_headers-requires
push_output_headers-requires c = omega (arith, c.requires.names, c.requires.room, names_shorter (map output_view c.args.outputs.now) (tables_if c.args.tables.now))

pub push_table_headers-requires-clause-name : goal.push_table_headers-requires-clause-name
push_table_headers-requires-clause-name c =
    omega (arith, c.requires.names, c.requires.room, c.in_ok-name.ensures.next, names_shorter (map output_view c.args.outputs.now) (tables_if c.args.tables.now))

pub returns : goal.returns
returns c =
    table_is (map output_view c.args.outputs.now) (tables_if c.args.tables.now) c.args.at c.args.offset c.args.size (length c.args.outputs.now + 2) c.in_ok-name.name c.in_ok-own.own
    c.new-out.result.items c.push_section_header.new.out.items c.push_output_headers.new.out.items c.push_table_headers.new.out.items
    c.push_section_header-2.new.out.items c.strings_section.result c.new-out.ensures.items
    c.in_ok-push_section_header.ensures c.in_ok-name.ensures.written c.in_ok-name.ensures.next
    (omega (arith, length-map c.args.outputs.now output_view)) c.in_ok-own.ensures.written c.in_ok-own.ensures.next c.requires.names
    c.strings_section.ensures c.in_ok-push_section_header-2.ensures
