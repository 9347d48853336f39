use Rattle.std.proofs.Common.{sym}
use Rattle.link_sections.specs.Views.{binding_in, files_in, laid_in, leaders_in}
use Rattle.elf_out.specs.TablesView.{tables_if}
use Rattle.elf_out.proofs.Outputs.{bounds_are}
use Rattle.elf_out.proofs.Starting.{headers_are}
use Rattle.elf_out.proofs.segments.headers_before.Goals as goal

pub returns : goal.returns
returns c =
    let v = c.args.view.now in
    headers_are (files_in v) (binding_in v) (leaders_in v) (laid_in v) (tables_if c.args.tables.now) v.layout.now.bounds c.entry_address.result c.args.table
    c.kept_flags.result c.segment_count.result c.section_count.result c.new-out.result.items c.push_executable_header.new.out.items
    c.push_program_headers.new.out.items (sym (bounds_are v)) c.entry_address.ensures c.requires c.kept_flags.ensures
    c.segment_count.ensures.value c.section_count.ensures.value c.new-out.ensures.items
    c.in_ok-push_executable_header.ensures c.in_ok-push_program_headers.ensures
