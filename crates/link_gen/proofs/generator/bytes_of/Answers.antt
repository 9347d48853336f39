use Rattle.std.proofs.Common.{◌≡◌, ◌+◌, length, sym, ap}
use Rattle.std.proofs.lemmas.List.{length-map}
use Rattle.link_gen.specs.Contents.{section_view, sections_in}
use Rattle.link_gen.proofs.Whole.{whole}
use Rattle.link_gen.proofs.generator.bytes_of.Goals as goal

pub returns : goal.returns
returns c =
    let count : 1 + length c.args.object.now.sections.now ≡ 1 + length (sections_in c.args.object.now) =
    ap (λ n. 1 + n) (sym (length-map c.args.object.now.sections.now (section_view c.args.object.now))) in
    whole 5 c.table_offset-table.result (1 + length c.args.object.now.sections.now) (sections_in c.args.object.now) c.in_ok-out.out.items
    c.push_object_header.new.out.items c.push_laid.new.out.items c.push_zeros.new.out.items c.push_section_headers.new.out.items
    c.in_ok-out.ensures.items c.table_offset-table.ensures.value count c.in_ok-push_object_header.ensures c.in_ok-push_laid.ensures
    c.in_ok-push_zeros.ensures c.in_ok-push_section_headers.ensures
