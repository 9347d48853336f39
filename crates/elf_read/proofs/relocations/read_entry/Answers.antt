use Rattle.std.proofs.Common.{◌≡◌, ◌≤◌, ◌∙◌, true, length, drop, ap, sym, arith}
use Rattle.std.specs.Prelude.{is_some}
use Rattle.std.proofs.lemmas.List.{length-take}
use Rattle.lk_tables.specs.declared.heads.Section.{Section}
use Rattle.lk_tables.specs.Relocations.{relocated_section, width_of}
use Rattle.lk_tables.proofs.Widths.{end_inside}
use Rattle.elf_read.proofs.relocations.read_entry.Goals as goal

pub returns-clause-end : goal.returns-clause-end
returns-clause-end c =
    let b = c.args.file.now.bytes.now in
    let r = c.reloc_at-reloc.result in
    let contents = c.args.contents.now in
    let target = relocated_section b c.args.index in
    let kind : is_some (width_of contents r) ≡ true = sym c.has_end.ensures ∙ c.if-not-has_end.false in
    let fits = c.is_past_target.ensures.fits c.if-is_past_target.false in
    let small = c.is_past_target.ensures.small c.if-is_past_target.false in
    let short : length contents ≤ c.args.target.now.size =
    omega (arith, ap length c.requires.contents, length-take target.size (drop target.offset b), ap (λ (s : Section). s.size) c.requires.target) in
    omega (arith, end_inside contents r c.args.target.now.size short kind fits, small)

pub has_end-requires : goal.has_end-requires
has_end-requires c = c.is_bad_kind.ensures.linked c.if-is_bad_kind.false
