use Rattle.std.proofs.Common.{length, sym, ap, ◌∙◌, arith}
use Rattle.std.proofs.lemmas.List.{length-map}
use Rattle.comdat.specs.Comdats.{comdat_view}
use Rattle.comdat.proofs.FewGroups.{few_groups}
use Rattle.comdat.proofs.discarded_sections.prove_few_groups.Goals as goal

pub returns : goal.returns
returns c =
    let count = length-map c.args.groups.now.items comdat_view in
    let same = ap length c.requires in
    omega (arith, count, same, few_groups c.args.tables.now, c.prove_few.ensures.section_count_is)
