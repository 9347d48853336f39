use Rattle.std.proofs.Common.{◌∙◌, ap, sym}
use Rattle.link_sections.specs.declared.members.Member.{Member}
use Rattle.reloc_apply.specs.Founds.{no_member}
use Rattle.reloc_apply.proofs.relocated.section_in.Goals as goal

pub with_bits-requires : goal.with_bits-requires
with_bits-requires c =
    let is = ap (λ (m : Member). m.content) (sym c.member_at.ensures) ∙ c.in-Section.is in
    (c.args.view.now.sound.sections c.args.k no_member c.requires c.in-Section.section is).number
