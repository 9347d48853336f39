use Rattle.std.proofs.Common.{sym, subst, ◌∙◌}
use Rattle.lk_base.specs.RelocKinds.{FillsField}
use Rattle.link_sections.specs.LaidOut.{cuts_at}
use Rattle.link_sections.specs.Views.{laid_in}
use Rattle.reloc_apply.proofs.ActingKinds.{acting_fills}
use Rattle.reloc_apply.proofs.scanning.fill_place.Goals as goal

pub patch_bits-requires-clause-value : goal.patch_bits-requires-clause-value
patch_bits-requires-clause-value c =
    subst FillsField (sym c.acting_kind.ensures)
    (acting_fills (cuts_at (laid_in c.args.view.now) c.args.site.section) c.args.reloc.now c.in-Some.ensures.kind (sym c.is_uleb.ensures ∙ c.if-is_uleb.false))
