use Rattle.std.proofs.Common.{ap, length, ◌∙◌, sym, eqb-true}
use Rattle.std.proofs.lemmas.Bool.{eq-eqb}
use Rattle.link_sections.proofs.NoCuts.{no_items, none_together}
use Rattle.link_sections.proofs.sizes.Sizes.is_empty.Goals as goal

pub returns : goal.returns
returns c = (
  λ none section. no_items c.args.self.now.rows section (sym (ap length c.items.ensures) ∙ eqb-true _ 0 none),
  λ each. eq-eqb _ 0 (ap length c.items.ensures ∙ ap length (none_together c.args.self.now.rows each)),
)
