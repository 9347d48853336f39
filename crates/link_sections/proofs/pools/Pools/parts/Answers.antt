use Rattle.std.proofs.Common.{◌≡◌, None, Some, sym, ap, ◌∙◌}
use Rattle.std.specs.Prelude.{option_map, slice_index_or}
use Rattle.link_sections.specs.PoolViews.{merged_view}
use Rattle.link_sections.specs.Pools.{part_rows}
use Rattle.link_sections.proofs.MergedAt.{merged_is}
use Rattle.link_sections.proofs.pools.Pools.parts.Goals as goal

pub returns-in_default-clause-value : goal.returns-in_default-clause-value
returns-in_default-clause-value c =
    let rows = part_rows c.args.self.now.rows in
    let none : slice_index_or c.args.self.now.merged.items c.args.section None ≡ None = sym c.entry.ensures ∙ c.in_default.is in
    sym (merged_is rows c.args.self.now.merged.items c.args.section ∙ ap (option_map (merged_view rows)) none)

pub returns-clause-value : goal.returns-clause-value
returns-clause-value c =
    let rows = part_rows c.args.self.now.rows in
    let some : slice_index_or c.args.self.now.merged.items c.args.section None ≡ Some c.in-Some.merged = sym c.entry.ensures ∙ c.in-Some.is in
    sym (merged_is rows c.args.self.now.merged.items c.args.section ∙ ap (option_map (merged_view rows)) some ∙ cc)
