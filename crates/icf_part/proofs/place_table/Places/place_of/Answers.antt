use Rattle.std.proofs.Common.{◌≡◌, ℕ, List, get_or, length, sym, ap, ◌∙◌, subst}
use Rattle.std.specs.List.Sorted.{IsStrictlyIncreasing}
use Rattle.icf_part.specs.PlaceTables.{place_in_table}
use Rattle.icf_part.specs.Signatures.{place_of}
use Rattle.icf_part.proofs.TablePlaces.{table_tells}
use Rattle.icf_part.proofs.place_table.Places.place_of.Goals as goal

pub returns : goal.returns
returns c =
    let fields = c.self.inside in
    let order = subst IsStrictlyIncreasing (sym c.self.view_is) c.requires in
    c.place_of_entry.ensures
    ∙ ap place_in_table (c.number_at.ensures ∙ ap (λ l. get_or l c.args.section 0) c.as_slice.ensures.value)
    ∙ table_tells (length fields.table.items) fields.sections.items fields.table.items c.args.section order c.self.invariant
    ∙ ap (λ l. place_of l c.args.section) c.self.view_is
