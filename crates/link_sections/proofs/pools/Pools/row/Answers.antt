use Rattle.std.proofs.Common.{List, sym, subst, ap}
use Rattle.std.specs.Prelude.{All}
use Rattle.link_sections.specs.declared.pieces.Part.{Part}
use Rattle.link_sections.specs.Pools.{AreInOrder, part_rows}
use Rattle.link_sections.proofs.MergedAt.{parts_in}
use Rattle.link_sections.proofs.pools.Pools.row.Goals as goal

pub returns-in-Some-clause-ordered : goal.returns-in-Some-clause-ordered
returns-in-Some-clause-ordered c =
    let P : List Part → Type 0 = AreInOrder in
    let Q : List (List Part) → Type 0 = All AreInOrder in
    let all : Q c.in-Some.rows.parts = subst Q (ap part_rows c.in-Some.is) c.args.self.now.ordered in
    subst P (sym c.row.ensures) (parts_in c.in-Some.rows.parts c.args.row all)
