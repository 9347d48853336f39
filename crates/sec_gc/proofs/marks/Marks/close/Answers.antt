use Rattle.std.proofs.Common.{Bool, List, refl, sym, subst}
use Rattle.std.specs.Slots.{slots_items}
use Rattle.link_sections.specs.Edges.{ends_of}
use Rattle.sec_gc.specs.Marks.{MarksView, SeatView, IsClosing}
use Rattle.sec_gc.specs.Rule.{seat_view}
use Rattle.sec_gc.proofs.Closings.{ending, marks_of}
use Rattle.sec_gc.proofs.marks.Marks.close.Goals as goal

pub returns-clause-ok : goal.returns-clause-ok
returns-clause-ok c =
    let shared = c.self.inside.table.shared in
    let m : MarksView = record { table = shared.table_id; roots = shared.key.roots.now; ends = ends_of shared.key.edges.now } in
    let seat = c.seat.inside.seat in
    let s : SeatView = seat_view seat in
    let last = c.close_with-closed.ensures.values.2 in
    let inv = c.seat.invariant in
    let words = slots_items c.close_with-closed.result.words in
    let closed = ending m s seat.me.0 seat.id last.0 words refl refl last.1.0 last.1.1 inv.live last.2 c.self.invariant.rooted in
    let counted : IsClosing m s (marks_of c.self.inside.sections words) = subst (λ n. IsClosing m s (marks_of n words)) c.self.invariant.count closed in
    let marks : List Bool = marks_of c.self.inside.sections words in
    let P : List Bool → Type 0 = λ row. IsClosing c.args.self c.args.seat row in
    let Q : MarksView → Type 0 = λ u. IsClosing u c.args.seat marks in
    let R : SeatView → Type 0 = λ u. IsClosing m u marks in
    subst P (sym c.first_marks-marked.ensures) (subst Q c.self.view_is (subst R c.seat.view_is counted))
