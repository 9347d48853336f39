use Rattle.std.proofs.Common.{rules, arith, ◌≡◌, subst, sym}
use Rattle.link_sections.specs.Edges.{ends_of}
use Rattle.lk_tables.specs.Reach.{IsReached}
use Rattle.sec_gc.specs.Marks.{MarksView, SeatView, MayMark, times}
use Rattle.sec_gc.proofs.Keeps.{may_inside, swap_keeps, seated_swapped}
use Rattle.sec_gc.proofs.marks.Marks.set.Goals as goal

pub swap-requires : goal.swap-requires
swap-requires c =
    let key = c.self.inside.table.shared.key in
    let inv = c.self.invariant in
    let wide = inv.wide in
    let count = inv.count in
    let old = c.args.seat.now in
    let sits = c.requires.seat in
    let of_marks = subst (λ e. MayMark c.args.self.now.roots e old.seen c.args.section) sits.ends (subst (λ l. MayMark l old.ends old.seen c.args.section) sits.roots c.requires.may) in
    let of_key = subst (λ (m : MarksView). MayMark m.roots m.ends old.seen c.args.section) (sym c.self.view_is) of_marks in
    let low = may_inside key.roots.now (ends_of key.edges.now) old.seen c.args.section inv.rooted key.edges.now.within of_key in
    let may = subst (λ (s : SeatView). MayMark s.roots s.ends s.seen c.args.section) (sym c.seat.view_is) c.requires.may in
    (search rules, omega arith, swap_keeps key.roots.now (ends_of key.edges.now) _ _ c.args.section _ low c.seat.invariant.live may)

pub invariant_of-seat : goal.invariant_of-seat
invariant_of-seat c = seated_swapped _ c.args.section c.seat.inside.seat.me _ c.swap.result c.seat.invariant c.swap.ensures.2

pub returns-clause-once : goal.returns-clause-once
returns-clause-once c = subst (λ (s : SeatView). c.swap.result ≡ 0 → times c.args.section s.won ≡ 0) c.seat.view_is c.swap.ensures.2.once

pub returns-clause-within : goal.returns-clause-within
returns-clause-within c = subst (λ (s : SeatView). IsReached s.roots s.ends c.args.section) c.seat.view_is c.swap.ensures.2.within
