use Rattle.std.proofs.Common.{rules, arith, ◌≡◌, ap, length, subst, Contains}
use Rattle.link_sections.specs.Edges.{ends_of}
use Rattle.lk_tables.specs.Reach.{IsReached}
use Rattle.sec_gc.specs.Marks.{MarksView, SeatView}
use Rattle.sec_gc.proofs.Keeps.{look_keeps, seated_looked}
use Rattle.sec_gc.proofs.marks.Marks.word.Goals as goal

pub load-requires : goal.load-requires
load-requires c =
    let key = c.self.inside.table.shared.key in
    let inv = c.self.invariant in
    let wide = inv.wide in
    let count = inv.count in
    let long : length (ends_of key.edges.now) ≡ length c.args.self.now.ends = ap (λ (m : MarksView). length m.ends) c.self.view_is in
    let asked = c.requires.section in
    (search rules, omega arith, look_keeps key.roots.now (ends_of key.edges.now) _ _ c.args.section _ c.seat.invariant.live)

pub invariant_of-seat : goal.invariant_of-seat
invariant_of-seat c = seated_looked _ c.args.section c.seat.inside.seat.me _ c.load.result c.seat.invariant c.load.ensures.2

pub returns-clause-seen : goal.returns-clause-seen
returns-clause-seen c = subst (λ (s : SeatView). Contains s.seen c.args.section → c.load.result ≡ 1) c.seat.view_is c.load.ensures.2.known

pub returns-clause-within : goal.returns-clause-within
returns-clause-within c = subst (λ (s : SeatView). c.load.result ≡ 1 → IsReached s.roots s.ends c.args.section) c.seat.view_is c.load.ensures.2.within
