use Rattle.std.proofs.Common.{rules, arith, ◌≡◌, ap}
use Rattle.rank_claims.specs.Claims.{TableView}
use Rattle.rank_claims.proofs.Keeps.{look_keeps, seated-looked}
use Rattle.rank_claims.proofs.table.Claims.least.Goals as goal

pub load-requires : goal.load-requires
load-requires c =
    let key = c.self.inside.table.shared.key in
    let inv = c.self.invariant in
    let counts = inv.given_count in
    let wide = inv.wide in
    let words : c.self.inside.words ≡ c.args.self.now.words = ap (λ (t : TableView). t.words) c.self.view_is in
    let asked = c.requires.word in
    (search rules, omega arith, look_keeps key.words _ _ key.offers.now _ c.args.word (omega arith) c.seat.invariant.live)

pub invariant_of-seat : goal.invariant_of-seat
invariant_of-seat c = seated-looked _ c.args.word c.seat.inside.seat.me _ c.load.result c.seat.invariant c.load.ensures.2
