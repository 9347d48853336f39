use Rattle.std.proofs.Common.{rules, arith, ◌≡◌, ◌<◌, List, Contains, sym, ap, ◌∙◌, subst}
use Rattle.std.proofs.lemmas.List.Elements.{Contains-get_or, All-contains}
use Rattle.claim_core.specs.declared.events.Event.{Event}
use Rattle.claim_core.specs.Events.{event}
use Rattle.rank_claims.specs.Claims.{TableView, offer_at}
use Rattle.rank_claims.proofs.Keeps.{claim_keeps, seated-claimed}
use Rattle.rank_claims.proofs.table.Claims.claim.Goals as goal

pub fetch_min-requires : goal.fetch_min-requires
fetch_min-requires c =
    let key = c.self.inside.table.shared.key in
    let e = offer_at c.args.offers.now c.args.i in
    let same : c.args.offers.now ≡ key.offers.now = c.requires.offers ∙ sym (ap (λ (t : TableView). t.offers) c.self.view_is) in
    let P : List Event → Type 0 = λ os. Contains os e in
    let on : Contains key.offers.now e = subst P same (Contains-get_or c.args.offers.now c.args.i (event 0 0) c.requires.place) in
    let inv = c.self.invariant in
    let in_row : e.word < c.self.inside.words = All-contains (λ (x : Event). x.word < c.self.inside.words) key.offers.now e inv.in_row on in
    let counts = inv.given_count in
    let wide = inv.wide in
    (search rules, omega arith, claim_keeps key.words _ _ key.offers.now _ e on (omega arith) c.seat.invariant.live)

pub invariant_of-seat : goal.invariant_of-seat
invariant_of-seat c = seated-claimed _ (offer_at c.args.offers.now c.args.i) c.seat.inside.seat.me _ c.fetch_min.result c.seat.invariant c.fetch_min.ensures.2
