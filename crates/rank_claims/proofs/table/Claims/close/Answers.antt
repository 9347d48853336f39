use Rattle.std.proofs.Common.{ℕ, List, take, refl, sym, subst}
use Rattle.std.specs.Slots.{slots_items}
use Rattle.rank_claims.specs.Claims.{TableView, SeatView, IsClosing}
use Rattle.rank_claims.specs.Rule.{seen}
use Rattle.rank_claims.proofs.Ends.{ending}
use Rattle.rank_claims.proofs.table.Claims.close.Goals as goal

pub returns-clause-ok : goal.returns-clause-ok
returns-clause-ok c =
    let shared = c.self.inside.table.shared in
    let t : TableView = record { table = shared.table_id; words = c.self.inside.words; offers = shared.key.offers.now } in
    let seat = c.seat.inside.seat in
    let s : SeatView = seen seat in
    let last = c.close_with-closed.ensures.values.2 in
    let inv = c.seat.invariant in
    let closed = ending shared.key.words t s seat.me.0 seat.id last.0 _ c.self.invariant.given_count refl refl refl last.1.0 last.1.1 inv.live last.2 inv.covers in
    let words : List ℕ = take c.self.inside.words (slots_items c.close_with-closed.result.words) in
    let P : List ℕ → Type 0 = λ row. IsClosing c.args.self c.args.seat row in
    let Q : TableView → Type 0 = λ u. IsClosing u c.args.seat words in
    let R : SeatView → Type 0 = λ u. IsClosing t u words in
    subst P (sym c.first_words-words.ensures) (subst Q c.self.view_is (subst R c.seat.view_is closed))
