-- A seat stays one of its table's, whatever it does.
use Rattle.std.proofs.Common.{◌≡◌, ℕ, length, sym, ◌∙◌, ap}
use Rattle.std.proofs.lemmas.List.{length-set}
use Rattle.claim_core.specs.declared.events.Event.{Event}
use Rattle.rank_claims.specs.Claims.{TableView, SeatView, SitsAt, after_claim, after_look, after_split, joined}
use Rattle.rank_claims.proofs.Rows.{length-lesser_of}

pub sits_claimed : (t : TableView) (s s' : SeatView) (e : Event) (found : ℕ) → SitsAt t s → s' ≡ after_claim s e found → SitsAt t s'
sits_claimed t s s' e found sits is = record {
  table = ap (λ (x : SeatView). x.table) is ∙ sits.table;
  offers = ap (λ (x : SeatView). x.offers) is ∙ sits.offers;
  wide = ap (λ (x : SeatView). length x.known) is ∙ simp length-set sits.wide;
}

pub sits_looked : (t : TableView) (s s' : SeatView) (word found : ℕ) → SitsAt t s → s' ≡ after_look s word found → SitsAt t s'
sits_looked t s s' word found sits is = record {
  table = ap (λ (x : SeatView). x.table) is ∙ sits.table;
  offers = ap (λ (x : SeatView). x.offers) is ∙ sits.offers;
  wide = ap (λ (x : SeatView). length x.known) is ∙ simp length-set sits.wide;
}

pub sits_split : (t : TableView) (s s' : SeatView) → SitsAt t s → s' ≡ after_split s → SitsAt t s'
sits_split t s s' sits is = record {
  table = ap (λ (x : SeatView). x.table) is ∙ sits.table;
  offers = ap (λ (x : SeatView). x.offers) is ∙ sits.offers;
  wide = ap (λ (x : SeatView). length x.known) is ∙ sits.wide;
}

pub sits_joined : (t : TableView) (s other s' : SeatView) → SitsAt t s → SitsAt t other → s' ≡ joined s other → SitsAt t s'
sits_joined t s other s' sits its is = record {
  table = ap (λ (x : SeatView). x.table) is ∙ sits.table;
  offers = ap (λ (x : SeatView). x.offers) is ∙ sits.offers;
  wide = ap (λ (x : SeatView). length x.known) is ∙ length-lesser_of s.known other.known (sits.wide ∙ sym its.wide) ∙ sits.wide;
}
