-- A seat stays one of its table's, whatever it does, and what it has placed stays placed.
use Rattle.std.proofs.Common.{◌≡◌, ℕ, List, flat_map, Contains, sym, ap, ◌∙◌, subst}
use Rattle.std.proofs.lemmas.List.Elements.{Contains-append_left}
use Rattle.intern_race.specs.declared.rule.OwnStep.{OwnStep}
use Rattle.intern_race.specs.declared.rule.Pair.{Pair}
use Rattle.intern_race.specs.Interning.{SeatView, SitsAt, TableView, after_split, after_steps, joined, newcomer, pair, placed_by}

pub sits_after : (t : TableView) (s s' : SeatView) (own : List OwnStep) → SitsAt t s → s' ≡ after_steps s own → SitsAt t s'
sits_after t s s' own sits is = record {
  table = ap (λ (x : SeatView). x.table) is ∙ sits.table;
  texts = ap (λ (x : SeatView). x.texts) is ∙ sits.texts;
}

pub sits_split : (t : TableView) (s s' : SeatView) → SitsAt t s → s' ≡ after_split s → SitsAt t s'
sits_split t s s' sits is = record {
  table = ap (λ (x : SeatView). x.table) is ∙ sits.table;
  texts = ap (λ (x : SeatView). x.texts) is ∙ sits.texts;
}

pub sits_newcomer : (t : TableView) (s s' : SeatView) → SitsAt t s → s' ≡ newcomer s → SitsAt t s'
sits_newcomer t s s' sits is = record {
  table = ap (λ (x : SeatView). x.table) is ∙ sits.table;
  texts = ap (λ (x : SeatView). x.texts) is ∙ sits.texts;
}

pub sits_joined : (t : TableView) (s other s' : SeatView) → SitsAt t s → s' ≡ joined s other → SitsAt t s'
sits_joined t s other s' sits is = record {
  table = ap (λ (x : SeatView). x.table) is ∙ sits.table;
  texts = ap (λ (x : SeatView). x.texts) is ∙ sits.texts;
}

abbrev Placed : List Pair → ℕ → Type 0
Placed pairs i = (k : ℕ) × Contains pairs (pair k i)

-- a pair that was placed is placed after more steps, in a seat that was split off, and in one that others joined
pub placed_after : (s s' : SeatView) (own : List OwnStep) (p : Pair) → s' ≡ after_steps s own → Contains s.placed p → Contains s'.placed p
placed_after s s' own p is has =
    let Has : List Pair → Type 0 = λ l. Contains l p in
    subst Has (sym (ap (λ (x : SeatView). x.placed) is)) (Contains-append_left s.placed (flat_map placed_by own) p has)
