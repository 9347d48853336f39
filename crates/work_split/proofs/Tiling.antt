-- What a caller has of pieces that tile: where each lies, that they are apart, and that each place lies in one.
use Rattle.std.proofs.Common.{ℕ, zero, suc, ◌<◌, ◌≤◌, List, [], ◌∷◌, length, refl, sym, subst, inl, inr, arith}
use Rattle.std.proofs.lemmas.Bool.{cases_lt}
use Rattle.std.specs.declared.ops.Range.{Range}
use Rattle.work_split.specs.Pieces.{Tiles}
use Rattle.work_split.specs.Tasks.{IsAt}

-- a piece lies between the ends, and is not empty
pub record IsWithin (start end : ℕ) (p : Range ℕ) : Type 0 where
  pub start_in : start ≤ p.start
  pub some : p.start < p.end
  pub end_in : p.end ≤ end

-- no end of pieces that tile lies before their start
pub tiles_rise : (start end : ℕ) (ps : List (Range ℕ)) → Tiles start end ps → start ≤ end
tiles_rise start end [] tiles = omega (arith, tiles)
tiles_rise start end (p ∷ ps) tiles =
    let rest : p.end ≤ end = tiles_rise p.end end ps tiles.2 in
    let more = tiles.1 in
    omega arith

-- each piece ends at the end or before
pub tiles_within : (start end : ℕ) (ps : List (Range ℕ)) (w : ℕ) (p : Range ℕ)
    → Tiles start end ps → w < length ps → IsAt ps w p → IsWithin start end p
tiles_within start end [] w p tiles here at = absurd (omega (arith, here))
tiles_within start end (q ∷ ps) zero p tiles here at =
    let rest : q.end ≤ end = tiles_rise q.end end ps tiles.2 in
    let Within : Range ℕ → Type 0 = λ r. IsWithin start end r in
    let first = tiles.0 in
    let more = tiles.1 in
    subst Within (sym at) (record { start_in = omega arith; some = omega arith; end_in = rest })
tiles_within start end (q ∷ ps) (suc w) p tiles here at =
    let rest : IsWithin q.end end p = tiles_within q.end end ps w p tiles.2 (omega arith) at in
    let more = tiles.1 in
    record { start_in = omega (arith, rest.start_in); some = rest.some; end_in = rest.end_in }

-- the piece that has the place i
pub record Holds (ps : List (Range ℕ)) (i : ℕ) : Type 0 where
  pub worker : ℕ
  pub piece : Range ℕ
  pub within : worker < length ps
  pub at : IsAt ps worker piece
  pub from : piece.start ≤ i
  pub below : i < piece.end

-- each place between the ends lies in a piece
pub tiles_cover : (start end : ℕ) (ps : List (Range ℕ)) (i : ℕ) → Tiles start end ps → start ≤ i → i < end → Holds ps i
tiles_cover start end [] i tiles from below = absurd (omega (arith, tiles))
tiles_cover start end (p ∷ ps) i tiles from below =
    elim (cases_lt i p.end) [
      | inl inside ↦
          let first = tiles.0 in
          record { worker = zero; piece = p; within = omega arith; at = refl; from = omega arith; below = inside }
      | inr past ↦
          let rest : Holds ps i = tiles_cover p.end end ps i tiles.2 past below in
          record { worker = suc rest.worker; piece = rest.piece; within = omega (arith, rest.within); at = rest.at; from = rest.from; below = rest.below }
    ]

-- an element that stands at a place
pub at_place : {X : Type 0} (xs : List X) (w : ℕ) → w < length xs → (x : X) × IsAt xs w x
at_place [] w lt = absurd (omega (arith, lt))
at_place (x ∷ xs) zero lt = (x, refl)
at_place (x ∷ xs) (suc w) lt = at_place xs w (omega (arith, lt))
