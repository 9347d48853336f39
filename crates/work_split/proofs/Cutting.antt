-- What `pieces` keeps while it cuts.
use Rattle.std.proofs.Common.{◌≡◌, ℕ, ◌+◌, ◌-◌, ◌*◌, ◌/◌, ◌%◌, ◌<◌, ◌≤◌, ◌⊎◌, List, [], ◌∷◌, ◌++◌, All, length, refl, sym, subst, ap, inl, inr, arith, le-div_iff_mul-le}
use Rattle.std.proofs.Math.Nat.{div-mul-le_self, mod-lt, mul-le-mul_right}
use Rattle.std.proofs.lemmas.Bool.{cases_lt}
use Rattle.std.proofs.lemmas.List.{length_push}
use Rattle.std.proofs.lemmas.List.Elements.{All-push}
use Rattle.std.proofs.lemmas.Nat.{div-add-mod'}
use Rattle.std.specs.declared.ops.Range.{Range}
use Rattle.work_split.specs.Pieces.{HasSize, Tiles}

-- `done` pieces up to `start`, each of `size` places or one more, and a rest that `left` such pieces can have
pub record IsCutting (size left len start done : ℕ) (ps : List (Range ℕ)) : Type 0 where
  pub count : length ps ≡ done
  pub tiles : Tiles 0 start ps
  pub even : All (HasSize size) ps
  pub positive : 0 < left → 0 < size
  pub within : start ≤ len
  pub enough : size * left ≤ len - start
  pub most : len - start ≤ (size + 1) * left

-- one share of the rest, for which m others still wait
record Leaves (size m rest share : ℕ) : Type 0 where
  least : size ≤ share
  most : share ≤ size + 1
  within : share ≤ rest
  enough : size * m ≤ rest - share
  few : rest - share ≤ (size + 1) * m

share_from : (size m rest s : ℕ) → s * (m + 1) ≤ rest → rest < (s + 1) * (m + 1)
    → size ≤ s → s ≤ size + 1 → rest ≤ (size + 1) * (m + 1) → Leaves size m rest s
share_from size m rest s low high least most few = by_size (cases_lt s (size + 1))
  where
    by_size : (s < size + 1) ⊎ (size + 1 ≤ s) → Leaves size m rest s
    by_size (inl below) =
        let same : s ≡ size = omega arith in
        let times : s * m ≡ size * m = ap (λ x. x * m) same in
        record { least = least; most = most; within = omega arith; enough = omega arith; few = omega arith }
    by_size (inr above) =
        let same : s ≡ size + 1 = omega arith in
        let times : s * m ≡ (size + 1) * m = ap (λ x. x * m) same in
        record { least = least; most = most; within = omega arith; enough = omega arith; few = omega arith }

share_of : (size m rest : ℕ) → size * (m + 1) ≤ rest → rest ≤ (size + 1) * (m + 1) → Leaves size m rest (rest / (m + 1))
share_of size m rest enough few =
    let low : rest / (m + 1) * (m + 1) ≤ rest = div-mul-le_self rest (m + 1) in
    let sum : rest / (m + 1) * (m + 1) + rest % (m + 1) ≡ rest = div-add-mod' rest (m + 1) in
    let small : rest % (m + 1) < m + 1 = mod-lt rest (omega arith) in
    let high : rest < (rest / (m + 1) + 1) * (m + 1) = omega arith in
    let least : size ≤ rest / (m + 1) = (le-div_iff_mul-le {k = m + 1} {x = size} {y = rest} (omega arith)).1 enough in
    share_from size m rest (rest / (m + 1)) low high least (at_most (cases_lt (size + 1) (rest / (m + 1))) low) few
  where
    at_most : (size + 1 < rest / (m + 1)) ⊎ (rest / (m + 1) ≤ size + 1) → rest / (m + 1) * (m + 1) ≤ rest → rest / (m + 1) ≤ size + 1
    at_most (inl above) low = let more : (size + 2) * (m + 1) ≤ rest / (m + 1) * (m + 1) = mul-le-mul_right (m + 1) (omega arith) in omega arith
    at_most (inr within) low = within

-- one more piece after those that tile
pub tiles-push : (from start end : ℕ) (ps : List (Range ℕ)) → start < end → Tiles from start ps
    → Tiles from end (ps ++ record { start = start; end = end } ∷ [])
tiles-push from start end [] more tiles = (sym tiles, omega (arith, tiles), refl)
tiles-push from start end (p ∷ ps) more tiles = (tiles.0, tiles.1, tiles-push p.end start end ps more tiles.2)

pub cutting-next : (size m left len start done : ℕ) (ps : List (Range ℕ)) → left ≡ m + 1 → IsCutting size left len start done ps
    → IsCutting size m len (start + (len - start) / left) (done + 1) (ps ++ record { start = start; end = start + (len - start) / left } ∷ [])
cutting-next size m left len start done ps one_more so_far =
    let Share : ℕ → Type 0 = λ l. Leaves size m (len - start) ((len - start) / l) in
    let enough : size * (m + 1) ≤ len - start = rw (← one_more) so_far.enough in
    let most : len - start ≤ (size + 1) * (m + 1) = rw (← one_more) so_far.most in
    let share : Leaves size m (len - start) ((len - start) / left) = subst Share (sym one_more) (share_of size m (len - start) enough most) in
    let positive : 0 < size = so_far.positive (omega arith) in
    let least = share.least in
    let within = share.within in
    let most_of = share.most in
    let inside = so_far.within in
    record {
      count = omega (arith, length_push ps (record { start = start; end = start + (len - start) / left }), so_far.count);
      tiles = tiles-push 0 start (start + (len - start) / left) ps (omega arith) so_far.tiles;
      even = All-push (HasSize size) ps (record { start = start; end = start + (len - start) / left }) so_far.even
          (record { least = omega arith; most = omega arith });
      positive = λ _. positive;
      within = omega arith;
      enough = omega (arith, share.enough);
      most = omega (arith, share.few);
    }
