-- What `pieces_by_weight` keeps while it cuts.
use Rattle.std.proofs.Common.{◌≡◌, ℕ, ◌+◌, ◌-◌, ◌*◌, ◌<◌, ◌≤◌, List, [], ◌∷◌, ◌++◌, All, sum, take, drop, get_or, length, sym, ap, ◌∙◌, subst, arith}
use Rattle.std.specs.Int.{div_ceil}
use Rattle.std.proofs.Math.Nat.{mul-le-mul_right, le_of_mul-le-mul_right}
use Rattle.std.proofs.lemmas.Grind.{div_ceil_times}
use Rattle.std.proofs.lemmas.List.{drop-drop, get_or-drop, length_push, length-drop, take_more}
use Rattle.std.proofs.lemmas.List.Elements.{All-push}
use Rattle.std.proofs.lemmas.List.Sums.{sum_by-take-drop, sum_by-take-le, sum_by_push}
use Rattle.std.specs.declared.ops.Range.{Range}
use Rattle.work_split.specs.Pieces.{HasEvenWeight, Tiles, weight_of}
use Rattle.work_split.proofs.Cutting.{tiles-push}

-- the weight at which a piece ends, if `left` workers are left for `rest`: `rest / left`, rounded up
pub record IsShareOf (rest left share : ℕ) : Type 0 where
  pub least : rest ≤ share * left
  pub most : share * left < rest + left

pub share_is : (rest left : ℕ) → 0 < left → IsShareOf rest left (div_ceil rest left)
share_is rest left some = let times = div_ceil_times rest left some in record { least = times.0; most = times.1 }

-- pieces up to `start`, and from there on up to `index` what the next one has so far
pub record IsWeighing (ws : List ℕ) (workers start index left rest share weight : ℕ) (ps : List (Range ℕ)) : Type 0 where
  pub tiles : Tiles 0 start ps
  pub even : All (HasEvenWeight ws workers) ps
  pub count : length ps + left ≡ workers
  pub some : 1 ≤ left
  pub within : start ≤ index
  pub weighs : weight ≡ weight_of ws start index
  pub all_left : rest ≡ sum (drop start ws)
  pub enough : rest * workers ≤ sum ws * left
  pub fair : IsShareOf rest left share
  pub light : weight * workers ≤ sum ws

-- one place more
weight_more : (ws : List ℕ) (start index : ℕ) → start ≤ index → index < length ws → weight_of ws start (index + 1) ≡ weight_of ws start index + get_or ws index 0
weight_more ws start index from lt =
    let n : ℕ = index - start in
    let long : index + 1 - start ≡ n + 1 = omega arith in
    let room : n < length (drop start ws) = omega (arith, length-drop start ws) in
    let place : start + n ≡ index = omega arith in
    ap (λ k. sum (take k (drop start ws))) long ∙ ap sum (take_more (drop start ws) n 0 room)
    ∙ sum_by_push (λ (x : ℕ). x) (take n (drop start ws)) (get_or (drop start ws) n 0)
    ∙ ap (λ x. weight_of ws start index + x) (get_or-drop start ws n 0 ∙ ap (λ k. get_or ws k 0) place)

-- a piece weighs no more than all that is left
weight_below : (ws : List ℕ) (start end : ℕ) → weight_of ws start end ≤ sum (drop start ws)
weight_below ws start end = sum_by-take-le (λ (x : ℕ). x) (drop start ws) (end - start)

-- what is left after a piece
rest_after : (ws : List ℕ) (start end : ℕ) → start ≤ end → weight_of ws start end + sum (drop end ws) ≡ sum (drop start ws)
rest_after ws start end from =
    let place : start + (end - start) ≡ end = omega arith in
    ap (λ l. weight_of ws start end + sum l) (sym (drop-drop (end - start) start ws ∙ ap (λ k. drop k ws) place))
    ∙ sum_by-take-drop (λ (x : ℕ). x) (drop start ws) (end - start)

-- a weight below the share of one worker is below an even share of the whole
light_below : (total workers left rest share weight : ℕ) → 1 ≤ left → IsShareOf rest left share → rest * workers ≤ total * left → weight < share → weight * workers ≤ total
light_below total workers left rest share weight some of enough below =
    let up : (weight + 1) * left ≤ share * left = mul-le-mul_right left (omega arith) in
    let most = of.most in
    let less : weight * left ≤ rest = omega arith in
    let times : weight * left * workers ≤ rest * workers = mul-le-mul_right workers less in
    let both : weight * workers * left ≤ total * left = omega arith in
    le_of_mul-le-mul_right both some

-- so is all that is left for the last worker
light_last : (total workers left rest weight : ℕ) → left ≡ 1 → rest * workers ≤ total * left → weight ≤ rest → weight * workers ≤ total
light_last total workers left rest weight one enough le =
    let times : weight * workers ≤ rest * workers = mul-le-mul_right workers le in
    let same : total * left ≡ total * 1 = ap (λ k. total * k) one in
    omega arith

-- the other workers have enough for the rest
enough_after : (total workers m rest rest' share weight : ℕ) → 1 ≤ m + 1 → IsShareOf rest (m + 1) share → rest * workers ≤ total * (m + 1) → share ≤ weight → weight + rest' ≡ rest
    → rest' * workers ≤ total * m
enough_after total workers m rest rest' share weight some of enough over sum_is =
    let least = of.least in
    let up : share * (m + 1) ≤ weight * (m + 1) = mul-le-mul_right (m + 1) over in
    let cut : (weight + rest') * (m + 1) ≡ rest * (m + 1) = ap (λ k. k * (m + 1)) sum_is in
    let left : rest' * (m + 1) ≤ rest * m = omega arith in
    let times : rest' * (m + 1) * workers ≤ rest * m * workers = mul-le-mul_right workers left in
    let whole : rest * workers * m ≤ total * (m + 1) * m = mul-le-mul_right m enough in
    let both : rest' * workers * (m + 1) ≤ total * m * (m + 1) = omega arith in
    le_of_mul-le-mul_right both some

module _ (ws : List ℕ) (workers start index left rest share weight : ℕ) (ps : List (Range ℕ)) (lt : index < length ws) (so_far : IsWeighing ws workers start index left rest share weight ps) where
  -- the piece with this place weighs no more than the rest
  pub heavier : weight + get_or ws index 0 ≤ rest
  heavier = omega (arith, so_far.weighs, so_far.all_left, weight_more ws start index so_far.within lt, weight_below ws start (index + 1))

  -- the piece goes on
  goes_on : (weight + get_or ws index 0) * workers ≤ sum ws → IsWeighing ws workers start (index + 1) left rest share (weight + get_or ws index 0) ps
  goes_on light =
      let within = so_far.within in
      record {
        tiles = so_far.tiles;
        even = so_far.even;
        count = so_far.count;
        some = so_far.some;
        within = omega arith;
        weighs = ap (λ k. k + get_or ws index 0) so_far.weighs ∙ sym (weight_more ws start index so_far.within lt);
        all_left = so_far.all_left;
        enough = so_far.enough;
        fair = so_far.fair;
        light = light;
      }

  pub goes_on_last : left ≤ 1 → IsWeighing ws workers start (index + 1) left rest share (weight + get_or ws index 0) ps
  goes_on_last few = let some = so_far.some in goes_on (light_last (sum ws) workers left rest (weight + get_or ws index 0) (omega arith) so_far.enough heavier)

  pub goes_on_below : weight + get_or ws index 0 < share → IsWeighing ws workers start (index + 1) left rest share (weight + get_or ws index 0) ps
  goes_on_below below = goes_on (light_below (sum ws) workers left rest share (weight + get_or ws index 0) so_far.some so_far.fair so_far.enough below)

  -- a piece that ends here is even, since it was light before
  even_here : (end : ℕ) → end - 1 ≡ index → HasEvenWeight ws workers (record { start = start; end = end })
  even_here end last =
      let P : ℕ → Type 0 = λ k. weight_of ws start k * workers ≤ sum ws in
      let Q : ℕ → Type 0 = λ k. k * workers ≤ sum ws in
      subst P (sym last) (subst Q so_far.weighs so_far.light)

  -- the piece ends after this place, and the next one starts
  pub ends_here : (rest' share' left' : ℕ) → 1 < left → share ≤ weight + get_or ws index 0 → left' ≡ left - 1 → rest' ≡ rest - (weight + get_or ws index 0) → share' ≡ div_ceil rest' left'
      → IsWeighing ws workers (index + 1) (index + 1) left' rest' share' 0 (ps ++ record { start = start; end = index + 1 } ∷ [])
  ends_here rest' share' left' many over less lighter shared =
      let p : Range ℕ = record { start = start; end = index + 1 } in
      let within = so_far.within in
      let one_more : left ≡ left' + 1 = omega arith in
      let weight' : ℕ = weight + get_or ws index 0 in
      let grown : weight' ≡ weight_of ws start (index + 1) = ap (λ k. k + get_or ws index 0) so_far.weighs ∙ sym (weight_more ws start index so_far.within lt) in
      let sum_is : weight' + rest' ≡ rest = omega (arith, heavier) in
      let Of : ℕ → Type 0 = λ l. IsShareOf rest l share in
      let Enough : ℕ → Type 0 = λ l. rest * workers ≤ sum ws * l in
      let none : index + 1 - (index + 1) ≡ 0 = omega arith in
      record {
        tiles = tiles-push 0 start (index + 1) ps (omega arith) so_far.tiles;
        even = All-push (HasEvenWeight ws workers) ps p so_far.even (even_here (index + 1) (omega arith));
        count = omega (arith, length_push ps p, so_far.count);
        some = omega arith;
        within = omega arith;
        weighs = sym (ap (λ k. sum (take k (drop (index + 1) ws))) none);
        all_left = omega (arith, rest_after ws start (index + 1) (omega arith), so_far.all_left);
        enough = enough_after (sum ws) workers left' rest rest' share weight' (omega arith) (subst Of one_more so_far.fair) (subst Enough one_more so_far.enough) over sum_is;
        fair = let P : ℕ → Type 0 = λ s. IsShareOf rest' left' s in subst P (sym shared) (share_is rest' left' (omega arith));
        light = omega arith;
      }

-- the last piece has the rest
module _ (ws : List ℕ) (workers start left rest share weight : ℕ) (ps : List (Range ℕ)) (so_far : IsWeighing ws workers start (length ws) left rest share weight ps) where
  pub last_even : start < length ws → All (HasEvenWeight ws workers) (ps ++ record { start = start; end = length ws } ∷ [])
  last_even more =
      let p : Range ℕ = record { start = start; end = length ws } in
      let n : ℕ = length ws - 1 in
      let one_more : n + 1 ≡ length ws = omega arith in
      let grown : weight_of ws start (n + 1) ≡ weight_of ws start n + get_or ws n 0 = weight_more ws start n (omega arith) (omega arith) in
      let same : weight_of ws start (n + 1) ≡ weight = ap (weight_of ws start) one_more ∙ sym so_far.weighs in
      let less : weight_of ws start n ≤ weight = omega arith in
      let times : weight_of ws start n * workers ≤ weight * workers = mul-le-mul_right workers less in
      All-push (HasEvenWeight ws workers) ps p so_far.even (omega (arith, so_far.light))

  pub last_tiles : start < length ws → Tiles 0 (length ws) (ps ++ record { start = start; end = length ws } ∷ [])
  last_tiles more = tiles-push 0 start (length ws) ps more so_far.tiles

  -- or nothing is left
  pub all_tiles : length ws ≤ start → Tiles 0 (length ws) ps
  all_tiles past =
      let within = so_far.within in
      let same : start ≡ length ws = omega arith in
      let P : ℕ → Type 0 = λ k. Tiles 0 k ps in
      subst P same so_far.tiles
