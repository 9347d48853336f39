-- What the workers list for the pieces of a run of numbers is, joined, what one would list for all of them.
use Rattle.std.proofs.Common.{◌≡◌, ℕ, ◌-◌, ◌<◌, ◌≤◌, inl, inr, Result, Ok, Err, List, [], ◌∷◌, ◌++◌, length, sym, ap, ◌∙◌, subst, arith}
use Rattle.std.specs.Prelude.{flat_map}
use Rattle.std.specs.List.{range_with_len}
use Rattle.std.specs.Global.{Vec}
use Rattle.std.specs.declared.ops.Range.{Range}
use Rattle.lk_base.specs.declared.defects.LinkStop.{LinkStop}
use Rattle.work_split.specs.Pieces.{Tiles}
use Rattle.work_split.specs.Shares.{AreGivenBy, IsJoined, IsJoinedFrom, joined, with_prefix}
use Rattle.work_split.specs.Tasks.{IsAt}
use Rattle.work_split.proofs.Tiling.{tiles_rise, tiles_within}
use Rattle.work_split.specs.Runs.{IsRun}
use Rattle.lk_base.proofs.Ranges.{two_parts}

abbrev run : {X : Type 0} → (ℕ → List X) → (start end : ℕ) → List X
run give start end = flat_map give (range_with_len start (end - start))

-- a joined list, before what later shares have
IsWhole : {X : Type 0} → (ℕ → List X) → (a b : ℕ) → Result (List X) LinkStop → Type 0
IsWhole give a b (Ok xs) = xs ≡ run give a b
IsWhole give a b (Err stop) = Unit {0}

whole_after : {X : Type 0} (give : ℕ → List X) (a m b : ℕ) (front : List X) (o : Result (List X) LinkStop) → a ≤ m → m ≤ b → front ≡ run give a m → IsWhole give m b o → IsWhole give a b (with_prefix front o)
unfolding IsWhole
whole_after give a m b front (Ok rest) low high is also =
    ap (λ l. l ++ rest) is ∙ ap (λ l. run give a m ++ l) also ∙ sym (two_parts give a m b low high)
whole_after give a m b front (Err stop) low high is also = tt

whole_from : {X : Type 0} (give : ℕ → List X) (Gives : Range ℕ → Result (Vec X) LinkStop → Type 0) (a b : ℕ) (ps : List (Range ℕ)) (rs : List (Result (Vec X) LinkStop)) →
    ((p : Range ℕ) (r : Result (Vec X) LinkStop) → Gives p r → IsRun give p r) → Tiles a b ps → AreGivenBy Gives ps rs → IsWhole give a b (joined rs)
unfolding joined IsWhole
whole_from give Gives a b [] [] gives tiles given = let e : b - a ≡ 0 = omega (arith, tiles) in sym (ap (λ k. flat_map give (range_with_len a k)) e)
whole_from give Gives a b [] (r ∷ rs) gives tiles given = cc
whole_from give Gives a b (p ∷ ps) [] gives tiles given = absurd given
whole_from give Gives a b (p ∷ ps) (Err stop ∷ rs) gives tiles given = tt
whole_from give Gives a b (p ∷ ps) (Ok list ∷ rs) gives tiles given =
    let P : ℕ → Type 0 = λ k. list.items ≡ run give k p.end in
    let some = tiles.1 in
    whole_after give a p.end b list.items (joined rs) (omega (arith, tiles.0)) (tiles_rise p.end b ps tiles.2)
    (subst P tiles.0 (gives p (Ok list) given.0)) (whole_from give Gives p.end b ps rs gives tiles.2 given.1)

whole_list : {X : Type 0} (give : ℕ → List X) (n : ℕ) (o : Result (List X) LinkStop) (xs : List X) → IsWhole give 0 n o → o ≡ Ok xs → xs ≡ flat_map give (range_with_len 0 n)
unfolding IsWhole
whole_list {X} give n o xs held is =
    let P : Result (List X) LinkStop → Type 0 = IsWhole give 0 n in
    let same : xs ≡ run give 0 n = subst P is held in
    let e : n - 0 ≡ n = omega arith in
    same ∙ ap (λ k. flat_map give (range_with_len 0 k)) e

by_end : {X : Type 0} (give : ℕ → List X) (n : ℕ) (shares : List (Result (Vec X) LinkStop)) (list : Vec X) → IsWhole give 0 n (joined shares) → IsJoined (joined shares) (Ok list) → list.items ≡ flat_map give (range_with_len 0 n)
by_end give n shares list held is = whole_list give n (joined shares) list.items held is

-- what `over_shares` gives if each task lists the run of its piece: the list of all
pub joined_run : {X : Type 0} (give : ℕ → List X) (Gives : Range ℕ → Result (Vec X) LinkStop → Type 0) (n : ℕ) (ps : List (Range ℕ)) (r : Result (Vec X) LinkStop) (list : Vec X) →
    IsJoinedFrom Gives ps r → ((p : Range ℕ) (s : Result (Vec X) LinkStop) → Gives p s → IsRun give p s) → Tiles 0 n ps → r ≡ Ok list → list.items ≡ flat_map give (range_with_len 0 n)
joined_run {X} give Gives n ps r list (inl memory) gives tiles is = let no : ⊥ = cc in absurd no
joined_run {X} give Gives n ps r list (inr (shares, given, also)) gives tiles is =
    let P : Result (Vec X) LinkStop → Type 0 = IsJoined (joined shares) in
    by_end give n shares list (whole_from give Gives 0 n ps shares gives tiles given) (subst P is also)

-- a piece of the files ends at the last or before
pub piece_within : (n : ℕ) (ps : List (Range ℕ)) (w : ℕ) (p : Range ℕ) → Tiles 0 n ps → w < length ps → IsAt ps w p → p.end ≤ n
piece_within n ps w p tiles lt at = let w = tiles_within 0 n ps w p tiles lt at in w.end_in
