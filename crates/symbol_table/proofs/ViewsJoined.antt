-- What the workers list for the pieces of a run of numbers is, joined and shown as plain records, what one would list for all of them.
use Rattle.std.proofs.Common.{◌≡◌, ℕ, ◌-◌, ◌≤◌, inl, inr, Result, Ok, Err, List, [], ◌∷◌, ◌++◌, map, sym, ap, ◌∙◌, subst, arith}
use Rattle.std.specs.Prelude.{IfOk, flat_map}
use Rattle.std.specs.List.{range_with_len}
use Rattle.std.specs.Global.{Vec}
use Rattle.std.specs.declared.ops.Range.{Range}
use Rattle.std.proofs.lemmas.List.{map-append}
use Rattle.lk_base.specs.declared.defects.LinkStop.{LinkStop}
use Rattle.work_split.specs.Pieces.{Tiles}
use Rattle.work_split.specs.Shares.{AreGivenBy, IsJoined, IsJoinedFrom, joined, with_prefix}
use Rattle.work_split.proofs.Tiling.{tiles_rise}
use Rattle.lk_base.proofs.Ranges.{two_parts}

abbrev run : {Y : Type 0} → (ℕ → List Y) → (start end : ℕ) → List Y
run give start end = flat_map give (range_with_len start (end - start))

module _ {X Y : Type 0} (v : X → Y) (give : ℕ → List Y) where
  -- a joined list, before what later shares have
  IsWhole : (a b : ℕ) → Result (List X) LinkStop → Type 0
  IsWhole a b (Ok xs) = map v xs ≡ run give a b
  IsWhole a b (Err stop) = Unit {0}

  whole_after : (a m b : ℕ) (front : List X) (o : Result (List X) LinkStop) → a ≤ m → m ≤ b → map v front ≡ run give a m → IsWhole m b o → IsWhole a b (with_prefix front o)
  unfolding IsWhole
  whole_after a m b front (Ok rest) low high is also =
      map-append v front rest ∙ ap (λ l. l ++ map v rest) is ∙ ap (λ l. run give a m ++ l) also ∙ sym (two_parts give a m b low high)
  whole_after a m b front (Err stop) low high is also = tt

  abbrev pub AreShown : Range ℕ → Result (Vec X) LinkStop → Type 0
  AreShown p r = IfOk r (λ list. map v list.items ≡ flat_map give (range_with_len p.start (p.end - p.start)))

  whole_from : (Gives : Range ℕ → Result (Vec X) LinkStop → Type 0) (a b : ℕ) (ps : List (Range ℕ)) (rs : List (Result (Vec X) LinkStop)) →
      ((p : Range ℕ) (r : Result (Vec X) LinkStop) → Gives p r → AreShown p r) → Tiles a b ps → AreGivenBy Gives ps rs → IsWhole a b (joined rs)
  unfolding joined IsWhole
  whole_from Gives a b [] [] gives tiles given = let e : b - a ≡ 0 = omega (arith, tiles) in sym (ap (λ k. flat_map give (range_with_len a k)) e)
  whole_from Gives a b [] (r ∷ rs) gives tiles given = cc
  whole_from Gives a b (p ∷ ps) [] gives tiles given = absurd given
  whole_from Gives a b (p ∷ ps) (Err stop ∷ rs) gives tiles given = tt
  whole_from Gives a b (p ∷ ps) (Ok list ∷ rs) gives tiles given =
      let P : ℕ → Type 0 = λ k. map v list.items ≡ run give k p.end in
      let some = tiles.1 in
      whole_after a p.end b list.items (joined rs) (omega (arith, tiles.0)) (tiles_rise p.end b ps tiles.2)
      (subst P tiles.0 (gives p (Ok list) given.0)) (whole_from Gives p.end b ps rs gives tiles.2 given.1)

  whole_list : (n : ℕ) (o : Result (List X) LinkStop) (xs : List X) → IsWhole 0 n o → o ≡ Ok xs → map v xs ≡ flat_map give (range_with_len 0 n)
  unfolding IsWhole
  whole_list n o xs held is =
      let P : Result (List X) LinkStop → Type 0 = IsWhole 0 n in
      let same : map v xs ≡ run give 0 n = subst P is held in
      let e : n - 0 ≡ n = omega arith in
      same ∙ ap (λ k. flat_map give (range_with_len 0 k)) e

  by_end : (n : ℕ) (shares : List (Result (Vec X) LinkStop)) (list : Vec X) → IsWhole 0 n (joined shares) → IsJoined (joined shares) (Ok list) → map v list.items ≡ flat_map give (range_with_len 0 n)
  by_end n shares list held is = whole_list n (joined shares) list.items held is

  -- what `over_shares` gives if each task lists the run of its piece: the list of all
  pub joined_views : (Gives : Range ℕ → Result (Vec X) LinkStop → Type 0) (n : ℕ) (ps : List (Range ℕ)) (r : Result (Vec X) LinkStop) (list : Vec X) →
      IsJoinedFrom Gives ps r → ((p : Range ℕ) (s : Result (Vec X) LinkStop) → Gives p s → AreShown p s) → Tiles 0 n ps → r ≡ Ok list → map v list.items ≡ flat_map give (range_with_len 0 n)
  joined_views Gives n ps r list (inl memory) gives tiles is = let no : ⊥ = cc in absurd no
  joined_views Gives n ps r list (inr (shares, given, also)) gives tiles is =
      let P : Result (Vec X) LinkStop → Type 0 = IsJoined (joined shares) in
      by_end n shares list (whole_from Gives 0 n ps shares gives tiles given) (subst P is also)
