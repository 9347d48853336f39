-- What the workers list for the pieces of a run of numbers, where what is said of two runs side by side goes over to both together.
use Rattle.std.proofs.Common.{◌≡◌, ℕ, ◌≤◌, inl, inr, Result, Ok, Err, IfOk, List, [], ◌∷◌, ◌++◌, subst, arith}
use Rattle.std.specs.Global.{Vec}
use Rattle.std.specs.declared.ops.Range.{Range}
use Rattle.lk_base.specs.declared.defects.LinkStop.{LinkStop}
use Rattle.work_split.specs.Pieces.{Tiles}
use Rattle.work_split.specs.Shares.{AreGivenBy, IsJoined, IsJoinedFrom, joined, with_prefix}
use Rattle.work_split.proofs.Tiling.{tiles_rise}

-- what is said of the numbers from one on and before another, and of a list for them
pub record GoesBeside {X : Type 0} (Is : (start end : ℕ) → List X → Type 0) : Type 0 where
  pub none : (a : ℕ) → Is a a []
  pub both : (a m b : ℕ) (xs ys : List X) → a ≤ m → m ≤ b → Is a m xs → Is m b ys → Is a b (xs ++ ys)

module _ {X : Type 0} (Is : (start end : ℕ) → List X → Type 0) (beside : GoesBeside Is) where
  -- a joined list, before what later shares have
  IsAll : (a b : ℕ) → Result (List X) LinkStop → Type 0
  IsAll a b (Ok xs) = Is a b xs
  IsAll a b (Err stop) = Unit {0}

  all_after : (a m b : ℕ) (front : List X) (o : Result (List X) LinkStop) → a ≤ m → m ≤ b → Is a m front → IsAll m b o → IsAll a b (with_prefix front o)
  unfolding IsAll
  all_after a m b front (Ok rest) low high is also = beside.both a m b front rest low high is also
  all_after a m b front (Err stop) low high is also = tt

  all_from : (Gives : Range ℕ → Result (Vec X) LinkStop → Type 0) (a b : ℕ) (ps : List (Range ℕ)) (rs : List (Result (Vec X) LinkStop)) →
      ((p : Range ℕ) (r : Result (Vec X) LinkStop) → Gives p r → IfOk r (λ list. Is p.start p.end list.items)) → Tiles a b ps → AreGivenBy Gives ps rs → IsAll a b (joined rs)
  unfolding joined IsAll
  all_from Gives a b [] [] gives tiles given = let P : ℕ → Type 0 = λ k. Is a k [] in subst P tiles (beside.none a)
  all_from Gives a b [] (r ∷ rs) gives tiles given = cc
  all_from Gives a b (p ∷ ps) [] gives tiles given = absurd given
  all_from Gives a b (p ∷ ps) (Err stop ∷ rs) gives tiles given = tt
  all_from Gives a b (p ∷ ps) (Ok list ∷ rs) gives tiles given =
      let P : ℕ → Type 0 = λ k. Is k p.end list.items in
      let some = tiles.1 in
      all_after a p.end b list.items (joined rs) (omega (arith, tiles.0)) (tiles_rise p.end b ps tiles.2)
      (subst P tiles.0 (gives p (Ok list) given.0)) (all_from Gives p.end b ps rs gives tiles.2 given.1)

  all_list : (a b : ℕ) (o : Result (List X) LinkStop) (xs : List X) → IsAll a b o → o ≡ Ok xs → Is a b xs
  unfolding IsAll
  all_list a b o xs held is = let P : Result (List X) LinkStop → Type 0 = IsAll a b in subst P is held

  all_end : (n : ℕ) (shares : List (Result (Vec X) LinkStop)) (list : Vec X) → IsAll 0 n (joined shares) → IsJoined (joined shares) (Ok list) → Is 0 n list.items
  all_end n shares list held is = all_list 0 n (joined shares) list.items held is

  -- what `over_shares` gives if each task says so of the list of its piece
  pub joined_beside : (Gives : Range ℕ → Result (Vec X) LinkStop → Type 0) (n : ℕ) (ps : List (Range ℕ)) (r : Result (Vec X) LinkStop) (list : Vec X) →
      IsJoinedFrom Gives ps r → ((p : Range ℕ) (s : Result (Vec X) LinkStop) → Gives p s → IfOk s (λ l. Is p.start p.end l.items)) → Tiles 0 n ps → r ≡ Ok list → Is 0 n list.items
  joined_beside Gives n ps r list (inl memory) gives tiles is = let no : ⊥ = cc in absurd no
  joined_beside Gives n ps r list (inr (shares, given, also)) gives tiles is =
      let P : Result (Vec X) LinkStop → Type 0 = IsJoined (joined shares) in
      all_end n shares list (all_from Gives 0 n ps shares gives tiles given) (subst P is also)
