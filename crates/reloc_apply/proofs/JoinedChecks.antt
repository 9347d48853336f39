-- Pieces of a run of numbers that are tested each by a worker: the first defect of the first piece that has one is the first of all.
use Rattle.std.proofs.Common.{◌≡◌, ℕ, ◌-◌, inl, inr, Result, Ok, Err, List, [], ◌∷◌, ◌++◌, flat_map, sym, ap, ◌∙◌, subst, arith}
use Rattle.std.specs.List.{range_with_len}
use Rattle.std.specs.Global.{Vec}
use Rattle.std.specs.declared.ops.Range.{Range}
use Rattle.lk_base.specs.Firsts.{Goes, StopsAt}
use Rattle.lk_base.specs.declared.defects.Defect.{Defect}
use Rattle.lk_base.specs.declared.defects.LinkStop.{LinkStop}
use Rattle.lk_base.specs.declared.defects.LinkStop.TheVariants as stops
use Rattle.work_split.specs.Pieces.{Tiles}
use Rattle.work_split.specs.Shares.{AreGivenBy, IsJoined, IsJoinedFrom, joined, with_prefix}
use Rattle.work_split.proofs.Tiling.{tiles_rise}
use Rattle.lk_base.proofs.Ranges.{two_parts}

abbrev pub run : (ℕ → List Defect) → (start end : ℕ) → List Defect
run f start end = flat_map f (range_with_len start (end - start))

stops_earlier : (xs ys : List Defect) (stop : LinkStop) → StopsAt stop xs → StopsAt stop (xs ++ ys)
stops_earlier xs ys (stops.Defect first) begins = (begins.0 ++ ys, ap (λ l. l ++ ys) begins.1)
stops_earlier xs ys stops.Memory begins = tt

later : {X : Type 0} (xs ys : List Defect) (prefix : List X) (o : Result (List X) LinkStop) → xs ≡ [] → Goes o ys → Goes (with_prefix prefix o) (xs ++ ys)
later xs ys prefix (Ok rest) none goes = ap (λ l. l ++ ys) none ∙ goes
later xs ys prefix (Err stop) none goes = let P : List Defect → Type 0 = λ l. StopsAt stop (l ++ ys) in subst P (sym none) goes

all_go : {X : Type 0} (f : ℕ → List Defect) (Gives : Range ℕ → Result (Vec X) LinkStop → Type 0) (a b : ℕ) (ps : List (Range ℕ)) (rs : List (Result (Vec X) LinkStop)) →
    ((p : Range ℕ) (r : Result (Vec X) LinkStop) → Gives p r → Goes r (run f p.start p.end)) → Tiles a b ps → AreGivenBy Gives ps rs → Goes (joined rs) (run f a b)
unfolding joined
all_go f Gives a b [] [] gives tiles given = let e : b - a ≡ 0 = omega (arith, tiles) in ap (λ k. flat_map f (range_with_len a k)) e
all_go f Gives a b [] (r ∷ rs) gives tiles given = cc
all_go f Gives a b (p ∷ ps) [] gives tiles given = absurd given
all_go f Gives a b (p ∷ ps) (Err stop ∷ rs) gives tiles given =
    let P : ℕ → Type 0 = λ k. StopsAt stop (run f k p.end) in
    let Q : List Defect → Type 0 = λ l. StopsAt stop l in
    let some = tiles.1 in
    subst Q (sym (two_parts f a p.end b (omega (arith, tiles.0)) (tiles_rise p.end b ps tiles.2)))
    (stops_earlier (run f a p.end) (run f p.end b) stop (subst P tiles.0 (gives p (Err stop) given.0)))
all_go {X} f Gives a b (p ∷ ps) (Ok list ∷ rs) gives tiles given =
    let P : ℕ → Type 0 = λ k. run f k p.end ≡ [] in
    let Q : List Defect → Type 0 = λ l. Goes (with_prefix list.items (joined rs)) l in
    let some = tiles.1 in
    subst Q (sym (two_parts f a p.end b (omega (arith, tiles.0)) (tiles_rise p.end b ps tiles.2)))
    (later (run f a p.end) (run f p.end b) list.items (joined rs) (subst P tiles.0 (gives p (Ok list) given.0))
    (all_go f Gives p.end b ps rs gives tiles.2 given.1))

by_joined : {X : Type 0} (defects : List Defect) (o : Result (List X) LinkStop) (r : Result (Vec X) LinkStop) → Goes o defects → IsJoined o r → Goes r defects
by_joined {X} defects o (Ok list) goes is = let P : Result (List X) LinkStop → Type 0 = λ s. Goes s defects in subst P is goes
by_joined {X} defects o (Err (stops.Defect first)) goes is = let P : Result (List X) LinkStop → Type 0 = λ s. Goes s defects in subst P is goes
by_joined defects o (Err stops.Memory) goes is = tt

pub joined_checks : {X : Type 0} (f : ℕ → List Defect) (Gives : Range ℕ → Result (Vec X) LinkStop → Type 0) (n : ℕ) (ps : List (Range ℕ)) (r : Result (Vec X) LinkStop) →
    ((p : Range ℕ) (s : Result (Vec X) LinkStop) → Gives p s → Goes s (run f p.start p.end)) → Tiles 0 n ps → IsJoinedFrom Gives ps r →
    Goes r (flat_map f (range_with_len 0 n))
joined_checks {X} f Gives n ps r gives tiles (inl memory) =
    let P : Result (Vec X) LinkStop → Type 0 = λ s. Goes s (flat_map f (range_with_len 0 n)) in subst P (sym memory) tt
joined_checks {X} f Gives n ps r gives tiles (inr (shares, given, is)) =
    let P : ℕ → Type 0 = λ k. Goes r (flat_map f (range_with_len 0 k)) in
    let e : n - 0 ≡ n = omega arith in
    subst P e (by_joined (run f 0 n) (joined shares) r (all_go f Gives 0 n ps shares gives tiles given) is)
