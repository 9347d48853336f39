-- What the workers give for the pieces of a run of numbers is, joined, what one would give for all of them.
use Rattle.std.proofs.Common.{◌≡◌, ℕ, zero, suc, ◌+◌, ◌-◌, ◌<◌, ◌≤◌, inl, inr, Result, Ok, Err, IfOk, List, [], ◌∷◌, ◌++◌, length, get_or, refl, sym, ap, ◌∙◌, subst, arith, append_assoc}
use Rattle.std.specs.Prelude.{flat_map}
use Rattle.std.specs.List.{range_with_len}
use Rattle.std.specs.Global.{Vec}
use Rattle.std.specs.declared.ops.Range.{Range}
use Rattle.std.proofs.lemmas.List.{append-nil, get_or_default, nil_from_length}
use Rattle.lk_base.specs.declared.defects.Defect.{Defect}
use Rattle.lk_base.specs.declared.defects.LinkStop.{LinkStop}
use Rattle.lk_base.specs.declared.defects.LinkStop.TheVariants as stops
use Rattle.lk_base.specs.Firsts.{Goes, StopsAt}
use Rattle.work_split.specs.Pieces.{Tiles}
use Rattle.work_split.specs.Shares.{AreGivenBy, EachFrom, IsJoined, IsJoinedFrom, IsShare, joined, with_prefix}
use Rattle.work_split.specs.Tasks.{IsAt}
use Rattle.lk_base.proofs.Ranges.{two_parts}

-- the shares, one after the other, are together of the numbers from `start` up to `end`
abbrev pub AreShares : {X : Type 0} → (ℕ → List Defect) → (ℕ → X → Type 0) → (start end : ℕ) → List (Result (Vec X) LinkStop) → Type 0
AreShares defects Is start end [] = start ≡ end
AreShares defects Is start end (share ∷ shares) =
    (middle : ℕ) × (start ≤ middle) × IsShare defects Is start middle share × AreShares defects Is middle end shares

-- one list after the other
each_append : {X : Type 0} (Is : ℕ → X → Type 0) (a b c : ℕ) (xs ys : List X) → EachFrom Is a b xs → EachFrom Is b c ys → EachFrom Is a c (xs ++ ys)
each_append Is a b c [] ys same each = let P : ℕ → Type 0 = λ k. EachFrom Is k c ys in subst P (sym same) each
each_append Is a b c (x ∷ xs) ys held each = (held.0, each_append Is (a + 1) b c xs ys held.1 each)

each_push : {X : Type 0} (Is : ℕ → X → Type 0) (a b : ℕ) (xs : List X) (x : X) → EachFrom Is a b xs → Is b x → EachFrom Is a (b + 1) (xs ++ x ∷ [])
each_push Is a b xs x held here = each_append Is a b (b + 1) xs (x ∷ []) held (here, refl)

pub each_pushed : {X : Type 0} (Is : ℕ → X → Type 0) (a b : ℕ) (old new : List X) (x : X) → new ≡ old ++ x ∷ [] → EachFrom Is a b old → Is b x → EachFrom Is a (b + 1) new
each_pushed {X} Is a b old new x is held here = let P : List X → Type 0 = λ l. EachFrom Is a (b + 1) l in subst P (sym is) (each_push Is a b old x held here)

pub each_rises : {X : Type 0} (Is : ℕ → X → Type 0) (a b : ℕ) (xs : List X) → EachFrom Is a b xs → a + length xs ≡ b
each_rises Is a b [] held = omega (arith, held)
each_rises Is a b (x ∷ xs) held = omega (arith, each_rises Is (a + 1) b xs held.1)

-- what all shares together say
Outcome : {X : Type 0} → (ℕ → List Defect) → (ℕ → X → Type 0) → (a b : ℕ) → Result (List X) LinkStop → Type 0
Outcome f Is a b (Ok xs) = (flat_map f (range_with_len a (b - a)) ≡ []) × EachFrom Is a b xs
Outcome f Is a b (Err stop) = StopsAt stop (flat_map f (range_with_len a (b - a)))

shares_rise : {X : Type 0} (f : ℕ → List Defect) (Is : ℕ → X → Type 0) (a b : ℕ) (rs : List (Result (Vec X) LinkStop)) → AreShares f Is a b rs → a ≤ b
shares_rise f Is a b [] same = omega (arith, same)
shares_rise f Is a b (r ∷ rs) (middle, low, share, more) = let high = shares_rise f Is middle b rs more in omega arith

-- a stop in the first of two lists
stops_earlier : (xs ys : List Defect) (stop : LinkStop) → StopsAt stop xs → StopsAt stop (xs ++ ys)
stops_earlier xs ys (stops.Defect first) begins = (begins.0 ++ ys, ap (λ l. l ++ ys) begins.1)
stops_earlier xs ys stops.Memory begins = tt

stops_later : (stop : LinkStop) (xs ys : List Defect) → xs ≡ [] → StopsAt stop ys → StopsAt stop (xs ++ ys)
stops_later stop xs ys none at = let P : List Defect → Type 0 = λ l. StopsAt stop (l ++ ys) in subst P (sym none) at

no_piece : {X : Type 0} (f : ℕ → List X) (a b : ℕ) → a ≡ b → flat_map f (range_with_len a (b - a)) ≡ []
no_piece f a b same = let e : b - a ≡ 0 = omega arith in ap (λ k. flat_map f (range_with_len a k)) e

prefix_outcome : {X : Type 0} (f : ℕ → List Defect) (Is : ℕ → X → Type 0) (a m b : ℕ) (prefix : List X) (o : Result (List X) LinkStop) → a ≤ m → m ≤ b →
    flat_map f (range_with_len a (m - a)) ≡ [] → EachFrom Is a m prefix → Outcome f Is m b o → Outcome f Is a b (with_prefix prefix o)
unfolding Outcome
prefix_outcome f Is a m b prefix (Ok rest) low high none each so = (
  two_parts f a m b low high ∙ ap (λ l. l ++ flat_map f (range_with_len m (b - m))) none ∙ so.0,
  each_append Is a m b prefix rest each so.1,
)
prefix_outcome f Is a m b prefix (Err stop) low high none each so =
    let P : List Defect → Type 0 = λ l. StopsAt stop l in
    subst P (sym (two_parts f a m b low high)) (stops_later stop (flat_map f (range_with_len a (m - a))) (flat_map f (range_with_len m (b - m))) none so)

outcome : {X : Type 0} (f : ℕ → List Defect) (Is : ℕ → X → Type 0) (a b : ℕ) (rs : List (Result (Vec X) LinkStop)) → AreShares f Is a b rs → Outcome f Is a b (joined rs)
unfolding joined Outcome
outcome f Is a b [] same = (no_piece f a b same, same)
outcome f Is a b (Ok list ∷ rs) (middle, low, share, more) =
    prefix_outcome f Is a middle b list.items (joined rs) low (shares_rise f Is middle b rs more) share.goes share.each (outcome f Is middle b rs more)
outcome f Is a b (Err stop ∷ rs) (middle, low, share, more) =
    let P : List Defect → Type 0 = λ l. StopsAt stop l in
    subst P (sym (two_parts f a middle b low (shares_rise f Is middle b rs more)))
    (stops_earlier (flat_map f (range_with_len a (middle - a))) (flat_map f (range_with_len middle (b - middle))) stop share.goes)

share_from : {X : Type 0} (f : ℕ → List Defect) (Is : ℕ → X → Type 0) (a b : ℕ) (o : Result (List X) LinkStop) (r : Result (Vec X) LinkStop) →
    Outcome f Is a b o → IsJoined o r → IsShare f Is a b r
unfolding Outcome
share_from f Is a b o (Ok list) so is =
    let held : Outcome f Is a b (Ok list.items) = subst (Outcome f Is a b) is so in
    record { goes = held.0; each = held.1 }
share_from f Is a b o (Err (stops.Defect first)) so is =
    let held : Outcome f Is a b (Err (stops.Defect first)) = subst (Outcome f Is a b) is so in
    record { goes = held; each = tt }
share_from f Is a b o (Err stops.Memory) so is = record { goes = tt; each = tt }

-- shares that are joined are one share of all
pub join_is : {X : Type 0} (f : ℕ → List Defect) (Is : ℕ → X → Type 0) (a b : ℕ) (rs : List (Result (Vec X) LinkStop)) (r : Result (Vec X) LinkStop) →
    AreShares f Is a b rs → IsJoined (joined rs) r → IsShare f Is a b r
join_is f Is a b rs r are is = share_from f Is a b (joined rs) r (outcome f Is a b rs are) is

-- what holds of the answer at each place holds share by share
pub given_from : {X : Type 0} (Gives : Range ℕ → Result (Vec X) LinkStop → Type 0) (ps : List (Range ℕ)) (rs : List (Result (Vec X) LinkStop)) →
    length rs ≡ length ps → ((w : ℕ) (p : Range ℕ) (r : Result (Vec X) LinkStop) → w < length ps → IsAt ps w p → IsAt rs w r → Gives p r) → AreGivenBy Gives ps rs
given_from Gives [] [] count each = refl
given_from Gives [] (r ∷ rs) count each = absurd (omega (arith, count))
given_from Gives (p ∷ ps) [] count each = absurd (omega (arith, count))
given_from Gives (p ∷ ps) (r ∷ rs) count each =
    (each zero p r (omega arith) refl refl, given_from Gives ps rs (omega (arith, count)) (λ w q s lt at_q at_s. each (suc w) q s (omega arith) at_q at_s))

-- the same of the answers of `over_pieces`, whose tasks are given nothing else
pub answers_from : {X E : Type 0} (Gives : Range ℕ → Result (Vec X) LinkStop → Type 0) (ps : List (Range ℕ)) (given : List (Unit {0})) (r : Result (Vec (Result (Vec X) LinkStop)) E) →
    length ps ≡ length given →
    IfOk r (λ answers. length answers.items ≡ length ps) →
    IfOk r (λ answers. (w : ℕ) (p : Range ℕ) (x : Unit {0}) (y : Result (Vec X) LinkStop) → w < length ps → IsAt ps w p → IsAt given w x → IsAt answers.items w y → Range ℕ × Gives p y) →
    IfOk r (λ answers. AreGivenBy Gives ps answers.items)
answers_from Gives ps given (Err e) many count each = tt
answers_from Gives ps given (Ok answers) many count each =
    given_from Gives ps answers.items count
    (λ w p y lt at_p at_y. (each w p (get_or given w tt) y lt at_p (get_or_default given w tt (get_or given w tt) (omega arith)) at_y).1)

-- shares of pieces that tile
given_are : {X : Type 0} (f : ℕ → List Defect) (Is : ℕ → X → Type 0) (Gives : Range ℕ → Result (Vec X) LinkStop → Type 0) (a b : ℕ) (ps : List (Range ℕ)) (rs : List (Result (Vec X) LinkStop)) →
    ((p : Range ℕ) (r : Result (Vec X) LinkStop) → Gives p r → IsShare f Is p.start p.end r) → Tiles a b ps → AreGivenBy Gives ps rs → AreShares f Is a b rs
given_are f Is Gives a b [] [] gives tiles given = tiles
given_are f Is Gives a b [] (r ∷ rs) gives tiles given = cc
given_are f Is Gives a b (p ∷ ps) [] gives tiles given = absurd given
given_are f Is Gives a b (p ∷ ps) (r ∷ rs) gives tiles given =
    let P : ℕ → Type 0 = λ k. IsShare f Is k p.end r in
    let some = tiles.1 in
    (p.end, omega arith, subst P tiles.0 (gives p r given.0), given_are f Is Gives p.end b ps rs gives tiles.2 given.1)

-- a loop that joins: one more share; a share that has stopped
before : {X : Type 0} → Result (List X) LinkStop → List X → Result (List X) LinkStop
before (Ok xs) ys = Ok (xs ++ ys)
before (Err stop) ys = Err stop

prefix_before : {X : Type 0} (prefix : List X) (o : Result (List X) LinkStop) (ys : List X) → with_prefix prefix (before o ys) ≡ before (with_prefix prefix o) ys
unfolding before
prefix_before prefix (Ok xs) ys = ap (λ l. Ok l) (sym (append_assoc prefix xs ys))
prefix_before prefix (Err stop) ys = refl

one_more : {X : Type 0} (rs : List (Result (Vec X) LinkStop)) (list : Vec X) → joined (rs ++ Ok list ∷ []) ≡ before (joined rs) list.items
unfolding joined before
one_more [] list = ap (λ l. Ok l) (append-nil list.items)
one_more (Ok prefix ∷ rs) list = ap (with_prefix prefix.items) (one_more rs list) ∙ prefix_before prefix.items (joined rs) list.items
one_more (Err stop ∷ rs) list = refl

pub joined_more : {X : Type 0} (rs : List (Result (Vec X) LinkStop)) (xs new : List X) (share : Result (Vec X) LinkStop) (list : Vec X) →
    joined rs ≡ Ok xs → share ≡ Ok list → new ≡ xs ++ list.items → joined (rs ++ share ∷ []) ≡ Ok new
unfolding before
joined_more {X} rs xs new share list is here grown =
    ap (λ (s : Result (Vec X) LinkStop). joined (rs ++ s ∷ [])) here ∙ one_more rs list ∙ ap (λ (o : Result (List X) LinkStop). before o list.items) is
    ∙ ap (λ (l : List X). Ok l) (sym grown)

pub joined_none : {X : Type 0} (xs : List X) → xs ≡ [] → joined {X = X} [] ≡ Ok xs
unfolding joined
joined_none {X} xs none = ap (λ (l : List X). Ok l) (sym none)

halted : {X : Type 0} → Result (List X) LinkStop → LinkStop → Result (List X) LinkStop
halted (Ok xs) stop = Err stop
halted (Err first) stop = Err first

prefix_halted : {X : Type 0} (prefix : List X) (o : Result (List X) LinkStop) (stop : LinkStop) → with_prefix prefix (halted o stop) ≡ halted (with_prefix prefix o) stop
unfolding halted
prefix_halted prefix (Ok xs) stop = refl
prefix_halted prefix (Err first) stop = refl

halt : {X : Type 0} (rs later : List (Result (Vec X) LinkStop)) (stop : LinkStop) → joined (rs ++ Err stop ∷ later) ≡ halted (joined rs) stop
unfolding joined halted
halt [] later stop = refl
halt (Ok prefix ∷ rs) later stop = ap (with_prefix prefix.items) (halt rs later stop) ∙ prefix_halted prefix.items (joined rs) stop
halt (Err first ∷ rs) later stop = refl

pub joined_stops : {X : Type 0} (rs items later whole : List (Result (Vec X) LinkStop)) (xs : List X) (share : Result (Vec X) LinkStop) (stop : LinkStop) →
    joined rs ≡ Ok xs → rs ++ items ≡ whole → items ≡ share ∷ later → share ≡ Err stop → IsJoined (joined whole) (Err stop)
unfolding halted
joined_stops {X} rs items later whole xs share (stops.Defect first) is held next here =
    sym (ap joined held)
    ∙ ap (λ (l : List (Result (Vec X) LinkStop)). joined (rs ++ l)) next
    ∙ ap (λ (s : Result (Vec X) LinkStop). joined (rs ++ s ∷ later)) here
    ∙ halt rs later (stops.Defect first) ∙ ap (λ (o : Result (List X) LinkStop). halted o (stops.Defect first)) is
joined_stops rs items later whole xs share stops.Memory is held next here = tt

-- one share more from an iterator
pub taken_more : {X : Type 0} (taken items rest all : List X) (x : X) → taken ++ items ≡ all → items ≡ x ∷ rest → (taken ++ x ∷ []) ++ rest ≡ all
taken_more {X} taken items rest all x is next = append_assoc taken (x ∷ []) rest ∙ ap (λ (l : List X). taken ++ l) (sym next) ∙ is

pub taken_all : {X : Type 0} (taken items all : List X) → taken ++ items ≡ all → length items ≡ 0 → taken ≡ all
taken_all {X} taken items all is none = sym (append-nil taken) ∙ ap (λ (l : List X). taken ++ l) (sym (nil_from_length items none)) ∙ is

-- a share of all numbers from 0 on
pub whole_goes : {X : Type 0} (f : ℕ → List Defect) (Is : ℕ → X → Type 0) (n : ℕ) (r : Result (Vec X) LinkStop) → IsShare f Is 0 n r → Goes r (flat_map f (range_with_len 0 n))
whole_goes f Is n r share =
    let P : ℕ → Type 0 = λ k. Goes r (flat_map f (range_with_len 0 k)) in
    let e : n - 0 ≡ n = omega arith in
    subst P e share.goes

-- what `over_shares` gives if each task gives the share of its piece: the share of all
pub joined_share : {X : Type 0} (f : ℕ → List Defect) (Is : ℕ → X → Type 0) (Gives : Range ℕ → Result (Vec X) LinkStop → Type 0) (a b : ℕ) (ps : List (Range ℕ)) (r : Result (Vec X) LinkStop) →
    ((p : Range ℕ) (s : Result (Vec X) LinkStop) → Gives p s → IsShare f Is p.start p.end s) → Tiles a b ps → IsJoinedFrom Gives ps r → IsShare f Is a b r
joined_share f Is Gives a b ps r gives tiles (inl memory) =
    let P : Result (Vec _) LinkStop → Type 0 = IsShare f Is a b in subst P (sym memory) (record { goes = tt; each = tt })
joined_share f Is Gives a b ps r gives tiles (inr (shares, given, is)) = join_is f Is a b shares r (given_are f Is Gives a b ps shares gives tiles given) is
