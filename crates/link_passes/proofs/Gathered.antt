-- Heads gathered one after the other.
use Rattle.std.proofs.Common.{◌≡◌, ℕ, zero, suc, Option, false, ◌+◌, ◌<◌, List, [], ◌∷◌, ◌++◌, length, map, sym, ap, ◌∙◌, subst, arith, get_or, take}
use Rattle.std.specs.List.{All, range_with_len}
use Rattle.std.proofs.lemmas.List.{get_or-map, length-map, map-append, take_more}
use Rattle.work_split.specs.Shares.{EachFrom}
use Rattle.lk_tables.proofs.Putting.{given_here, given_within}
use Rattle.lk_tables.specs.declared.heads.Head.{Head}
use Rattle.lk_tables.specs.Files.{no_object}
use Rattle.lk_tables.specs.Gathering.{added}
use Rattle.lk_tables.specs.Heads.{HeadView}
use Rattle.link_passes.specs.Reading.{HasFewSymbols, IsHeadAt}
use Rattle.link_passes.specs.Sources.{Source, headed, source_at}

-- the element of a number
pub each_at : {X : Type 0} (Is : ℕ → X → Type 0) (a b i : ℕ) (xs : List X) (d : X) → EachFrom Is a b xs → i < length xs → Is (a + i) (get_or xs i d)
each_at Is a b i [] d each lt = absurd (omega arith)
each_at Is a b zero (x ∷ xs) d each lt = let P : ℕ → Type 0 = λ k. Is k x in let e : a ≡ a + 0 = omega arith in subst P e each.0
each_at Is a b (suc i) (x ∷ xs) d each lt =
    let P : ℕ → Type 0 = λ k. Is k (get_or xs i d) in
    let e : (a + 1) + i ≡ a + suc i = omega arith in
    subst P e (each_at Is (a + 1) b i xs d each.1 (omega arith))

-- the next of a list that is taken one by one
pub next_is : {X : Type 0} (Is : ℕ → X → Type 0) (n at : ℕ) (yielded items rest all : List X) (x : X) → EachFrom Is 0 n all →
    yielded ++ items ≡ all → items ≡ x ∷ rest → at ≡ length yielded → Is at x
next_is {X} Is n at yielded items rest all x each whole next count =
    let P : ℕ → Type 0 = λ k. Is k (get_or all (length yielded) x) in
    let Q : X → Type 0 = λ y. Is at y in
    let e : 0 + length yielded ≡ at = omega (arith, count) in
    subst Q (given_here yielded items rest all x x whole next)
    (subst P e (each_at Is 0 n (length yielded) all x each (given_within yielded items rest all x whole next)))

-- a head that was read, as a file
pub added_is : (ss : List Source) (f : ℕ) (s : Source) (head : Option Head) → s ≡ source_at ss f → IsHeadAt ss f head →
    added s.bytes head s.member ≡ headed ss f
added_is ss f s head is here =
    ap (λ (x : Source). added x.bytes head x.member) is
    ∙ ap (λ (h : HeadView). record { live = false; member = (source_at ss f).member; bytes = (source_at ss f).bytes; head = h; object = no_object }) here.is

pub all_few : (ss : List Source) (a b : ℕ) (heads : List (Option Head)) → EachFrom (IsHeadAt ss) a b heads → All HasFewSymbols (map (headed ss) (range_with_len a (length heads)))
all_few ss a b [] each i d lt = absurd (omega arith)
all_few ss a b (head ∷ heads) each zero d lt = each.0.few
all_few ss a b (head ∷ heads) each (suc i) d lt = all_few ss (a + 1) b heads each.1 i d (omega arith)

-- one item more, seen by a function
pub map_pushed : {X Y : Type 0} (f : X → Y) (old new : List X) (x : X) → new ≡ old ++ x ∷ [] → map f new ≡ map f old ++ f x ∷ []
map_pushed f old new x is = ap (map f) is ∙ map-append f old (x ∷ [])

pub take_pushed : {X Y : Type 0} (f : X → Y) (xs : List X) (i : ℕ) (d : X) (e : Y) (old new : List Y) → i < length xs → old ≡ take i (map f xs) →
    new ≡ old ++ f (get_or xs i d) ∷ [] → new ≡ take (i + 1) (map f xs)
take_pushed {X} {Y} f xs i d e old new lt held is =
    let room : i < length (map f xs) = omega (arith, length-map xs f) in
    is ∙ ap (λ (l : List Y). l ++ f (get_or xs i d) ∷ []) held
    ∙ ap (λ (y : Y). take i (map f xs) ++ y ∷ []) (sym (get_or-map f xs i d e lt)) ∙ sym (take_more (map f xs) i e room)
