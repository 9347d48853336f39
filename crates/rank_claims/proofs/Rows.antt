-- The lesser of two rows, what claims cover, and a list read by `get_elem?`.
use Rattle.std.proofs.Common.{◌≡◌, ◌≢◌, ℕ, zero, suc, ◌<◌, ◌≤◌, List, [], ◌∷◌, ◌++◌, length, min, get_or, set, Contains, refl, sym, ap, subst, ⊎_elim, arith}
use Rattle.std.proofs.lemmas.List.{get_or-set_same, get_or-set_other, get_or_past, set_past}
use Rattle.std.proofs.lemmas.List.Elements.{Contains-append_cases, Contains-push_cases}
use Rattle.std.proofs.lemmas.Bool.{cases_eq, cases_lt}
use mathlib.Core.Option.{some, some-injective, some-ne-none}
use lib.ListN.{get_elem?}
use Rattle.claim_core.specs.declared.events.Event.{Event}
use Rattle.rank_claims.specs.declared.rule.OwnStep.{OwnStep}
use Rattle.rank_claims.specs.declared.rule.OwnStep.TheVariants.{Claimed, Read, SplitOff}
use Rattle.rank_claims.specs.Claims.{lesser_of}
use Rattle.rank_claims.specs.Rule.{Covers}

pub length-lesser_of : (xs ys : List ℕ) → length xs ≡ length ys → length (lesser_of xs ys) ≡ length xs
length-lesser_of [] ys h = refl
length-lesser_of (x ∷ xs) [] h = absurd (omega arith)
length-lesser_of (x ∷ xs) (y ∷ ys) h = ap suc (length-lesser_of xs ys (omega arith))

pub lesser_of-le_left : (xs ys : List ℕ) (w : ℕ) → get_or (lesser_of xs ys) w 0 ≤ get_or xs w 0
lesser_of-le_left [] ys w = omega arith
lesser_of-le_left (x ∷ xs) [] w = omega arith
lesser_of-le_left (x ∷ xs) (y ∷ ys) zero = omega arith
lesser_of-le_left (x ∷ xs) (y ∷ ys) (suc w) = lesser_of-le_left xs ys w

pub lesser_of-le_right : (xs ys : List ℕ) (w : ℕ) → get_or (lesser_of xs ys) w 0 ≤ get_or ys w 0
lesser_of-le_right [] ys w = omega arith
lesser_of-le_right (x ∷ xs) [] w = omega arith
lesser_of-le_right (x ∷ xs) (y ∷ ys) zero = omega arith
lesser_of-le_right (x ∷ xs) (y ∷ ys) (suc w) = lesser_of-le_right xs ys w

pub le-lesser_of : (n : ℕ) (xs ys : List ℕ) (w : ℕ) → n ≤ get_or xs w 0 → n ≤ get_or ys w 0 → n ≤ get_or (lesser_of xs ys) w 0
le-lesser_of n [] ys w p q = p
le-lesser_of n (x ∷ xs) [] w p q = q
le-lesser_of n (x ∷ xs) (y ∷ ys) zero p q = omega arith
le-lesser_of n (x ∷ xs) (y ∷ ys) (suc w) p q = le-lesser_of n xs ys w p q

-- a word that is written is the new number, or past the end
written : (xs : List ℕ) (w n : ℕ) → get_or (set xs w n) w 0 ≤ n
written xs w n = ⊎_elim
    (λ (here : w < length xs). omega (arith, get_or-set_same xs w n 0 here))
    (λ (past : length xs ≤ w). omega (arith, ap (λ (l : List ℕ). get_or l w 0) (set_past xs w n past), get_or_past xs w 0 past))
    (cases_lt w (length xs))

-- if no more is written than was there, no number rises
pub written_falls : (xs : List ℕ) (w n k : ℕ) → n ≤ get_or xs w 0 → get_or (set xs w n) k 0 ≤ get_or xs k 0
written_falls xs w n k h = ⊎_elim
    (λ (at : k ≡ w). let P : ℕ → Type 0 = λ v. get_or (set xs w n) v 0 ≤ get_or xs v 0 in subst P (sym at) (omega (arith, written xs w n)))
    (λ (ne : k ≢ w). omega (arith, get_or-set_other xs w k n 0 ne))
    (cases_eq k w)

pub Covers-claimed : (known : List ℕ) (steps : List OwnStep) (e : Event) (found : ℕ) → found ≤ get_or known e.word 0 → Covers known steps → Covers (set known e.word (min found e.rank)) (steps ++ Claimed e found ∷ [])
Covers-claimed known steps e found le covers e' found' has = ⊎_elim
    (λ (old : Contains steps (Claimed e' found')). omega (arith, covers e' found' old, written_falls known e.word (min found e.rank) e'.word (omega arith)))
    (λ (new : Claimed e found ≡ Claimed e' found'). let same : e ≡ e' = cc in let P : Event → Type 0 = λ y. get_or (set known e.word (min found e.rank)) y.word 0 ≤ y.rank in subst P same (omega (arith, written known e.word (min found e.rank))))
    (Contains-push_cases steps (Claimed e found) (Claimed e' found') has)

pub Covers-looked : (known : List ℕ) (steps : List OwnStep) (word found : ℕ) → found ≤ get_or known word 0 → Covers known steps → Covers (set known word found) (steps ++ Read word found ∷ [])
Covers-looked known steps word found le covers e' found' has = ⊎_elim
    (λ (old : Contains steps (Claimed e' found')). omega (arith, covers e' found' old, written_falls known word found e'.word le))
    (λ (new : Read word found ≡ Claimed e' found'). cc)
    (Contains-push_cases steps (Read word found) (Claimed e' found') has)

pub Covers-split : (known : List ℕ) (steps : List OwnStep) → Covers known steps → Covers known (steps ++ SplitOff ∷ [])
Covers-split known steps covers e found has = ⊎_elim
    (λ (old : Contains steps (Claimed e found)). covers e found old)
    (λ (new : SplitOff ≡ Claimed e found). cc)
    (Contains-push_cases steps SplitOff (Claimed e found) has)

pub Covers-joined : (known others : List ℕ) (steps theirs : List OwnStep) → Covers known steps → Covers others theirs → Covers (lesser_of known others) (steps ++ theirs)
Covers-joined known others steps theirs p q e found has = ⊎_elim
    (λ (mine : Contains steps (Claimed e found)). omega (arith, p e found mine, lesser_of-le_left known others e.word))
    (λ (other : Contains theirs (Claimed e found)). omega (arith, q e found other, lesser_of-le_right known others e.word))
    (Contains-append_cases steps theirs (Claimed e found) has)

-- what a closed table gives at a place is the word there
pub read_at : (xs : List ℕ) (i n : ℕ) → get_elem? xs i ≡ some n → get_or xs i 0 ≡ n
read_at [] i n e = absurd (some-ne-none n (sym e))
read_at (x ∷ xs) zero n e = some-injective x n e
read_at (x ∷ xs) (suc i) n e = read_at xs i n e
