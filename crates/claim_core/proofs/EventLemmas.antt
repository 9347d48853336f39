-- What events do to a row of words: each word only falls, and only to a rank that an event offered for it.
use Rattle.std.proofs.Common.{◌≡◌, ◌≢◌, ℕ, zero, suc, ◌<◌, ◌≤◌, ◌↔◌, List, [], ◌∷◌, ◌++◌, length, min, get_or, All, Contains, refl, sym, ap, ◌∙◌, subst, inl, inr, ⊎_elim, arith}
use Rattle.std.proofs.lemmas.List.{length-set, length-replicate, get_or-replicate, get_or-set_same, get_or-set_other, get_or_past, ext_get_or}
use Rattle.std.proofs.lemmas.List.Elements.{All-nil, All-push, All-head, All-tail, All-contains}
use Rattle.std.proofs.lemmas.Bool.{cases_eq, cases_lt}
use Rattle.claim_core.specs.declared.events.Event.{Event}
use Rattle.claim_core.specs.declared.events.TheConstants.{NONE}
use Rattle.claim_core.specs.Events.{event, none_of, lowered, after, IsReached, IsOffered, EachIsOffered, IsLeast, EachIsLeast, DrawsEach}

pub length-lowered : (ws : List ℕ) (e : Event) → length (lowered ws e) ≡ length ws
length-lowered ws e = length-set ws e.word (min (get_or ws e.word 0) e.rank)

pub length-after : (ws : List ℕ) (es : List Event) → length (after ws es) ≡ length ws
length-after ws [] = refl
length-after ws (e ∷ es) = length-after (lowered ws e) es ∙ length-lowered ws e

-- one more event at the end
pub after-push : (ws : List ℕ) (es : List Event) (e : Event) → after ws (es ++ e ∷ []) ≡ lowered (after ws es) e
after-push ws [] e = refl
after-push ws (x ∷ xs) e = after-push (lowered ws x) xs e

-- the word of the event becomes the lesser of itself and the rank
pub lowered_at : (ws : List ℕ) (e : Event) → e.word < length ws → get_or (lowered ws e) e.word 0 ≡ min (get_or ws e.word 0) e.rank
lowered_at ws e h = get_or-set_same ws e.word (min (get_or ws e.word 0) e.rank) 0 h

-- each other word stays
pub lowered_else : (ws : List ℕ) (e : Event) (w : ℕ) → w ≢ e.word → get_or (lowered ws e) w 0 ≡ get_or ws w 0
lowered_else ws e w ne = get_or-set_other ws e.word w (min (get_or ws e.word 0) e.rank) 0 ne

lowered_at_other : (ws : List ℕ) (e : Event) (w : ℕ) → w < length ws → w ≡ e.word → get_or (lowered ws e) w 0 ≡ min (get_or ws w 0) e.rank
lowered_at_other ws e w h is =
    let P : ℕ → Type 0 = λ k. k < length ws → get_or (lowered ws e) k 0 ≡ min (get_or ws k 0) e.rank in
    subst P (sym is) (lowered_at ws e) h

pub lowered_falls : (ws : List ℕ) (e : Event) (w : ℕ) → get_or (lowered ws e) w 0 ≤ get_or ws w 0
lowered_falls ws e w = ⊎_elim
    (λ (here : w < length ws). ⊎_elim (λ (is : w ≡ e.word). omega (arith, lowered_at_other ws e w here is)) (λ (ne : w ≢ e.word). omega (arith, lowered_else ws e w ne)) (cases_eq w e.word))
    (λ (past : length ws ≤ w). omega (arith, length-lowered ws e, get_or_past (lowered ws e) w 0 (omega (arith, length-lowered ws e))))
    (cases_lt w (length ws))

-- a word only falls
pub after_falls : (ws : List ℕ) (es : List Event) (w : ℕ) → get_or (after ws es) w 0 ≤ get_or ws w 0
after_falls ws [] w = omega arith
after_falls ws (e ∷ es) w = omega (arith, after_falls (lowered ws e) es w, lowered_falls ws e w)

-- no word is above the rank of an event on it
pub after_below : (ws : List ℕ) (es : List Event) (e : Event) → e.word < length ws → Contains es e → get_or (after ws es) e.word 0 ≤ e.rank
after_below ws [] e h has = absurd (let n : has.0 < 0 = has.1 in omega arith)
after_below ws (x ∷ xs) e h (zero, lt, is) =
    let P : Event → Type 0 = λ y. get_or (after (lowered ws y) xs) e.word 0 ≤ e.rank in
    subst P (sym is) (omega (arith, after_falls (lowered ws e) xs e.word, lowered_at ws e h))
after_below ws (x ∷ xs) e h (suc k, lt, is) = after_below (lowered ws x) xs e (omega (arith, length-lowered ws x)) (k, omega arith, is)

named : (offers : List Event) (e : Event) (w : ℕ) → w ≡ e.word → Contains offers e → Contains offers (event w e.rank)
named offers e w is has = let P : ℕ → Type 0 = λ k. Contains offers (event k e.rank) in subst P (sym is) has

lesser : (offers : List Event) (w x y : ℕ) → IsOffered offers w x → IsOffered offers w y → IsOffered offers w (min x y)
lesser offers w x y p q = ⊎_elim
    (λ (lt : x < y). let P : ℕ → Type 0 = IsOffered offers w in let e : x ≡ min x y = omega arith in subst P e p)
    (λ (ge : y ≤ x). let P : ℕ → Type 0 = IsOffered offers w in let e : y ≡ min x y = omega arith in subst P e q)
    (cases_lt x y)

-- an event of the offers leaves NONE or a rank on offer in each word
pub IsOffered-lowered : (offers : List Event) (ws : List ℕ) (e : Event) → Contains offers e → EachIsOffered offers ws → EachIsOffered offers (lowered ws e)
IsOffered-lowered offers ws e has each w h =
    let here : w < length ws = omega (arith, length-lowered ws e) in
    let P : ℕ → Type 0 = IsOffered offers w in
    ⊎_elim
    (λ (is : w ≡ e.word). subst P (sym (lowered_at_other ws e w here is)) (lesser offers w (get_or ws w 0) e.rank (each w here) (inr (named offers e w is has))))
    (λ (ne : w ≢ e.word). subst P (sym (lowered_else ws e w ne)) (each w here))
    (cases_eq w e.word)

pub IsOffered-after : (offers : List Event) (ws : List ℕ) (es : List Event) → All (Contains offers) es → EachIsOffered offers ws → EachIsOffered offers (after ws es)
IsOffered-after offers ws [] all each = each
IsOffered-after offers ws (e ∷ es) all each = IsOffered-after offers (lowered ws e) es (All-tail (Contains offers) e es all) (IsOffered-lowered offers ws e (All-head (Contains offers) e es all) each)

pub IsOffered-none_of : (offers : List Event) (n : ℕ) → EachIsOffered offers (none_of n)
IsOffered-none_of offers n w h = inl (get_or-replicate n w NONE 0 (omega (arith, length-replicate n NONE)))

-- each word of a row that the offers reach is NONE or on offer
pub IsReached-offered : (offers : List Event) (ws : List ℕ) → IsReached offers ws → EachIsOffered offers ws
IsReached-offered offers ws r =
    let P : List ℕ → Type 0 = EachIsOffered offers in
    subst P r.leads (IsOffered-after offers (none_of (length ws)) r.events r.offered (IsOffered-none_of offers (length ws)))

-- no word of such a row is above NONE
pub IsReached-fits : (offers : List Event) (ws : List ℕ) → IsReached offers ws → (w : ℕ) → get_or ws w 0 ≤ NONE
IsReached-fits offers ws r w =
    let n : ℕ = length ws in
    let falls = after_falls (none_of n) r.events w in
    let is : get_or (after (none_of n) r.events) w 0 ≡ get_or ws w 0 = ap (λ (l : List ℕ). get_or l w 0) r.leads in
    ⊎_elim
    (λ (here : w < n). omega (arith, get_or-replicate n w NONE 0 here))
    (λ (past : n ≤ w). omega (arith, get_or_past ws w 0 past))
    (cases_lt w n)

-- events of the offers that lead to the first k of the words, and leave the others
record Reaching (offers : List Event) (ws : List ℕ) (k : ℕ) : Type 0 where
  events : List Event
  offered : All (Contains offers) events
  done : (w : ℕ) → w < k → get_or (after (none_of (length ws)) events) w 0 ≡ get_or ws w 0
  left : (w : ℕ) → k ≤ w → w < length ws → get_or (after (none_of (length ws)) events) w 0 ≡ NONE

further : (offers : List Event) (ws : List ℕ) (k : ℕ) → k < length ws → get_or ws k 0 ≤ NONE → Reaching offers ws k → IsOffered offers k (get_or ws k 0) → Reaching offers ws (suc k)
further offers ws k h fits r is = ⊎_elim
    (λ (same : get_or ws k 0 ≡ NONE). record {
      events = r.events;
      offered = r.offered;
      done = λ w lt. ⊎_elim
          (λ (at : w ≡ k). let P : ℕ → Type 0 = λ v. get_or (after (none_of (length ws)) r.events) v 0 ≡ get_or ws v 0 in subst P (sym at) (r.left k (omega arith) h ∙ sym same))
          (λ (ne : w ≢ k). r.done w (omega arith))
          (cases_eq w k);
      left = λ w le lt. r.left w (omega arith) lt;
    })
    (λ (has : Contains offers (event k (get_or ws k 0))).
    let n : ℕ = length ws in
    let x : ℕ = get_or ws k 0 in
    let e : Event = event k x in
    let before : List ℕ = after (none_of n) r.events in
    let wide : k < length before = omega (arith, length-after (none_of n) r.events, length-replicate n NONE) in
    let more : (w : ℕ) → get_or (after (none_of n) (r.events ++ e ∷ [])) w 0 ≡ get_or (lowered before e) w 0 = λ w. ap (λ (l : List ℕ). get_or l w 0) (after-push (none_of n) r.events e) in
    let here : get_or (lowered before e) k 0 ≡ x = omega (arith, lowered_at before e wide, r.left k (omega arith) h) in
    record {
      events = r.events ++ e ∷ [];
      offered = All-push (Contains offers) r.events e r.offered has;
      done = λ w lt. ⊎_elim
          (λ (at : w ≡ k). let P : ℕ → Type 0 = λ v. get_or (after (none_of n) (r.events ++ e ∷ [])) v 0 ≡ get_or ws v 0 in subst P (sym at) (more k ∙ here))
          (λ (ne : w ≢ k). more w ∙ lowered_else before e w ne ∙ r.done w (omega arith))
          (cases_eq w k);
      left = λ w le lt. let ne : w ≢ k = omega arith in more w ∙ lowered_else before e w ne ∙ r.left w (omega arith) lt;
    })
    is

reaching : (offers : List Event) (ws : List ℕ) → ((w : ℕ) → w < length ws → get_or ws w 0 ≤ NONE) → EachIsOffered offers ws → (k : ℕ) → k ≤ length ws → Reaching offers ws k
reaching offers ws fits each zero h = record {
  events = [];
  offered = All-nil (Contains offers);
  done = λ w lt. absurd (omega arith);
  left = λ w le lt. get_or-replicate (length ws) w NONE 0 lt;
}
reaching offers ws fits each (suc k) h = further offers ws k (omega arith) (fits k (omega arith)) (reaching offers ws fits each k (omega arith)) (each k (omega arith))

-- words of which each is NONE or on offer are reached: by one event for each word that is filled
pub offered-IsReached : (offers : List Event) (ws : List ℕ) → ((w : ℕ) → w < length ws → get_or ws w 0 ≤ NONE) → EachIsOffered offers ws → IsReached offers ws
offered-IsReached offers ws fits each =
    let r = reaching offers ws fits each (length ws) (omega arith) in
    let wide : length (after (none_of (length ws)) r.events) ≡ length ws = length-after (none_of (length ws)) r.events ∙ length-replicate (length ws) NONE in
    record {
      events = r.events;
      offered = r.offered;
      leads = ext_get_or 0 (after (none_of (length ws)) r.events) ws wide (λ w lt. r.done w (omega arith));
    }

-- over every list that has each offer, the words end as their least offers
pub least-after : (offers : List Event) (n : ℕ) (es : List Event) → DrawsEach offers es → EachIsLeast offers (after (none_of n) es)
least-after offers n es draws w h = record {
  offered = IsOffered-after offers (none_of n) es draws.0 (IsOffered-none_of offers n) w h;
  least = λ e has is.
      let here : e.word < length (none_of n) = omega (arith, length-after (none_of n) es) in
      let P : ℕ → Type 0 = λ v. get_or (after (none_of n) es) v 0 ≤ e.rank in
      subst P is (after_below (none_of n) es e here (All-contains (Contains es) offers e draws.1 has));
}

-- there is one such number, where both are at most NONE
pub least-unique : (offers : List Event) (w x y : ℕ) → x ≤ NONE → y ≤ NONE → IsLeast offers w x → IsLeast offers w y → x ≡ y
least-unique offers w x y p q a b = ⊎_elim
    (λ (none : x ≡ NONE). ⊎_elim (λ (also : y ≡ NONE). omega arith) (λ (has : Contains offers (event w y)). let le : x ≤ y = a.least (event w y) has refl in omega arith) b.offered)
    (λ (has : Contains offers (event w x)). let le : y ≤ x = b.least (event w x) has refl in
    ⊎_elim (λ (also : y ≡ NONE). omega arith) (λ (other : Contains offers (event w y)). let ge : x ≤ y = a.least (event w y) other refl in omega arith) b.offered)
    a.offered

-- the law of reached words
pub IsReached-exactly : (offers : List Event) (ws : List ℕ) → ((w : ℕ) → w < length ws → get_or ws w 0 ≤ NONE) → IsReached offers ws ↔ EachIsOffered offers ws
IsReached-exactly offers ws fits = (IsReached-offered offers ws, offered-IsReached offers ws fits)
