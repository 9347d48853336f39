-- What a closed table gives.
use Rattle.std.proofs.Common.{◌≡◌, ℕ, zero, suc, ◌<◌, ◌≤◌, List, [], length, max, take, get_or, true, Contains, refl, sym, ◌∙◌, subst, ⊎_elim, arith}
use Rattle.std.proofs.lemmas.List.{length-replicate, get_or-replicate, get_or_past, get_or-take, length-take-le, take_all, ext_get_or}
use Rattle.std.proofs.lemmas.List.Elements.{All-nil, All-contains}
use Rattle.std.proofs.lemmas.Bool.{cases_lt}
use mathlib.Core.Option.{some}
use lib.ListN.{get_elem?}
use Rattle.atomic_table.specs.Table.{State}
use Rattle.claim_core.specs.declared.events.Event.{Event}
use Rattle.claim_core.specs.declared.events.TheConstants.{NONE}
use Rattle.claim_core.specs.Events.{none_of, after, IsReached, EachIsOffered, EachIsLeast, DrawsEach}
use Rattle.claim_core.proofs.EventLemmas.{length-after, after_falls, least-after, least-unique, IsReached-offered, IsReached-fits}
use Rattle.rank_claims.specs.declared.rule.View.{View}
use Rattle.rank_claims.specs.Claims.{TableView, SeatView, HasClaimed, HasClaimedEach, IsClosing}
use Rattle.rank_claims.specs.Rule.{Fits, Kept, Covers}

-- the words that calls can name: all of them, or none in a table for no words
IsReached-take : (offers : List Event) (ws : List ℕ) (n : ℕ) → length ws ≡ max n 1 → IsReached offers ws → IsReached offers (take n ws)
IsReached-take offers ws zero wide r = record { events = []; offered = All-nil (Contains offers); leads = refl }
IsReached-take offers ws (suc k) wide r = let P : List ℕ → Type 0 = IsReached offers in subst P (sym (take_all (suc k) ws (omega arith))) r

-- words that are least offers and fit 64 bits are what any list of all the offers leads to
agreement : (offers : List Event) (ws : List ℕ) (n : ℕ) → length ws ≡ n → ((w : ℕ) → get_or ws w 0 ≤ NONE) → EachIsLeast offers ws → (es : List Event) → DrawsEach offers es → ws ≡ after (none_of n) es
agreement offers ws n wide fits least es draws =
    let other : List ℕ = after (none_of n) es in
    let long : length other ≡ n = length-after (none_of n) es ∙ length-replicate n NONE in
    ext_get_or 0 ws other (wide ∙ sym long) (λ w lt.
    let below : get_or other w 0 ≤ NONE = omega (arith, after_falls (none_of n) es w, get_or-replicate n w NONE 0 (omega arith)) in
    least-unique offers w (get_or ws w 0) (get_or other w 0) (fits w) below (least w lt) (least-after offers n es draws w (omega arith)))

claimed_least : (offers : List Event) (v : View) (ws : List ℕ) → EachIsOffered offers ws → ((w : ℕ) → get_or ws w 0 ≤ get_or v.known w 0) → Covers v.known v.steps → HasClaimedEach offers v.steps → EachIsLeast offers ws
claimed_least offers v ws each above covers has w lt = record {
  offered = each w lt;
  least = λ e on is.
      let got = All-contains (HasClaimed v.steps) offers e has on in
      let P : ℕ → Type 0 = λ k. get_or ws k 0 ≤ e.rank in
      subst P is (omega (arith, above e.word, covers e got.0 got.1));
}

pub closing : (t : TableView) (s : SeatView) (v : View) (ws : List ℕ) → s.offers ≡ v.offers → s.known ≡ v.known → s.steps ≡ v.steps
    → length ws ≡ max t.words 1 → IsReached t.offers ws → Fits t.words t.offers ws v → Covers v.known v.steps → IsClosing t s (take t.words ws)
closing t s v ws offers known steps wide reached f covers =
    let n : ℕ = t.words in
    let row : List ℕ = take n ws in
    let count : length row ≡ n = length-take-le n ws (omega arith) in
    let reached' = IsReached-take t.offers ws n wide reached in
    let each = IsReached-offered t.offers row reached' in
    let above : (w : ℕ) → get_or row w 0 ≤ get_or v.known w 0 = λ w. ⊎_elim
    (λ (lt : w < n). omega (arith, get_or-take n ws w 0 lt, f.above w lt))
    (λ (past : n ≤ w). omega (arith, get_or_past row w 0 (omega arith)))
    (cases_lt w n) in
    let least : HasClaimedEach t.offers s.steps → EachIsLeast t.offers row = λ has. claimed_least t.offers v row each above covers (subst (HasClaimedEach t.offers) steps has) in record {
      one_list = offers ∙ f.one_list;
      count = count;
      reached = reached';
      offered = each;
      at_most_known = λ w. let P : List ℕ → Type 0 = λ k. get_or row w 0 ≤ get_or k w 0 in subst P (sym known) (above w);
      least = least;
      agrees = λ has es draws. agreement t.offers row n count (IsReached-fits t.offers row reached') (least has) es draws;
    }

-- the table's last state keeps the rule, and has the view of the seat that closes it
pub ending : (count : ℕ) (t : TableView) (s : SeatView) (v : View) (id : ℕ) (st : State (Unit {0}) View) (ws : List ℕ) → count ≡ t.words → s.offers ≡ v.offers → s.known ≡ v.known → s.steps ≡ v.steps
    → Kept count t.offers st → get_elem? st.views id ≡ some v → v.live ≡ true → st.words ≡ ws → Covers v.known v.steps → IsClosing t s (take t.words ws)
ending count t s v id st ws counts offers known steps kept at live same covers =
    let P : ℕ → List ℕ → Type 0 = λ n l. (length l ≡ max n 1) × IsReached t.offers l × Fits n t.offers l v in
    let rule : P t.words ws = subst (λ (n : ℕ). P n ws) counts (subst (P count) same (kept.wide, kept.reached, kept.each id v at live)) in
    closing t s v ws offers known steps rule.0 rule.1 rule.2 covers
