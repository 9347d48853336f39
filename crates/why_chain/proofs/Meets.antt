-- What is met through the relocations of one pair, one after the other.
use Rattle.std.proofs.Common.{◌≡◌, ℕ, zero, suc, ◌+◌, ◌*◌, ◌<◌, ◌≤◌, ◌==◌, eqb, Bool, true, false, cond, Option, Some, None, List, [], ◌∷◌, ◌++◌, length, get_or, Contains, refl, sym, ap, ap₂, ◌∙◌, subst, inl, inr, ⊎_elim, add-mul, one-mul, mul-le-mul_right, arith}
use Rattle.std.specs.Cmp.{nat_eq_equiv}
use Rattle.std.specs.List.{IsDistinct, list_any, range_with_len}
use Rattle.std.proofs.lemmas.Bool.{cases_lt, cases_order, eqb-true, or_cases}
use Rattle.std.proofs.lemmas.List.{get_or-map, get_or_append_left, get_or_push, length-map, length_push, map-append}
use Rattle.std.proofs.lemmas.Map.Keys.{IsDistinct-push}
use Rattle.std.proofs.lemmas.Map.Steps.{length-le_from_distinct_below}
use Rattle.std.proofs.lemmas.Nat.{mul-add-lt}
use Rattle.std.proofs.lemmas.Option.{none-some, same_Some}
use Rattle.lk_base.proofs.Membership.{in_tail}
use Rattle.why_chain.specs.declared.pairs.Met.{Met}
use Rattle.why_chain.specs.declared.pairs.Pair.{Pair}
use Rattle.why_chain.specs.Aparts.{two_items}
use Rattle.why_chain.specs.Meetings.{code_of, codes_of, met_all, met_by, met_one, no_met, pair_met}
use Rattle.why_chain.proofs.Among.{stands_at}

-- what stands at a place of the queue
abbrev pub met_at : List Met → ℕ → Met
met_at queue i = get_or queue i no_met

abbrev pub pair_at : List Met → ℕ → Pair
pair_at queue i = pair_met (met_at queue i)

-- two of n items
abbrev pub AreItemsBelow : ℕ → Pair → Type 0
AreItemsBelow n p = (p.one < n) × (p.two < n)

-- pairs with one number are one pair
less_apart : (n a b c d : ℕ) → b < n → a < c → a * n + b < c * n + d
less_apart n a b c d low less =
    let more : (a + 1) * n ≤ c * n = mul-le-mul_right n (let up : a + 1 ≤ c = omega arith in up) in
    let cut : (a + 1) * n ≡ a * n + 1 * n = add-mul a 1 n in
    let one : 1 * n ≡ n = one-mul n in
    omega (arith, more, cut, one, low)

same_pair : (p q : Pair) → p.one ≡ q.one → p.two ≡ q.two → p ≡ q
same_pair p q e f = ap₂ two_items e f

pub code_tells : (n : ℕ) (p q : Pair) → AreItemsBelow n p → AreItemsBelow n q → code_of n p ≡ code_of n q → p ≡ q
code_tells n p q low high e = elim (cases_order p.one q.one) [
  | inl same ↦
      let first : p.one * n ≡ q.one * n = ap (λ k. k * n) same in
      same_pair p q same (omega (arith, e, first))
  | inr (inl less) ↦ absurd (omega (arith, e, less_apart n p.one p.two q.one q.two low.1 less))
  | inr (inr less) ↦ absurd (omega (arith, e, less_apart n q.one q.two p.one p.two high.1 less))
]

pub code_low : (n : ℕ) (p : Pair) → AreItemsBelow n p → code_of n p < n * n
code_low n p low = mul-add-lt p.one n p.two n low.0 low.1

pub any_has : (xs : List ℕ) (x : ℕ) → list_any (eqb x) xs ≡ true → Contains xs x
any_has [] x e = absurd cc
any_has (y ∷ xs) x e = ⊎_elim
    (λ (here : (x == y) ≡ true). (0, omega arith, sym (eqb-true x y here)))
    (λ (later : list_any (eqb x) xs ≡ true). in_tail y x xs (any_has xs x later))
    (or_cases (x == y) (list_any (eqb x) xs) e)

pub codes_wide : (n : ℕ) (queue : List Met) → length (codes_of n queue) ≡ length queue
codes_wide n queue = length-map queue (λ m. code_of n (pair_met m))

code_at : (n : ℕ) (queue : List Met) (i : ℕ) → i < length queue → get_or (codes_of n queue) i 0 ≡ code_of n (pair_at queue i)
code_at n queue i less = get_or-map (λ m. code_of n (pair_met m)) queue i no_met 0 less

pub codes_push : (n : ℕ) (queue : List Met) (m : Met) → codes_of n (queue ++ m ∷ []) ≡ codes_of n queue ++ code_of n (pair_met m) ∷ []
codes_push n queue m = map-append (λ x. code_of n (pair_met x)) queue (m ∷ [])

-- a pair that is known stands in the queue
record IsMetAt (queue : List Met) (p : Pair) : Type 0 where
  place : ℕ
  inside : place < length queue
  is : pair_at queue place ≡ p

known_at : (n : ℕ) (queue : List Met) (p : Pair) → ((i : ℕ) → i < length queue → AreItemsBelow n (pair_at queue i)) → AreItemsBelow n p
    → list_any (eqb (code_of n p)) (codes_of n queue) ≡ true → IsMetAt queue p
known_at n queue p low inside e =
    let found = stands_at (codes_of n queue) (code_of n p) (any_has (codes_of n queue) (code_of n p) e) in
    let less : found.place < length queue = omega (arith, found.inside, codes_wide n queue) in
    record { place = found.place; inside = less; is = code_tells n (pair_at queue found.place) p (low found.place less) inside (sym (code_at n queue found.place less) ∙ found.is) }

-- so few pairs are there
below_all : (n : ℕ) (queue : List Met) → ((i : ℕ) → i < length queue → AreItemsBelow n (pair_at queue i)) → (q : ℕ) → list_any (eqb q) (codes_of n queue) ≡ true → q < n * n
below_all n queue low q e =
    let found = stands_at (codes_of n queue) q (any_has (codes_of n queue) q e) in
    let less : found.place < length queue = omega (arith, found.inside, codes_wide n queue) in
    omega (arith, code_low n (pair_at queue found.place) (low found.place less), code_at n queue found.place less, found.is)

pub few_pairs : (n : ℕ) (queue : List Met) → IsDistinct eqb (codes_of n queue) → ((i : ℕ) → i < length queue → AreItemsBelow n (pair_at queue i)) → length queue ≤ n * n
few_pairs n queue distinct low = omega (arith, length-le_from_distinct_below (codes_of n queue) (n * n) distinct (below_all n queue low), codes_wide n queue)

-- where a pair stands that a relocation leads to: it was met by no later relocation of this pair
abbrev pub IsReachedBy : (old k : ℕ) (queue : List Met) → Pair → Type 0
IsReachedBy old k queue t = (i : ℕ) × (i < length queue) × (pair_at queue i ≡ t) × (old ≤ i → (met_at queue i).via ≤ k)

-- what the relocations before one have added to a queue
pub record IsMeeting (n place : ℕ) (new : ℕ → Option Pair) (old : List Met) (k : ℕ) (queue : List Met) : Type 0 where
  pub longer : length old ≤ length queue
  pub front : (i : ℕ) → i < length old → met_at queue i ≡ met_at old i
  pub backs : (i : ℕ) → length old ≤ i → i < length queue → (met_at queue i).place ≡ place
  pub leads : (i : ℕ) → length old ≤ i → i < length queue → new (met_at queue i).via ≡ Some (pair_at queue i)
  pub under : (i : ℕ) → length old ≤ i → i < length queue → (met_at queue i).via < k
  pub rises : (i j : ℕ) → length old ≤ i → i < j → j < length queue → (met_at queue i).via < (met_at queue j).via
  pub all : (j : ℕ) (t : Pair) → j < k → new j ≡ Some t → IsReachedBy (length old) j queue t
  pub low : (i : ℕ) → i < length queue → AreItemsBelow n (pair_at queue i)
  pub distinct : IsDistinct eqb (codes_of n queue)

pub meeting_starts : (n place : ℕ) (new : ℕ → Option Pair) (old : List Met) → ((i : ℕ) → i < length old → AreItemsBelow n (pair_at old i)) → IsDistinct eqb (codes_of n old) → IsMeeting n place new old 0 old
meeting_starts n place new old low distinct = record {
  longer = omega arith;
  front = λ i less. refl;
  backs = λ i most less. absurd (omega arith);
  leads = λ i most less. absurd (omega arith);
  under = λ i most less. absurd (omega arith);
  rises = λ i j most up less. absurd (omega arith);
  all = λ j t less e. absurd (omega arith);
  low = low;
  distinct = distinct;
}

module _ (n place : ℕ) (new : ℕ → Option Pair) (old : List Met) (k : ℕ) (queue : List Met) (h : IsMeeting n place new old k queue) where
  -- nothing more is there at the next relocation
  same_meeting : ((t : Pair) → new k ≡ Some t → IsReachedBy (length old) k queue t) → IsMeeting n place new old (k + 1) queue
  same_meeting last = record {
    longer = h.longer;
    front = h.front;
    backs = h.backs;
    leads = h.leads;
    under = λ i most less. omega (arith, h.under i most less);
    rises = h.rises;
    all = λ j t less e. elim (cases_lt j k) [
      | inl low ↦ h.all j t low e
      | inr most ↦ let here : k ≡ j = omega arith in let P : ℕ → Type 0 = λ x. IsReachedBy (length old) x queue t in subst P here (last t (ap new here ∙ e))
    ];
    low = h.low;
    distinct = h.distinct;
  }

  -- a new pair stands at the end
  module _ (t : Pair) (leads : new k ≡ Some t) (inside : AreItemsBelow n t) (fresh : list_any (eqb (code_of n t)) (codes_of n queue) ≡ false) where
    abbrev more : List Met
    more = queue ++ met_by place k t ∷ []

    more_wide : length more ≡ length queue + 1
    more_wide = length_push queue (met_by place k t)

    more_old : (i : ℕ) → i < length queue → met_at more i ≡ met_at queue i
    more_old i less = get_or_append_left queue (met_by place k t ∷ []) no_met i less

    more_last : (i : ℕ) → i ≡ length queue → met_at more i ≡ met_by place k t
    more_last i e = get_or_push queue (met_by place k t) no_met i (sym e)

    -- what holds of the old ones and of the last holds of all
    each : (P : ℕ → Met → Type 0) → ((i : ℕ) → i < length queue → P i (met_at queue i)) → P (length queue) (met_by place k t) → (i : ℕ) → i < length more → P i (met_at more i)
    each P first last i less = elim (cases_lt i (length queue)) [
      | inl low ↦ subst (P i) (sym (more_old i low)) (first i low)
      | inr most ↦
          let here : length queue ≡ i = omega (arith, less, more_wide) in
          subst (P i) (sym (more_last i (sym here))) (subst (λ (x : ℕ). P x (met_by place k t)) here last)
    ]

    more_rises : (i j : ℕ) → length old ≤ i → i < j → j < length more → (met_at more i).via < (met_at more j).via
    more_rises i j most up less =
        let low : i < length queue = omega (arith, up, less, more_wide) in
        let own : (met_at more i).via ≡ (met_at queue i).via = ap (λ (m : Met). m.via) (more_old i low) in
        elim (cases_lt j (length queue)) [
          | inl under ↦ omega (arith, h.rises i j most up under, own, ap (λ (m : Met). m.via) (more_old j under))
          | inr over ↦
              let here : j ≡ length queue = omega (arith, less, more_wide) in
              omega (arith, h.under i most low, own, ap (λ (m : Met). m.via) (more_last j here))
        ]

    old_reached : (j : ℕ) (u : Pair) → IsReachedBy (length old) j queue u → IsReachedBy (length old) j more u
    old_reached j u found =
        let own = more_old found.0 found.1 in
        (found.0, omega (arith, found.1, more_wide), ap pair_met own ∙ found.2, λ most. omega (arith, ap (λ (m : Met). m.via) own, found.3 most))

    more_all : (j : ℕ) (u : Pair) → j < k + 1 → new j ≡ Some u → IsReachedBy (length old) j more u
    more_all j u less e = elim (cases_lt j k) [
      | inl low ↦ old_reached j u (h.all j u low e)
      | inr most ↦
          let here : k ≡ j = omega arith in
          let same : t ≡ u = same_Some t u (sym leads ∙ ap new here ∙ e) in
          let own = more_last (length queue) refl in
          (length queue, omega (arith, more_wide), ap pair_met own ∙ same, λ late. omega (arith, ap (λ (m : Met). m.via) own, here))
    ]

    pub longer_meeting : IsMeeting n place new old (k + 1) (queue ++ met_by place k t ∷ [])
    longer_meeting = record {
      longer = omega (arith, h.longer, more_wide);
      front = λ i less. more_old i (omega (arith, h.longer)) ∙ h.front i less;
      backs = λ i most less. each (λ j m. length old ≤ j → m.place ≡ place) (λ j low late. h.backs j late low) (λ late. refl) i less most;
      leads = λ i most less. each (λ j m. length old ≤ j → new m.via ≡ Some (pair_met m)) (λ j low late. h.leads j late low) (λ late. leads) i less most;
      under = λ i most less. each (λ j m. length old ≤ j → m.via < k + 1) (λ j low late. omega (arith, h.under j late low)) (λ late. omega arith) i less most;
      rises = more_rises;
      all = more_all;
      low = λ i less. each (λ j m. AreItemsBelow n (pair_met m)) (λ j under. h.low j under) inside i less;
      distinct = subst (IsDistinct eqb) (sym (codes_push n queue (met_by place k t))) (IsDistinct-push nat_eq_equiv (codes_of n queue) (code_of n t) h.distinct fresh);
    }

  -- one relocation on
  known_by : (t : Pair) → new k ≡ Some t → AreItemsBelow n t → (b : Bool) → list_any (eqb (code_of n t)) (codes_of n queue) ≡ b
      → IsMeeting n place new old (k + 1) (cond b queue (queue ++ met_by place k t ∷ []))
  known_by t e inside true is = same_meeting (λ u f.
      let found = known_at n queue t h.low inside is in
      (found.place, found.inside, found.is ∙ same_Some t u (sym e ∙ f), λ most. omega (arith, h.under found.place most found.inside)))
  known_by t e inside false is = longer_meeting t e inside is

  one_by : (o : Option Pair) → new k ≡ o → ((t : Pair) → new k ≡ Some t → AreItemsBelow n t) → IsMeeting n place new old (k + 1) (met_one n place k queue o)
  one_by None none low = same_meeting (λ t e. absurd (none-some t (sym none ∙ e)))
  one_by (Some t) e low = known_by t e (low t e) (list_any (eqb (code_of n t)) (codes_of n queue)) refl

-- many relocations on
pub meets_rest : (n place : ℕ) (new : ℕ → Option Pair) (old : List Met) (m k : ℕ) (queue : List Met) → IsMeeting n place new old k queue
    → ((j : ℕ) (t : Pair) → new j ≡ Some t → AreItemsBelow n t) → IsMeeting n place new old (k + m) (met_all n place new (range_with_len k m) queue)
meets_rest n place new old zero k queue h low =
    let same : k ≡ k + zero = omega arith in
    let P : ℕ → Type 0 = λ x. IsMeeting n place new old x queue in
    subst P same h
meets_rest n place new old (suc m) k queue h low =
    let same : (k + 1) + m ≡ k + suc m = omega arith in
    let P : ℕ → Type 0 = λ x. IsMeeting n place new old x (met_all n place new (range_with_len k (suc m)) queue) in
    subst P same (meets_rest n place new old m (k + 1) (met_one n place k queue (new k)) (one_by n place new old k queue h (new k) refl (low k)) low)
