-- The leaders by their definition as a function: they are the leaders, there are no others, and what holds of them.
use Rattle.std.proofs.Common.{◌≡◌, ◌⊎◌, ℕ, zero, suc, ◌<◌, ◌≤◌, ◌==◌, ◌||◌, Bool, true, false, true≢false, List, length, get_or, All, Decides, refl, sym, ap, ◌∙◌, subst, inl, inr, ⊎_elim, unwrap_or, arith}
use Rattle.std.proofs.lemmas.Bool.{cases_lt, false_from_ne_true}
use Rattle.std.proofs.lemmas.Bool.Decides.{Decides-eqb, Decides-or}
use Rattle.std.proofs.lemmas.Grind.{get_or_default_zero, same_number_lists}
use Rattle.std.proofs.lemmas.List.{get_or_past}
use Rattle.std.proofs.lemmas.List.FromFn.{get_or-map-range_with_len, length-map-range_with_len}
use Rattle.lk_tables.proofs.Finding.{first_number}
use Rattle.link_sections.specs.FoldItems.{FoldItem}
use Rattle.icf_part.specs.Folding.{AreFolded, AreLeaders, HoldsAll, IsLeader, StandsFor}
use Rattle.icf_part.specs.Leaders.{are_folded, leader_in, leaders_of}
use Rattle.icf_part.proofs.Sublists.{folded_Decides}

abbrev stands : List FoldItem → (a b : ℕ) → Bool
stands items a b = b == a || are_folded items b a

stands_Decides : (items : List FoldItem) (a b : ℕ) → Decides (stands items a b) (StandsFor items b a)
stands_Decides items a b = Decides-or (b == a) (are_folded items b a) (Decides-eqb b a) (folded_Decides items b a)

-- an item has one leader
leader_is : (items : List FoldItem) (a leader : ℕ) → IsLeader items a leader → leader_in items a ≡ leader
leader_is items a leader is =
    let test = stands items a in
    let none : (b : ℕ) → b < leader → test b ≡ false = λ b less.
    false_from_ne_true (test b) (λ e. let le = is.least b ((stands_Decides items a b).0 e) in omega (arith, le, less)) in
    ap (λ o. unwrap_or o a) (first_number test (length items) leader is.within none ((stands_Decides items a leader).1 is.own))

leader_at : (items : List FoldItem) (a : ℕ) → a < length items → get_or (leaders_of items) a 0 ≡ leader_in items a
unfolding leaders_of
leader_at items a lt = get_or-map-range_with_len (leader_in items) 0 (length items) a a 0 lt (omega arith)

leaders_wide : (items : List FoldItem) → length (leaders_of items) ≡ length items
unfolding leaders_of
leaders_wide items = length-map-range_with_len (leader_in items) 0 (length items)

pub leaders_are : (items : List FoldItem) (leaders : List ℕ) → AreLeaders items leaders → leaders ≡ leaders_of items
leaders_are items leaders are =
    same_number_lists leaders (leaders_of items) (are.count ∙ sym (leaders_wide items)) (λ a lt.
    let inside : a < length items = omega (arith, lt, are.count) in
    sym (leader_at items a inside ∙ leader_is items a (get_or leaders a 0) (are.each a inside)))

-- and it has one
record IsLeast (test : ℕ → Bool) (n : ℕ) : Type 0 where
  at : ℕ
  within : at < n
  passes : test at ≡ true
  before : (k : ℕ) → k < at → test k ≡ false

least_below : (test : ℕ → Bool) (n : ℕ) → IsLeast test n ⊎ ((k : ℕ) → k < n → test k ≡ false)
least_below test zero = inr (λ k lt. absurd (omega (arith, lt)))
least_below test (suc n) = one_more test n (test n) refl (least_below test n)
  where
    one_more : (test : ℕ → Bool) (n : ℕ) (b : Bool) → test n ≡ b → IsLeast test n ⊎ ((k : ℕ) → k < n → test k ≡ false) → IsLeast test (suc n) ⊎ ((k : ℕ) → k < suc n → test k ≡ false)
    one_more test n b e (inl l) = inl (record { at = l.at; within = omega (arith, l.within); passes = l.passes; before = l.before })
    one_more test n true e (inr none) = inl (record { at = n; within = omega arith; passes = e; before = none })
    one_more test n false e (inr none) = inr (λ k lt. elim (cases_lt k n) [
      | inl less ↦ none k less
      | inr le ↦ let same : k ≡ n = omega (arith, lt, le) in ap test same ∙ e
    ])

leader_exists : (items : List FoldItem) (a : ℕ) → a < length items → IsLeader items a (leader_in items a)
leader_exists items a lt =
    let test = stands items a in
    let own : test a ≡ true = (stands_Decides items a a).1 (inl refl) in
    ⊎_elim
    (λ (l : IsLeast test (length items)).
    let leader : IsLeader items a l.at = record {
      within = l.within;
      own = (stands_Decides items a l.at).0 l.passes;
      least = λ b is. elim (cases_lt b l.at) [
        | inl less ↦ absurd (true≢false (sym ((stands_Decides items a b).1 is) ∙ l.before b less))
        | inr le ↦ le
      ];
    } in
    let P : ℕ → Type 0 = λ k. IsLeader items a k in
    subst P (sym (leader_is items a l.at leader)) leader)
    (λ none. absurd (true≢false (sym own ∙ none a lt)))
    (least_below test (length items))

pub are_leaders : (items : List FoldItem) → AreLeaders items (leaders_of items)
are_leaders items = record {
  count = leaders_wide items;
  each = λ a lt. let P : ℕ → Type 0 = λ k. IsLeader items a k in subst P (sym (leader_at items a lt)) (leader_exists items a lt);
}

-- each leader is an item
pub leaders_within : (items : List FoldItem) (leaders : List ℕ) → AreLeaders items leaders → All (λ p. p < length items) leaders
leaders_within items leaders are = λ k d lt.
    let inside = (are.each k (omega (arith, lt, are.count))).within in
    omega (arith, inside, get_or_default_zero leaders k d lt)

-- it is at most the item
pub leaders_at_most : (items : List FoldItem) (leaders : List ℕ) → AreLeaders items leaders → (a : ℕ) → get_or leaders a 0 ≤ a
leaders_at_most items leaders are a = elim (cases_lt a (length leaders)) [
  | inl lt ↦ (are.each a (omega (arith, lt, are.count))).least a (inl refl)
  | inr le ↦ omega (arith, get_or_past leaders a 0 le)
]

-- and is its own leader
pub leaders_own : (items : List FoldItem) (leaders : List ℕ) → AreLeaders items leaders → HoldsAll items leaders → (a : ℕ) → get_or leaders (get_or leaders a 0) 0 ≡ get_or leaders a 0
leaders_own items leaders are holds a = elim (cases_lt a (length leaders)) [
  | inl lt ↦
      let leader = get_or leaders a 0 in
      ⊎_elim
      (λ (same : leader ≡ a). ap (λ k. get_or leaders k 0) same)
      (λ (folded : AreFolded items leader a). holds folded.pairs leader a folded.congruence folded.listed)
      (are.each a (omega (arith, lt, are.count))).own
  | inr le ↦
      let past = get_or_past leaders a 0 le in
      omega (arith, past, ap (λ k. get_or leaders k 0) past, leaders_at_most items leaders are 0)
]
