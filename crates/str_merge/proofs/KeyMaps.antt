-- A map from keys to the indexes of their first elements in a list.
use Rattle.std.proofs.Common.{◌≡◌, ℕ, ◌+◌, ◌<◌, ◌≤◌, ◌&&◌, Bool, true, cond, Option, Some, None, List, [], ◌∷◌, length, get_or, refl, sym, ap, ◌∙◌, arith, inl, inr, eqb, ltb}
use Rattle.std.specs.Prelude.{if◌then◌else◌, unwrap_or}
use Rattle.std.specs.List.{position_or_len}
use Rattle.std.specs.Map.{lookup}
use Rattle.std.specs.Str.{bytes_eq}
use Rattle.std.proofs.lemmas.Bool.{cases_Bool, cases_lt, eqb-true, eq-eqb, lt-ltb, le-ltb, false≢true, and_parts}
use Rattle.std.proofs.lemmas.Slice.Eq.{bytes_eq-Decides}
use Rattle.std.proofs.lemmas.List.Sums.{fails_before_first, passes_at_first}
use Rattle.link_sections.specs.MergeSections.{PoolKey, same_key}
use Rattle.str_merge.specs.Keys.{HeldKey, eq_keys, key_view}
use Rattle.str_merge.proofs.Ranking.{IsSame, first_alike}

all_true : (a b c d : Bool) → a ≡ true → b ≡ true → c ≡ true → d ≡ true → (((a && b) && c) && d) ≡ true
all_true a b c d p q r s = ap (λ x. ((x && b) && c) && d) p ∙ ap (λ x. (x && c) && d) q ∙ ap (λ x. x && d) r ∙ s

-- keys that are the same are equal
pub same_key_equal : (a b : PoolKey) → same_key a b ≡ true → a ≡ b
unfolding same_key
same_key_equal a b e =
    let r = and_parts ((bytes_eq a.name b.name && eqb a.flags b.flags) && eqb a.entsize b.entsize) (eqb a.align b.align) e in
    let q = and_parts (bytes_eq a.name b.name && eqb a.flags b.flags) (eqb a.entsize b.entsize) r.0 in
    let p = and_parts (bytes_eq a.name b.name) (eqb a.flags b.flags) q.0 in
    let name : a.name ≡ b.name = (bytes_eq-Decides a.name b.name).0 p.0 in
    let flags : a.flags ≡ b.flags = eqb-true a.flags b.flags p.1 in
    let entsize : a.entsize ≡ b.entsize = eqb-true a.entsize b.entsize q.1 in
    let align : a.align ≡ b.align = eqb-true a.align b.align r.1 in
    ap (λ x. record { name = x; flags = a.flags; entsize = a.entsize; align = a.align }) name
    ∙ ap (λ x. record { name = b.name; flags = x; entsize = a.entsize; align = a.align }) flags
    ∙ ap (λ x. record { name = b.name; flags = b.flags; entsize = x; align = a.align }) entsize
    ∙ ap (λ x. record { name = b.name; flags = b.flags; entsize = b.entsize; align = x }) align

pub same_key_itself : (a : PoolKey) → same_key a a ≡ true
unfolding same_key
same_key_itself a =
    let name : bytes_eq a.name a.name ≡ true = (bytes_eq-Decides a.name a.name).1 refl in
    all_true (bytes_eq a.name a.name) (eqb a.flags a.flags) (eqb a.entsize a.entsize) (eqb a.align a.align)
    name (eq-eqb a.flags a.flags refl) (eq-eqb a.entsize a.entsize refl) (eq-eqb a.align a.align refl)

-- any elements by the keys that they have
pub same_by : {X : Type 0} (key : X → PoolKey) → IsSame (λ x y. same_key (key x) (key y))
same_by key = record {
  itself = λ x. same_key_itself (key x);
  alike = λ x y e z. ap (same_key (key z)) (same_key_equal (key x) (key y) e);
}

pub eq_keys_is : (a b : HeldKey) → eq_keys a b ≡ same_key (key_view a) (key_view b)
unfolding same_key
eq_keys_is a b = refl

pub alike_left : (a b : HeldKey) → eq_keys a b ≡ true → (k : HeldKey) → eq_keys a k ≡ eq_keys b k
alike_left a b e k =
    eq_keys_is a k ∙ ap (λ x. same_key x (key_view k)) (same_key_equal (key_view a) (key_view b) (sym (eq_keys_is a b) ∙ e)) ∙ sym (eq_keys_is b k)

pub alike_right : (a b : HeldKey) → eq_keys a b ≡ true → (k : HeldKey) → eq_keys k a ≡ eq_keys k b
alike_right a b e k =
    eq_keys_is k a ∙ ap (same_key (key_view k)) (same_key_equal (key_view a) (key_view b) (sym (eq_keys_is a b) ∙ e)) ∙ sym (eq_keys_is k b)

lookup_alike : (p q : HeldKey → Bool) (entries : List (HeldKey × ℕ)) → ((k : HeldKey) → p k ≡ q k) → lookup p entries ≡ lookup q entries
lookup_alike p q [] each = refl
lookup_alike p q (e ∷ es) each = ap (λ b. cond b (Some e.1) (lookup p es)) (each e.0) ∙ ap (λ l. cond (q e.0) (Some e.1) l) (lookup_alike p q es each)

-- a key that is there already
pub noted_alike : (entries : List (HeldKey × ℕ)) (key : HeldKey) (first : ℕ) → lookup (eq_keys key) entries ≡ Some first → (q : HeldKey) →
    lookup (eq_keys q) entries ≡ (if eq_keys key q then Some first else lookup (eq_keys q) entries)
noted_alike entries key first is q = elim (cases_Bool (eq_keys key q)) [
  | inl same ↦
      sym (lookup_alike (eq_keys key) (eq_keys q) entries (alike_left key q same)) ∙ is ∙ ap (λ b. if b then Some first else lookup (eq_keys q) entries) (sym same)
  | inr other ↦ ap (λ b. if b then Some first else lookup (eq_keys q) entries) (sym other)
]

-- what is noted of a key once the first keys of a list were
abbrev pub first_key : List HeldKey → HeldKey → ℕ
first_key keys q = position_or_len (λ known. eq_keys known q) keys

abbrev pub noted : List HeldKey → (i : ℕ) → HeldKey → Option ℕ
noted keys i q = if ltb (first_key keys q) i then Some (first_key keys q) else None

first_low : (keys : List HeldKey) (i : ℕ) (d : HeldKey) → i < length keys → first_key keys (get_or keys i d) ≤ i
first_low keys i d lt = elim (cases_lt i (first_key keys (get_or keys i d))) [
  | inl after ↦
      let no = fails_before_first (λ known. eq_keys known (get_or keys i d)) keys i d after in
      absurd (false≢true (sym no ∙ eq_keys_is (get_or keys i d) (get_or keys i d) ∙ same_key_itself (key_view (get_or keys i d))))
  | inr le ↦ le
]

-- the number of key i, from the map
pub number_is : (keys : List HeldKey) (i : ℕ) (d : HeldKey) → i < length keys → unwrap_or (noted keys i (get_or keys i d)) i ≡ first_key keys (get_or keys i d)
number_is keys i d lt =
    let n = first_key keys (get_or keys i d) in
    let low = first_low keys i d lt in
    elim (cases_lt n i) [
      | inl less ↦ ap (λ b. unwrap_or (if b then Some n else None) i) (lt-ltb n i less)
      | inr at ↦
          let same : i ≡ n = omega arith in
          ap (λ b. unwrap_or (if b then Some n else None) i) (le-ltb n i at) ∙ same
    ]

-- one key more
pub noted_more : (keys : List HeldKey) (i : ℕ) (d q : HeldKey) → i < length keys →
    (if eq_keys (get_or keys i d) q then Some (first_key keys (get_or keys i d)) else noted keys i q) ≡ noted keys (i + 1) q
noted_more keys i d q lt =
    let x = get_or keys i d in
    let low = first_low keys i d lt in
    elim (cases_Bool (eq_keys x q)) [
      | inl same ↦
          let e : first_key keys x ≡ first_key keys q = first_alike (λ known. eq_keys known x) (λ known. eq_keys known q) keys (alike_right x q same) in
          ap (λ b. if b then Some (first_key keys x) else noted keys i q) same
          ∙ ap (λ n. Some n) e
          ∙ ap (λ b. if b then Some (first_key keys q) else None) (sym (lt-ltb (first_key keys q) (i + 1) (omega arith)))
      | inr other ↦
          ap (λ b. if b then Some (first_key keys x) else noted keys i q) other
          ∙ elim (cases_lt (first_key keys q) i) [
            | inl less ↦
                ap (λ b. if b then Some (first_key keys q) else None) (lt-ltb (first_key keys q) i less)
                ∙ ap (λ b. if b then Some (first_key keys q) else None) (sym (lt-ltb (first_key keys q) (i + 1) (omega arith)))
            | inr at ↦ elim (cases_lt i (first_key keys q)) [
              | inl after ↦
                  ap (λ b. if b then Some (first_key keys q) else None) (le-ltb (first_key keys q) i at)
                  ∙ ap (λ b. if b then Some (first_key keys q) else None) (sym (le-ltb (first_key keys q) (i + 1) (omega arith)))
              | inr upto ↦
                  let here : first_key keys q ≡ i = omega arith in
                  let passes = passes_at_first (λ known. eq_keys known q) keys d (omega arith) in
                  absurd (false≢true (sym other ∙ ap (λ n. eq_keys (get_or keys n d) q) (sym here) ∙ passes))
            ]
          ]
    ]

abbrev pub no_key : HeldKey
no_key = (record { ref_ptr = (0, 0); now = [] }, 0, 0, 0)

-- the number of key i
abbrev pub key_number : List HeldKey → (i : ℕ) → ℕ
key_number keys i = first_key keys (get_or keys i no_key)
