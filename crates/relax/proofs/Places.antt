-- The first place of each section among the members, noted in a list by section number.
use Rattle.std.proofs.Common.{◌≡◌, ℕ, ◌+◌, ◌<◌, ◌≤◌, ◌==◌, ◌&&◌, not, Bool, true, false, cond, List, [], ◌∷◌, length, map, take, get_or, refl, sym, ap, ◌∙◌, arith, inl, inr, eqb}
use Rattle.std.specs.Prelude.{if◌then◌else◌, nat_lt, slice_index, slice_set, All}
use Rattle.std.specs.List.{position_or_len, range_with_len}
use Rattle.std.proofs.lemmas.Bool.{and_from, and_parts, and_right, cases_Bool, cases_lt, eq-eqb, eqb-false, eqb-true, lt-ltb, le-ltb, ne_eqb}
use Rattle.std.proofs.lemmas.List.{get_or-set_other, get_or-set_same, length-set, length-take-le, take_all, take_more}
use Rattle.std.proofs.lemmas.List.Elements.{All-head, All-tail}
use Rattle.std.proofs.lemmas.List.Folds.{position_or_len_push}
use Rattle.std.proofs.lemmas.List.FromFn.{fill_by_all, get_or-map-range_with_len, length-map-range_with_len}
use Rattle.std.proofs.lemmas.List.Sums.{prefix_len-le-length}
use Rattle.output_sections.specs.declared.rows.Row.{Row}
use Rattle.output_sections.specs.Order.{is_section, own_section}
use Rattle.relax.specs.CallSizes.{is_at, place_in}
use Rattle.relax.specs.Placing.{noted}

-- a section that no member is has no place
pub no_place : (ms : List Row) (n total : ℕ) → All (λ (m : Row). is_section m ≡ true → own_section m < total) ms → total ≤ n → place_in ms n ≡ length ms
unfolding place_in
no_place [] n total all past = refl
no_place (m ∷ ms) n total all past =
    let own = All-head (λ (x : Row). is_section x ≡ true → own_section x < total) m ms all in
    let other : is_at n m ≡ false = by (is_section m) refl own in
    ap (λ b. cond (not b) (1 + position_or_len (is_at n) ms) 0) other
    ∙ ap (λ k. 1 + k) (no_place ms n total (All-tail (λ (x : Row). is_section x ≡ true → own_section x < total) m ms all) past)
    ∙ omega arith
  where
    by : (t : Bool) → is_section m ≡ t → (t ≡ true → own_section m < total) → (t && own_section m == n) ≡ false
    by true is low = let less = low refl in ne_eqb (own_section m) n (λ e. omega (arith, less, past, e))
    by false is low = refl

pub place_at : (ms : List Row) (places : List ℕ) (n total d : ℕ) → places ≡ map (place_in ms) (range_with_len 0 total) → n < length places → get_or places n d ≡ place_in ms n
place_at ms places n total d is lt =
    let few = ap length is ∙ length-map-range_with_len (place_in ms) 0 total in
    ap (λ l. get_or l n d) is ∙ get_or-map-range_with_len (place_in ms) 0 total n n d (omega (arith, lt, few)) (omega arith)

-- what is noted of a section once the first i members were seen
abbrev pub seen : List Row → (i n : ℕ) → ℕ
seen ms i n = cond (nat_lt (position_or_len (is_at n) (take i ms)) i) (position_or_len (is_at n) (take i ms)) (length ms)

pub seen_first : (ms : List Row) (n : ℕ) → seen ms 0 n ≡ length ms
seen_first ms n = ap (λ b. cond b (position_or_len (is_at n) (take 0 ms)) (length ms)) (le-ltb (position_or_len (is_at n) (take 0 ms)) 0 (omega arith))

pub seen_all : (ms : List Row) (i n : ℕ) → i ≡ length ms → seen ms i n ≡ place_in ms n
unfolding place_in
seen_all ms i n all =
    let p = position_or_len (is_at n) ms in
    let most = prefix_len-le-length (λ m. not (is_at n m)) ms in
    ap (λ l. cond (nat_lt (position_or_len (is_at n) l) i) (position_or_len (is_at n) l) (length ms)) (take_all i ms (omega (arith, all)))
    ∙ elim (cases_lt p i) [
      | inl less ↦ ap (λ b. cond b p (length ms)) (lt-ltb p i less)
      | inr past ↦ ap (λ b. cond b p (length ms)) (le-ltb p i past) ∙ omega (arith, past, most, all)
    ]

-- one member more
seen_step : (p i len : ℕ) (own : Bool) → p ≤ i → i < len →
    cond (nat_lt (cond (eqb p i) (i + cond own 0 1) p) (i + 1)) (cond (eqb p i) (i + cond own 0 1) p) len ≡ cond (nat_lt p i) p (cond own i len)
seen_step p i len own le lt = elim (cases_lt p i) [
  | inl less ↦
      ap (λ b. cond (nat_lt (cond b (i + cond own 0 1) p) (i + 1)) (cond b (i + cond own 0 1) p) len) (ne_eqb p i (λ e. omega (arith, less, e)))
      ∙ ap (λ b. cond b p len) (lt-ltb p (i + 1) (omega (arith, less)))
      ∙ sym (ap (λ b. cond b p (cond own i len)) (lt-ltb p i less))
  | inr past ↦
      ap (λ b. cond (nat_lt (cond b (i + cond own 0 1) p) (i + 1)) (cond b (i + cond own 0 1) p) len) (eq-eqb p i (omega (arith, le, past)))
      ∙ by own ∙ sym (ap (λ b. cond b p (cond own i len)) (le-ltb p i past))
]
  where
    by : (o : Bool) → cond (nat_lt (i + cond o 0 1) (i + 1)) (i + cond o 0 1) len ≡ cond o i len
    by true = ap (λ b. cond b (i + 0) len) (lt-ltb (i + 0) (i + 1) (omega arith)) ∙ omega arith
    by false = ap (λ b. cond b (i + 1) len) (le-ltb (i + 1) (i + 1) (omega arith))

seen_more : (ms : List Row) (i n : ℕ) (d : Row) → i < length ms →
    seen ms (i + 1) n ≡ cond (nat_lt (position_or_len (is_at n) (take i ms)) i) (position_or_len (is_at n) (take i ms)) (cond (is_at n (get_or ms i d)) i (length ms))
seen_more ms i n d lt =
    let done = take i ms in
    let p = position_or_len (is_at n) done in
    let few : length done ≡ i = length-take-le i ms (omega (arith, lt)) in
    let most = prefix_len-le-length (λ m. not (is_at n m)) done in
    let place : position_or_len (is_at n) (take (i + 1) ms) ≡ cond (eqb p i) (i + cond (is_at n (get_or ms i d)) 0 1) p =
    ap (position_or_len (is_at n)) (take_more ms i d lt) ∙ position_or_len_push (is_at n) done (get_or ms i d)
    ∙ ap (λ k. cond (eqb p k) (k + cond (is_at n (get_or ms i d)) 0 1) p) few in
    ap (λ k. cond (nat_lt k (i + 1)) k (length ms)) place ∙ seen_step p i (length ms) (is_at n (get_or ms i d)) (omega (arith, most, few)) lt

-- the place that is noted for section n
noted_at : (places : List ℕ) (m : Row) (i n old : ℕ) → n < length places → get_or places n 0 ≡ old → get_or (noted places m i) n 0 ≡ cond (is_at n m && nat_lt i old) i old
unfolding noted
noted_at places m i n old lt held = elim (cases_Bool ((is_section m) && nat_lt i (slice_index places (own_section m)))) [
  | inl puts ↦
      let parts = and_parts (is_section m) (nat_lt i (slice_index places (own_section m))) puts in
      ap (λ b. get_or (if b then slice_set places (own_section m) i else places) n 0) puts
      ∙ elim (cases_Bool ((own_section m) == n)) [
        | inl same ↦
            let e : (own_section m) ≡ n = eqb-true (own_section m) n same in
            ap (λ k. get_or (slice_set places k i) n 0) e ∙ get_or-set_same places n i 0 lt
            ∙ sym (ap (λ b. cond b i old) (and_from (is_at n m) (nat_lt i old) (and_from (is_section m) ((own_section m) == n) parts.0 same) (ap (λ x. nat_lt i x) (sym held ∙ ap (slice_index places) (sym e)) ∙ parts.1)))
        | inr other ↦
            get_or-set_other places (own_section m) n i 0 (λ e. eqb-false (own_section m) n other (sym e)) ∙ held
            ∙ sym (ap (λ b. cond (b && nat_lt i old) i old) (and_right (is_section m) ((own_section m) == n) other))
      ]
  | inr keeps ↦
      ap (λ b. get_or (if b then slice_set places (own_section m) i else places) n 0) keeps ∙ held
      ∙ elim (cases_Bool ((own_section m) == n)) [
        | inl same ↦
            let e : (own_section m) ≡ n = eqb-true (own_section m) n same in
            let less : nat_lt i (slice_index places (own_section m)) ≡ nat_lt i old = ap (λ k. nat_lt i (slice_index places k)) e ∙ ap (nat_lt i) held in
            sym (ap (λ b. cond (((is_section m) && b) && nat_lt i old) i old) same ∙ ap (λ b. cond (b && nat_lt i old) i old) (and_true (is_section m))
            ∙ ap (λ b. cond ((is_section m) && b) i old) (sym less) ∙ ap (λ b. cond b i old) keeps)
        | inr other ↦ sym (ap (λ b. cond (b && nat_lt i old) i old) (and_right (is_section m) ((own_section m) == n) other))
      ]
]
  where
    and_true : (b : Bool) → (b && true) ≡ b
    and_true true = refl
    and_true false = refl

noted_step : (own : Bool) (p i len : ℕ) → i < len →
    cond (own && nat_lt i (cond (nat_lt p i) p len)) i (cond (nat_lt p i) p len) ≡ cond (nat_lt p i) p (cond own i len)
noted_step own p i len lt = elim (cases_lt p i) [
  | inl less ↦
      ap (λ b. cond (own && nat_lt i (cond b p len)) i (cond b p len)) (lt-ltb p i less)
      ∙ ap (λ b. cond (own && b) i p) (le-ltb i p (omega (arith, less)))
      ∙ ap (λ b. cond b i p) (and_right own false refl)
      ∙ sym (ap (λ b. cond b p (cond own i len)) (lt-ltb p i less))
  | inr past ↦
      ap (λ b. cond (own && nat_lt i (cond b p len)) i (cond b p len)) (le-ltb p i past)
      ∙ ap (λ b. cond (own && b) i len) (lt-ltb i len lt)
      ∙ by own
      ∙ sym (ap (λ b. cond b p (cond own i len)) (le-ltb p i past))
]
  where
    by : (o : Bool) → cond (o && true) i len ≡ cond o i len
    by true = refl
    by false = refl

-- all places, one member on
pub record AreNoted (ms : List Row) (count i : ℕ) (places : List ℕ) : Type 0 where
  pub length_is : length places ≡ count
  pub each : (n : ℕ) → n < count → get_or places n 0 ≡ seen ms i n

length_noted : (places : List ℕ) (m : Row) (i : ℕ) → length (noted places m i) ≡ length places
unfolding noted
length_noted places m i = by ((is_section m) && nat_lt i (slice_index places (own_section m)))
  where
    by : (b : Bool) → length (if b then slice_set places (own_section m) i else places) ≡ length places
    by true = length-set places (own_section m) i
    by false = refl

pub noted_more : (ms : List Row) (count i : ℕ) (d : Row) (old new : List ℕ) → i < length ms → AreNoted ms count i old → new ≡ noted old (get_or ms i d) i → AreNoted ms count (i + 1) new
noted_more ms count i d old new lt are is = record {
  length_is = ap length is ∙ length_noted old (get_or ms i d) i ∙ are.length_is;
  each = λ n less.
      let p = position_or_len (is_at n) (take i ms) in
      ap (λ l. get_or l n 0) is ∙ noted_at old (get_or ms i d) i n (seen ms i n) (omega (arith, less, are.length_is)) (are.each n less)
      ∙ noted_step (is_at n (get_or ms i d)) p i (length ms) lt ∙ sym (seen_more ms i n d lt);
}

pub noted_all : (ms : List Row) (count i : ℕ) (places : List ℕ) → AreNoted ms count i places → i ≡ length ms → places ≡ map (place_in ms) (range_with_len 0 count)
noted_all ms count i places are all =
    fill_by_all (place_in ms) places count 0 are.length_is (λ n lt. are.each n lt ∙ seen_all ms i n all)
