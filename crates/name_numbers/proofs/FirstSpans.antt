-- The first symbol of a span.
use Rattle.std.proofs.Common.{◌≡◌, ◌≢◌, ℕ, zero, suc, ◌+◌, ◌-◌, ◌||◌, not, ◌<◌, ◌≤◌, ◌==◌, ◌&&◌, Bool, true, false, List, [], ◌∷◌, ◌++◌, length, map, get_or, take, drop, replicate, Contains, refl, sym, ap, ◌∙◌, subst, ⊎_elim, arith}
use Rattle.std.specs.Prelude.{flat_map, find}
use Rattle.std.specs.List.{range_with_len}
use Rattle.std.specs.declared.cmp.Ordering.{Ordering}
use Rattle.std.specs.declared.cmp.Ordering.TheVariants.{Equal}
use Rattle.std.specs.Ordering.{nat_cmp, ordering_then, is_lt}
use Rattle.std.specs.Cmp.{IsTotalOrder, nat_cmp_is}
use Rattle.std.specs.List.Sorted.{IsSorted, IsPermutation}
use Rattle.std.proofs.lemmas.List.Sorted.{Contains-permutation, IsPermutation-sym}
use Rattle.std.proofs.lemmas.Cmp.{then_total, on_total, nat_cmp_total}
use Rattle.std.proofs.lemmas.List.{get_or-replicate, length-replicate}
use Rattle.std.proofs.lemmas.List.Elements.{All-contains}
use Rattle.std.proofs.lemmas.List.FromFn.{fill_by_all}
use Rattle.std.proofs.lemmas.Bool.{cases_Bool, cases_eq, cases_lt, cond-true, cond-false, and_parts, and_from, or_cases, or_parts, not-true, not-false, eqb-true, eqb-false, eq-eqb, both_ways}
use Rattle.lk_tables.specs.declared.heads.Symbol.{Symbol}
use Rattle.lk_tables.specs.NameNumbers.{is_named}
use Rattle.lk_tables.specs.Names.{text_of}
use Rattle.lk_tables.proofs.BoundHas.{one_if}
use Rattle.name_numbers.specs.declared.spans.NameSpan.{NameSpan}
use Rattle.name_numbers.specs.declared.spans.Spot.{Spot}
use Rattle.name_numbers.specs.Marks.{Marks}
use Rattle.name_numbers.specs.Spans.{symbol_in, is_one_span, index_or, first_span, first_or_none, spot, spot_at, spots, span_of, place_of, span_cmp, spot_cmp, no_spot, is_same_span}
use Rattle.name_numbers.proofs.Runs.{Runs, runs_sorted, marks_moved, Exact, same_number, then_second, first_tie}
use Rattle.name_numbers.proofs.Walks.{walk_push, walk_skip, all_range, in_range, in_if}

-- the first number of a range that passes a test
pub record IsFirstOf (p : ℕ → Bool) (a n q : ℕ) : Type 0 where
  pub low : a ≤ q
  pub high : q < a + n
  pub passes : p q ≡ true
  pub most : (j : ℕ) → a ≤ j → j < a + n → p j ≡ true → q ≤ j

pub first_found : (p : ℕ → Bool) (a n i : ℕ) → a ≤ i → i < a + n → p i ≡ true → IsFirstOf p a n (index_or (find p (range_with_len a n)))
first_found p a zero i low high is = absurd (omega arith)
first_found p a (suc n) i low high is = ⊎_elim
    (λ (here : p a ≡ true).
    let P : ℕ → Type 0 = IsFirstOf p a (suc n) in
    let first : IsFirstOf p a (suc n) a = record { low = omega arith; high = omega arith; passes = here; most = λ j le lt also. le } in
    subst P (sym (ap index_or (cond-true (p a) _ (find p (range_with_len (a + 1) n)) here))) first)
    (λ (no : p a ≡ false).
    let P : ℕ → Type 0 = IsFirstOf p a (suc n) in
    let past : (j : ℕ) → a ≤ j → p j ≡ true → a + 1 ≤ j = λ j le also. ⊎_elim
    (λ (same : j ≡ a). let Q : ℕ → Type 0 = λ k. p k ≡ true in absurd (both_ways (p a) no (subst Q same also)))
    (λ (ne : j ≢ a). ⊎_elim (λ (lt : j < a + 1). absurd (ne (omega arith))) (λ (ge : a + 1 ≤ j). ge) (cases_lt j (a + 1)))
    (cases_eq j a) in
    let rest = first_found p (a + 1) n i (past i low is) (omega arith) is in
    let l = rest.low in
    let h = rest.high in
    let first : IsFirstOf p a (suc n) (index_or (find p (range_with_len (a + 1) n))) = record {
      low = omega arith;
      high = omega arith;
      passes = rest.passes;
      most = λ j le lt also. rest.most j (past j le also) (omega arith) also;
    } in
    subst P (sym (ap index_or (cond-false (p a) _ (find p (range_with_len (a + 1) n)) no))) first)
    (cases_Bool (p a))

-- symbol `first` is the first with the span of symbol i
pub record IsFirstSpan (symbols : List Symbol) (i first : ℕ) : Type 0 where
  pub inside : first < length symbols
  pub named : is_named (symbol_in symbols first) ≡ true
  pub same : is_one_span (symbol_in symbols first) (symbol_in symbols i) ≡ true
  pub most : (j : ℕ) → j < length symbols → is_named (symbol_in symbols j) ≡ true → is_one_span (symbol_in symbols j) (symbol_in symbols i) ≡ true → first ≤ j

one_span : (s t : Symbol) → s.name.from ≡ t.name.from → s.name.len ≡ t.name.len → is_one_span s t ≡ true
one_span s t from len = and_from (s.name.from == t.name.from) (s.name.len == t.name.len) (eq-eqb s.name.from t.name.from from) (eq-eqb s.name.len t.name.len len)

pub from_same : (s t : Symbol) → is_one_span s t ≡ true → s.name.from ≡ t.name.from
from_same s t e = eqb-true s.name.from t.name.from (and_parts (s.name.from == t.name.from) (s.name.len == t.name.len) e).0

pub len_same : (s t : Symbol) → is_one_span s t ≡ true → s.name.len ≡ t.name.len
len_same s t e = eqb-true s.name.len t.name.len (and_parts (s.name.from == t.name.from) (s.name.len == t.name.len) e).1

pub own_span : (s : Symbol) → is_one_span s s ≡ true
own_span s = one_span s s refl refl

pub first_is : (symbols : List Symbol) (i : ℕ) → i < length symbols → is_named (symbol_in symbols i) ≡ true → IsFirstSpan symbols i (first_span symbols i)
unfolding first_span
first_is symbols i lt named =
    let n = length symbols in
    let p : ℕ → Bool = λ j. is_named (symbol_in symbols j) && is_one_span (symbol_in symbols j) (symbol_in symbols i) in
    let f = first_found p 0 n i (omega arith) (omega arith) (and_from (is_named (symbol_in symbols i)) (is_one_span (symbol_in symbols i) (symbol_in symbols i)) named (own_span (symbol_in symbols i))) in
    let high = f.high in
    let both = and_parts _ _ f.passes in
    record {
      inside = omega arith;
      named = both.0;
      same = both.1;
      most = λ j less also same. f.most j (omega arith) (omega arith) (and_from (is_named (symbol_in symbols j)) (is_one_span (symbol_in symbols j) (symbol_in symbols i)) also same);
    }

pub first_le : (symbols : List Symbol) (i : ℕ) → i < length symbols → is_named (symbol_in symbols i) ≡ true → first_span symbols i ≤ i
first_le symbols i lt named = (first_is symbols i lt named).most i lt named (own_span (symbol_in symbols i))

-- the first of a span is its own first
pub first_own : (symbols : List Symbol) (i : ℕ) → i < length symbols → is_named (symbol_in symbols i) ≡ true → first_span symbols (first_span symbols i) ≡ first_span symbols i
first_own symbols i lt named =
    let q = first_span symbols i in
    let f = first_is symbols i lt named in
    let g = first_is symbols q f.inside f.named in
    let from = from_same (symbol_in symbols (first_span symbols q)) (symbol_in symbols q) g.same ∙ from_same (symbol_in symbols q) (symbol_in symbols i) f.same in
    let len = len_same (symbol_in symbols (first_span symbols q)) (symbol_in symbols q) g.same ∙ len_same (symbol_in symbols q) (symbol_in symbols i) f.same in
    let low = f.most (first_span symbols q) g.inside g.named (one_span (symbol_in symbols (first_span symbols q)) (symbol_in symbols i) from len) in
    let high = first_le symbols q f.inside f.named in
    omega arith

-- one span, one text
pub text_same : (b : List ℕ) (s t : Symbol) → is_one_span s t ≡ true → text_of b s.name ≡ text_of b t.name
unfolding text_of
text_same b s t e = ap (λ k. take k (drop s.name.from b)) (len_same s t e) ∙ ap (λ k. take t.name.len (drop k b)) (from_same s t e)

-- a loop that lists spots
pub spot_next : (symbols : List Symbol) (i : ℕ) (old new : List Spot) (s : Spot) → is_named (symbol_in symbols i) ≡ true → s ≡ spot (symbol_in symbols i).name.from (symbol_in symbols i).name.len i → new ≡ old ++ s ∷ [] → old ≡ flat_map (spot_at symbols) (range_with_len 0 i) → new ≡ flat_map (spot_at symbols) (range_with_len 0 (i + 1))
unfolding spot_at
spot_next symbols i old new s named is push before =
    walk_push (spot_at symbols) [] old new s i before push
    (cond-true (is_named (symbol_in symbols i)) (spot (symbol_in symbols i).name.from (symbol_in symbols i).name.len i ∷ []) [] named ∙ ap (λ x. x ∷ []) (sym is))

pub spot_skip : (symbols : List Symbol) (i : ℕ) (old : List Spot) → is_named (symbol_in symbols i) ≡ false → old ≡ flat_map (spot_at symbols) (range_with_len 0 i) → old ≡ flat_map (spot_at symbols) (range_with_len 0 (i + 1))
unfolding spot_at
spot_skip symbols i old not_named before =
    walk_skip (spot_at symbols) [] old i before (cond-false (is_named (symbol_in symbols i)) (spot (symbol_in symbols i).name.from (symbol_in symbols i).name.len i ∷ []) [] not_named)

-- a spot of the list, and the spot of a symbol
pub record IsSpot (symbols : List Symbol) (s : Spot) : Type 0 where
  pub inside : s.symbol < length symbols
  pub named : is_named (symbol_in symbols s.symbol) ≡ true
  pub from : s.span.from ≡ (symbol_in symbols s.symbol).name.from
  pub len : s.span.len ≡ (symbol_in symbols s.symbol).name.len

pub spot_is : (symbols : List Symbol) (s : Spot) → Contains (spots symbols) s → IsSpot symbols s
unfolding spots spot_at
spot_is symbols s has =
    All-contains (IsSpot symbols) (spots symbols) s
    (all_range (IsSpot symbols) (spot_at symbols) 0 (length symbols) (λ i low high.
    one_if (IsSpot symbols) (is_named (symbol_in symbols i)) (spot (symbol_in symbols i).name.from (symbol_in symbols i).name.len i)
    (λ named. record { inside = omega arith; named = named; from = refl; len = refl })))
    has

pub spot_in : (symbols : List Symbol) (i : ℕ) → i < length symbols → is_named (symbol_in symbols i) ≡ true → Contains (spots symbols) (spot (symbol_in symbols i).name.from (symbol_in symbols i).name.len i)
unfolding spots spot_at
spot_in symbols i lt named =
    in_range (spot_at symbols) 0 (length symbols) i (spot (symbol_in symbols i).name.from (symbol_in symbols i).name.len i) (omega arith) (omega arith)
    (in_if (is_named (symbol_in symbols i)) (spot (symbol_in symbols i).name.from (symbol_in symbols i).name.len i) named)

abbrev span_at : (from len : ℕ) → NameSpan
span_at from len = record { from = from; len = len }

pub spots_once : (symbols : List Symbol) (s t : Spot) → Contains (spots symbols) s → Contains (spots symbols) t → s.symbol ≡ t.symbol → s.span ≡ t.span
spots_once symbols s t has also e =
    let a = spot_is symbols s has in
    let b = spot_is symbols t also in
    let from : s.span.from ≡ t.span.from = a.from ∙ ap (λ i. (symbol_in symbols i).name.from) e ∙ sym b.from in
    let len : s.span.len ≡ t.span.len = a.len ∙ ap (λ i. (symbol_in symbols i).name.len) e ∙ sym b.len in
    ap (λ k. span_at k s.span.len) from ∙ ap (span_at t.span.from) len

-- the marks are the first symbols of the spans
module _ (symbols : List Symbol) (firsts : List ℕ) (m : Marks span_of place_of (spots symbols) (replicate (length symbols) 0) firsts) where
  mark_named : (i : ℕ) → i < length symbols → is_named (symbol_in symbols i) ≡ true → get_or firsts i 0 ≡ first_span symbols i
  mark_named i lt named =
      let l = m.each (spot (symbol_in symbols i).name.from (symbol_in symbols i).name.len i) (spot_in symbols i lt named) in
      let f = first_is symbols i lt named in
      let q = first_span symbols i in
      let one = spot_is symbols l.one l.listed in
      let from : (symbol_in symbols l.one.symbol).name.from ≡ (symbol_in symbols i).name.from = sym one.from ∙ ap (λ (x : NameSpan). x.from) l.same in
      let len : (symbol_in symbols l.one.symbol).name.len ≡ (symbol_in symbols i).name.len = sym one.len ∙ ap (λ (x : NameSpan). x.len) l.same in
      let low = f.most l.one.symbol one.inside one.named (one_span (symbol_in symbols l.one.symbol) (symbol_in symbols i) from len) in
      let is = l.is in
      let own : span_at (symbol_in symbols q).name.from (symbol_in symbols q).name.len ≡ span_at (symbol_in symbols i).name.from (symbol_in symbols i).name.len =
      ap (λ k. span_at k (symbol_in symbols q).name.len) (from_same (symbol_in symbols q) (symbol_in symbols i) f.same) ∙ ap (span_at (symbol_in symbols i).name.from) (len_same (symbol_in symbols q) (symbol_in symbols i) f.same) in
      let high = l.most (spot (symbol_in symbols q).name.from (symbol_in symbols q).name.len q) (spot_in symbols q f.inside f.named) own in
      omega arith

  mark_other : (i : ℕ) → i < length symbols → is_named (symbol_in symbols i) ≡ false → get_or firsts i 0 ≡ 0
  mark_other i lt not_named =
      m.others i (λ s has e. let is = spot_is symbols s has in let P : ℕ → Type 0 = λ k. is_named (symbol_in symbols k) ≡ true in absurd (both_ways (is_named (symbol_in symbols i)) not_named (subst P e is.named)))
      ∙ get_or-replicate (length symbols) i 0 0 lt

  mark_at : (i : ℕ) → i < length symbols → get_or firsts i 0 ≡ first_or_none symbols i
  unfolding first_or_none
  mark_at i lt = ⊎_elim
      (λ (named : is_named (symbol_in symbols i) ≡ true). mark_named i lt named ∙ sym (cond-true (is_named (symbol_in symbols i)) (first_span symbols i) 0 named))
      (λ (not_named : is_named (symbol_in symbols i) ≡ false). mark_other i lt not_named ∙ sym (cond-false (is_named (symbol_in symbols i)) (first_span symbols i) 0 not_named))
      (cases_Bool (is_named (symbol_in symbols i)))

  pub marks_are : length firsts ≡ length symbols → firsts ≡ map (first_or_none symbols) (range_with_len 0 (length symbols))
  marks_are wide = fill_by_all (first_or_none symbols) firsts (length symbols) 0 wide mark_at

-- the order of spans
pub span_total : IsTotalOrder span_cmp
span_total = then_total (on_total (λ (x : NameSpan). x.from) nat_cmp_total) (on_total (λ (x : NameSpan). x.len) nat_cmp_total)

pub span_exact : Exact span_cmp
span_exact x y a b =
    let same : is_lt (nat_cmp x.from y.from) ≡ false → is_lt (nat_cmp y.from x.from) ≡ false → x.from ≡ y.from = same_number x.from y.from in
    let t = first_tie (nat_cmp x.from y.from) (nat_cmp x.len y.len) (nat_cmp y.from x.from) (nat_cmp y.len x.len) a b
    (λ p q. sym (nat_cmp_is x.from y.from Equal (same p q))) (λ p q. sym (nat_cmp_is y.from x.from Equal (sym (same p q)))) in
    let P : Ordering → Type 0 = λ o. is_lt o ≡ false in
    let from : x.from ≡ y.from = same (subst P (sym t.0) refl) (subst P (sym t.1) refl) in
    let len : x.len ≡ y.len = same_number x.len y.len (then_second (nat_cmp x.from y.from) (nat_cmp x.len y.len) t.0 a) (then_second (nat_cmp y.from x.from) (nat_cmp y.len x.len) t.1 b) in
    ap (λ k. span_at k x.len) from ∙ ap (span_at y.from) len

pub span_ties : (x y : NameSpan) → x ≡ y → span_cmp x y ≡ Equal
span_ties x y e =
    let own : span_cmp x x ≡ Equal = ap (λ o. ordering_then o (nat_cmp x.len x.len)) (sym (nat_cmp_is x.from x.from Equal refl)) ∙ sym (nat_cmp_is x.len x.len Equal refl) in
    let P : NameSpan → Type 0 = λ z. span_cmp x z ≡ Equal in
    subst P e own

pub spots_run : (list : List Spot) → IsSorted spot_cmp list → ((s t : Spot) → Contains list s → Contains list t → s.symbol ≡ t.symbol → s.span ≡ t.span) → Runs (λ j. (get_or list j no_spot).span) (λ j. (get_or list j no_spot).symbol) (length list)
spots_run list up once = runs_sorted span_of place_of span_cmp span_total span_exact span_ties list no_spot up once

-- whether a span is not the one before it
pub new_span : (list : List Spot) (k : ℕ) → (k == 0 || not (is_same_span list (k - 1) k)) ≡ true → (j : ℕ) → j + 1 ≡ k → (get_or list j no_spot).span ≢ (get_or list k no_spot).span
new_span list k is j next same =
    let before : k - 1 ≡ j = omega arith in
    let one : is_same_span list j k ≡ true = and_from _ _ (eq-eqb (get_or list j no_spot).span.from (get_or list k no_spot).span.from (ap (λ (x : NameSpan). x.from) same)) (eq-eqb (get_or list j no_spot).span.len (get_or list k no_spot).span.len (ap (λ (x : NameSpan). x.len) same)) in
    ⊎_elim
    (λ (zero_is : (k == 0) ≡ true). let e = eqb-true k 0 zero_is in absurd (omega arith))
    (λ (other : not (is_same_span list (k - 1) k) ≡ true). both_ways (is_same_span list (k - 1) k) (not-true _ other) (ap (λ i. is_same_span list i k) before ∙ one))
    (or_cases (k == 0) (not (is_same_span list (k - 1) k)) is)

pub old_span : (list : List Spot) (k : ℕ) → (k == 0 || not (is_same_span list (k - 1) k)) ≡ false → (k - 1 + 1 ≡ k) × ((get_or list (k - 1) no_spot).span ≡ (get_or list k no_spot).span)
old_span list k is =
    let parts = or_parts (k == 0) (not (is_same_span list (k - 1) k)) is in
    let some : k ≡ 0 → ⊥ = eqb-false k 0 parts.0 in
    let one = and_parts _ _ (not-false (is_same_span list (k - 1) k) parts.1) in
    let x = (get_or list (k - 1) no_spot).span in
    let y = (get_or list k no_spot).span in
    (omega arith, ap (λ m. span_at m x.len) (eqb-true x.from y.from one.0) ∙ ap (span_at y.from) (eqb-true x.len y.len one.1))

-- the same of the spots that were sorted
pub spots_moved : (symbols : List Symbol) (start sorted slice : List Spot) → start ≡ spots symbols → IsPermutation start sorted → slice ≡ sorted → IsPermutation (spots symbols) slice
spots_moved symbols start sorted slice is moved read =
    let P : List Spot → Type 0 = λ l. IsPermutation l sorted in
    let Q : List Spot → Type 0 = IsPermutation (spots symbols) in
    subst Q (sym read) (subst P is moved)

pub spot_back : (symbols : List Symbol) (slice : List Spot) → IsPermutation (spots symbols) slice → (s : Spot) → Contains slice s → Contains (spots symbols) s
spot_back symbols slice moved s has = Contains-permutation slice (spots symbols) s (IsPermutation-sym (spots symbols) slice moved) has

pub firsts_are : (symbols read : List Symbol) (slice : List Spot) (firsts : List ℕ) → IsPermutation (spots symbols) slice → read ≡ symbols → Marks span_of place_of slice (replicate (length read) 0) firsts → firsts ≡ map (first_or_none symbols) (range_with_len 0 (length symbols))
firsts_are symbols read slice firsts moved same m =
    let P : List Symbol → Type 0 = λ l. Marks span_of place_of slice (replicate (length l) 0) firsts in
    let own = subst P same m in
    marks_are symbols firsts (marks_moved span_of place_of (spots symbols) slice (replicate (length symbols) 0) firsts moved own) (own.wide ∙ length-replicate {A = ℕ} (length symbols) 0)
