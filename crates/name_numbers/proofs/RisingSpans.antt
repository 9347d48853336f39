-- Names that stand in order of their symbols: each is its own first.
use Rattle.std.proofs.Common.{◌≡◌, ℕ, ◌+◌, ◌<◌, ◌≤◌, Bool, true, false, List, length, map, get_or, sym, ap, ◌∙◌, subst, ⊎_elim, arith}
use Rattle.std.specs.Prelude.{if◌then◌else◌}
use Rattle.std.specs.List.{range_with_len}
use Rattle.std.proofs.lemmas.List.FromFn.{fill_by_all, get_or-map-range_with_len, length-map-range_with_len}
use Rattle.std.proofs.lemmas.Bool.{cases_Bool, cases_eq, cases_lt, cond-true, cond-false}
use Rattle.lk_tables.specs.declared.heads.Symbol.{Symbol}
use Rattle.lk_tables.specs.NameNumbers.{is_named}
use Rattle.name_numbers.specs.Spans.{StepsOver, first_or_none, first_span, symbol_in}
use Rattle.name_numbers.proofs.FirstSpans.{first_is, first_le, from_same}

-- the names of the first n symbols that count begin one after the other, all before `next`
pub record RisesTo (symbols : List Symbol) (n next : ℕ) : Type 0 where
  pub below : (j : ℕ) → j < n → is_named (symbol_in symbols j) ≡ true → (symbol_in symbols j).name.from < next
  pub up : (j k : ℕ) → j < k → k < n → is_named (symbol_in symbols j) ≡ true → is_named (symbol_in symbols k) ≡ true → (symbol_in symbols j).name.from < (symbol_in symbols k).name.from

pub rises_none : (symbols : List Symbol) → RisesTo symbols 0 0
rises_none symbols = record { below = λ j lt named. absurd (omega (arith, lt)); up = λ j k less lt named also. absurd (omega (arith, lt)) }

pub rises_next : (symbols : List Symbol) (i next more : ℕ) → RisesTo symbols i next → StepsOver (symbol_in symbols i) next more → RisesTo symbols (i + 1) more
rises_next symbols i next more held step =
    let s = symbol_in symbols i in
    let no_less : next ≤ more = ⊎_elim
    (λ (named : is_named s ≡ true). let past = step.named named in omega (arith, past.0, past.1))
    (λ (other : is_named s ≡ false). let same = step.other other in omega (arith, same))
    (cases_Bool (is_named s)) in
    let from : ℕ → ℕ = λ j. (symbol_in symbols j).name.from in
    let Named : ℕ → Type 0 = λ j. is_named (symbol_in symbols j) ≡ true in
    record {
      below = λ j lt named. ⊎_elim
          (λ (same : j ≡ i). let past = step.named (subst Named same named) in let at : from j ≡ from i = ap from same in omega (arith, past.1, at))
          (λ ne. let before : j < i = omega (arith, lt, ne) in let low = held.below j before named in omega (arith, low, no_less))
          (cases_eq j i);
      up = λ j k less lt named also. ⊎_elim
          (λ (same : k ≡ i).
          let past = step.named (subst Named same also) in
          let at : from k ≡ from i = ap from same in
          let before : j < i = omega (arith, less, same) in
          let low = held.below j before named in
          omega (arith, past.0, at, low))
          (λ ne. let before : k < i = omega (arith, lt, ne) in held.up j k less before named also)
          (cases_eq k i);
    }

-- so each is its own first
own_span_first : (symbols : List Symbol) (next i : ℕ) → RisesTo symbols (length symbols) next → i < length symbols → is_named (symbol_in symbols i) ≡ true → first_span symbols i ≡ i
own_span_first symbols next i held lt named =
    let q = first_span symbols i in
    let f = first_is symbols i lt named in
    let le = first_le symbols i lt named in
    let same = from_same (symbol_in symbols q) (symbol_in symbols i) f.same in
    ⊎_elim
    (λ (less : q < i). let apart = held.up q i less lt f.named named in absurd (omega (arith, apart, same)))
    (λ (ge : i ≤ q). omega (arith, le, ge))
    (cases_lt q i)

-- the index of a symbol whose name counts
abbrev pub own_at : List Symbol → ℕ → ℕ
own_at symbols i = if is_named (symbol_in symbols i) then i else 0

own_is : (symbols : List Symbol) (next i : ℕ) → RisesTo symbols (length symbols) next → i < length symbols → own_at symbols i ≡ first_or_none symbols i
unfolding first_or_none
own_is symbols next i held lt = ⊎_elim
    (λ (named : is_named (symbol_in symbols i) ≡ true).
    cond-true (is_named (symbol_in symbols i)) i 0 named ∙ sym (own_span_first symbols next i held lt named) ∙ sym (cond-true (is_named (symbol_in symbols i)) (first_span symbols i) 0 named))
    (λ (other : is_named (symbol_in symbols i) ≡ false).
    cond-false (is_named (symbol_in symbols i)) i 0 other ∙ sym (cond-false (is_named (symbol_in symbols i)) (first_span symbols i) 0 other))
    (cases_Bool (is_named (symbol_in symbols i)))

pub own_firsts : (symbols : List Symbol) (n next : ℕ) (firsts : List ℕ) → n ≡ length symbols → RisesTo symbols n next → firsts ≡ map (own_at symbols) (range_with_len 0 n) →
    firsts ≡ map (first_or_none symbols) (range_with_len 0 (length symbols))
own_firsts symbols n next firsts all held is =
    let P : ℕ → Type 0 = λ k. RisesTo symbols k next in
    let whole = subst P all held in
    fill_by_all (first_or_none symbols) firsts (length symbols) 0 (ap length is ∙ length-map-range_with_len (own_at symbols) 0 n ∙ all)
    (λ i lt. ap (λ l. get_or l i 0) is ∙ get_or-map-range_with_len (own_at symbols) 0 n i i 0 (omega (arith, lt, all)) (omega arith) ∙ own_is symbols next i whole lt)
