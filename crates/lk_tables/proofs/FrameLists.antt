-- The records of a section, found by its number, and one of them.
use Rattle.std.proofs.Common.{◌≡◌, ℕ, ◌<◌, ◌≤◌, ◌==◌, Bool, true, false, cond, List, [], ◌∷◌, length, map, get_or, refl, sym, ap, ◌∙◌, subst, arith, Some, None, inl, inr}
use Rattle.std.specs.Slice.{IsItemAt}
use Rattle.std.specs.Borrow.{Bor}
use Rattle.std.specs.Prelude.{Option, find, option_map}
use Rattle.std.specs.Global.{Vec}
use Rattle.std.specs.List.Sorted.{IsNonDecreasingBy}
use Rattle.std.proofs.lemmas.Bool.{cases_lt, eqb-true, ltb-true}
use Rattle.std.proofs.lemmas.List.{get_or_past, get_or-map, length-map}
use Rattle.std.proofs.lemmas.List.Kept.{AllPairs-from_increasing}
use Rattle.lk_tables.specs.declared.records.Record.{Record}
use Rattle.lk_tables.specs.Frames.{AreInOrder, RecordList, is_number, list_view, list_views}
use Rattle.lk_tables.specs.RecordViews.{record_view, record_views}
use Rattle.lk_tables.proofs.Finding.{missing_past}

-- a section's number and its records
abbrev pub Listed : Type 0
Listed = ℕ × Vec Record

abbrev pub number_of : Listed → ℕ
number_of l = l.0

pub rising : (lists : List Listed) → AreInOrder (list_views lists) → IsNonDecreasingBy number_of lists
rising lists up i j d le lt =
    let section : RecordList → ℕ = λ l. l.section in
    let numbers = map section (list_views lists) in
    let at : (k : ℕ) → k < length lists → get_or numbers k d.0 ≡ (get_or lists k d).0 = λ k high.
    get_or-map section (list_views lists) k (list_view d) d.0 (omega (arith, high, length-map lists list_view))
    ∙ ap section (get_or-map list_view lists k d (list_view d) high) in
    elim (cases_lt i j) [
      | inl less ↦
          let high : j < length numbers = omega (arith, lt, length-map (list_views lists) section, length-map lists list_view) in
          omega (arith, AllPairs-from_increasing numbers up i j d.0 less high, at i (omega arith), at j lt)
      | inr most ↦
          let same : i ≡ j = omega (arith, le, most) in
          subst (λ k. (get_or lists i d).0 ≤ (get_or lists k d).0) same (omega arith)
    ]

-- the list of a section is found by its number
pub find_view : (n : ℕ) (lists : List Listed) →
    find (λ (l : RecordList). l.section == n) (list_views lists) ≡ option_map list_view (find (λ (l : Listed). l.0 == n) lists)
find_view n [] = refl
find_view n (l ∷ ls) = by (l.0 == n) (find_view n ls)
  where
    by : (b : Bool) → find (λ (x : RecordList). x.section == n) (list_views ls) ≡ option_map list_view (find (λ (x : Listed). x.0 == n) ls) →
        cond b (Some (list_view l)) (find (λ (x : RecordList). x.section == n) (list_views ls))
        ≡ option_map list_view (cond b (Some l) (find (λ (x : Listed). x.0 == n) ls))
    by true rest = refl
    by false rest = rest

pub none_past : (lists : List Listed) (n place : ℕ) → length lists ≤ place → ((k : ℕ) (d : Listed) → k < place → number_of (get_or lists k d) < n) →
    find (λ (l : Listed). l.0 == n) lists ≡ None
none_past [] n place le before = refl
none_past (l ∷ ls) n place le before = missing_past number_of (l ∷ ls) n place l le before

-- a record of a list, by its number
pub some_at : (records : List Record) (at : ℕ) (r : Record) → at < length records → r ≡ get_or records at r →
    get_or (map (λ x. Some x) (record_views records)) at None ≡ Some (record_view r)
some_at records at r lt is =
    get_or-map (λ x. Some x) (record_views records) at (record_view r) None (omega (arith, lt, length-map records record_view))
    ∙ ap (λ x. Some x) (get_or-map record_view records at r (record_view r) lt ∙ ap record_view (sym is))

pub none_at : (records : List Record) (at : ℕ) → length records ≤ at → get_or (map (λ x. Some x) (record_views records)) at None ≡ None
none_at records at past =
    get_or_past (map (λ x. Some x) (record_views records)) at None (omega (arith, past, length-map (record_views records) (λ x. Some x), length-map records record_view))

pub item_at : (records : List Record) (at : ℕ) (r : Option (Bor Record)) → IsItemAt records at r →
    option_map (λ (x : Bor Record). record_view x.now) r ≡ get_or (map (λ x. Some x) (record_views records)) at None
item_at records at None is = sym (none_at records at is.3)
item_at records at (Some r) is = sym (some_at records at r.now (ltb-true at (length records) (sym is.0)) is.1)

pub number_is : (o : Option ℕ) (k : ℕ) → is_number o k ≡ true → o ≡ Some k
number_is None k is = let no : ⊥ = cc in absurd no
number_is (Some m) k is = ap Some (eqb-true m k is)
