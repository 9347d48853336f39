-- Leaders that are kept sections and their own leaders: those of a link that folds nothing.
use Rattle.std.proofs.Common.{◌≡◌, ℕ, ◌<◌, ◌&&◌, not, Bool, true, false, Option, Some, None, List, length, refl, sym, ap, ◌∙◌, subst, arith, inl, inr}
use Rattle.std.specs.Prelude.{if◌then◌else◌}
use Rattle.std.proofs.lemmas.Bool.{and_parts, cases_lt, eq-eqb}
use Rattle.std.proofs.lemmas.List.{get_or_past}
use Rattle.std.proofs.lemmas.List.FromFn.{get_or-map-range_with_len, length-map-range_with_len}
use Rattle.link_sections.specs.Leaders.{is_kept, is_number, leader_at, leads, own_leaders}
use Rattle.link_sections.specs.PoolViews.{Merged, is_merged}

-- a leader or none by section number, and each leader is kept and is its own leader
pub record LeadThemselves (kept : List Bool) (leaders : List (Option ℕ)) : Type 0 where
  pub count : length leaders ≡ length kept
  pub kept_are : (n m : ℕ) → leader_at leaders n ≡ Some m → is_kept kept m ≡ true
  pub own : (n m : ℕ) → leader_at leaders n ≡ Some m → leads leaders m ≡ true

-- the section of a number is its own leader
pub leads_at : (leaders : List (Option ℕ)) (n : ℕ) → leader_at leaders n ≡ Some n → leads leaders n ≡ true
leads_at leaders n is =
    let P : Option ℕ → Type 0 = λ o. is_number o n ≡ true in
    subst P (sym is) (eq-eqb n n refl)

-- what is kept has a number
pub kept_below : (kept : List Bool) (n : ℕ) → is_kept kept n ≡ true → n < length kept
kept_below kept n is = elim (cases_lt n (length kept)) [
  | inl lt ↦ lt
  | inr past ↦
      let none : is_kept kept n ≡ false = get_or_past kept n false past in
      let no : ⊥ = cc in
      absurd no
]

abbrev value : Option ℕ → ℕ
value (Some n) = n
value None = 0

pub same_number : (n m : ℕ) → Some n ≡ Some m → n ≡ m
same_number n m e = ap value e

pub chosen : (on : Bool) (n m : ℕ) → (if on then Some n else None) ≡ Some m → (on ≡ true) × (n ≡ m)
chosen true n m is = (refl, same_number n m is)
chosen false n m is = let no : ⊥ = cc in absurd no

module _ (kept : List Bool) (merged : List (Option Merged)) where
  -- kept, and not merged
  abbrev stands : ℕ → Bool
  stands n = is_kept kept n && not (is_merged merged n)

  pub own_count : length (own_leaders kept merged) ≡ length kept
  unfolding own_leaders
  own_count = length-map-range_with_len (λ n. if stands n then Some n else None) 0 (length kept)

  pub own_at : (n : ℕ) → n < length kept → leader_at (own_leaders kept merged) n ≡ (if is_kept kept n && not (is_merged merged n) then Some n else None)
  unfolding own_leaders
  own_at n lt = get_or-map-range_with_len (λ m. if stands m then Some m else None) 0 (length kept) n n None lt (omega arith)

  -- a leader is the section itself, which is kept
  pub own_is : (n m : ℕ) → leader_at (own_leaders kept merged) n ≡ Some m → (is_kept kept n ≡ true) × (n ≡ m)
  own_is n m leader = elim (cases_lt n (length kept)) [
    | inl lt ↦
        let c = chosen (stands n) n m (sym (own_at n lt) ∙ leader) in
        let both = and_parts (is_kept kept n) (not (is_merged merged n)) c.0 in
        (both.0, c.1)
    | inr past ↦
        let none : leader_at (own_leaders kept merged) n ≡ None = get_or_past (own_leaders kept merged) n None (omega (arith, past, own_count)) in
        let no : ⊥ = cc in
        absurd no
  ]

  pub own_lead : LeadThemselves kept (own_leaders kept merged)
  own_lead = record {
    count = own_count;
    kept_are = λ n m leader. let own = own_is n m leader in let P : ℕ → Type 0 = λ k. is_kept kept k ≡ true in subst P own.1 own.0;
    own = λ n m leader.
        let own = own_is n m leader in
        let P : ℕ → Type 0 = λ k. leader_at (own_leaders kept merged) k ≡ Some m in
        leads_at (own_leaders kept merged) m (subst P own.1 leader);
  }
