-- The first end of a pair, and where a relocation leads, as code finds them.
use Rattle.std.proofs.Common.{◌≡◌, ℕ, ◌+◌, ◌-◌, ◌<◌, ◌≤◌, eqb, not, cond, Bool, true, false, Option, Some, None, List, [], ◌∷◌, ◌++◌, length, take, option_map, ap, ◌∙◌, subst, arith}
use Rattle.std.specs.List.{list_any, range_with_len}
use Rattle.std.specs.Prelude.{IfNone, OnSome}
use Rattle.std.proofs.lemmas.Bool.{cond-false, cond-true}
use Rattle.std.proofs.lemmas.List.{length-take, take-append-le}
use Rattle.lk_base.proofs.Loops.{range_at}
use Rattle.lk_tables.proofs.Finding.{first_number, no_number}
use Rattle.link_sections.specs.FoldItems.{FoldItem}
use Rattle.icf_part.specs.Leaders.{same_target}
use Rattle.why_chain.specs.declared.chains.ApartEnd.TheVariants as ends
use Rattle.why_chain.specs.declared.pairs.Met.{Met}
use Rattle.why_chain.specs.declared.pairs.Pair.{Pair}
use Rattle.why_chain.specs.Aparts.{are_alike, can_match, first_end, first_target, next_pair, no_match, reloc_count, target_of}
use Rattle.why_chain.specs.Meetings.{code_of, codes_of, met_all, met_by, met_one, new_pair}

module _ (items : List FoldItem) (q : Pair) where
  pub target_first : (k : ℕ) → k < reloc_count items q → ((j : ℕ) → j < k → can_match items q j ≡ true) → can_match items q k ≡ false → first_target items q ≡ Some (ends.Target k)
  unfolding first_target
  target_first k less before fails = ap (option_map ends.Target) (first_number (no_match items q) (reloc_count items q) k less (λ j lt. ap not (before j lt)) (ap not fails))

  pub no_target : ((j : ℕ) → j < reloc_count items q → can_match items q j ≡ true) → first_target items q ≡ None
  unfolding first_target
  no_target all = ap (option_map ends.Target) (no_number (no_match items q) (reloc_count items q) (λ j lt. ap not (all j lt)))

  pub alike_first : are_alike items q ≡ true → first_end items q ≡ first_target items q
  unfolding first_end
  alike_first is = cond-true (are_alike items q) (first_target items q) (Some ends.Key) is

  pub other_first : are_alike items q ≡ false → first_end items q ≡ Some ends.Key
  unfolding first_end
  other_first is = cond-false (are_alike items q) (first_target items q) (Some ends.Key) is

  -- where a relocation leads to a pair that may differ
  pub new_none : (k : ℕ) → same_target (target_of items q.one k) (target_of items q.two k) ≡ true → new_pair items q k ≡ None
  unfolding new_pair
  new_none k same = cond-true (same_target (target_of items q.one k) (target_of items q.two k)) None (next_pair items q k) same

  pub new_next : (k : ℕ) → same_target (target_of items q.one k) (target_of items q.two k) ≡ false → new_pair items q k ≡ next_pair items q k
  unfolding new_pair
  new_next k other = cond-false (same_target (target_of items q.one k) (target_of items q.two k)) None (next_pair items q k) other

-- the rest of what is met, one relocation on
pub met_on : (n place : ℕ) (new : ℕ → Option Pair) (k count : ℕ) (queue : List Met) → k < count
    → met_all n place new (range_with_len k (count - k)) queue ≡ met_all n place new (range_with_len (k + 1) (count - (k + 1))) (met_one n place k queue (new k))
met_on n place new k count queue less = ap (λ ks. met_all n place new ks queue) (range_at k count less)

pub met_end : (n place : ℕ) (new : ℕ → Option Pair) (k count : ℕ) (queue : List Met) → count ≤ k → met_all n place new (range_with_len k (count - k)) queue ≡ queue
met_end n place new k count queue past = let none : count - k ≡ 0 = omega arith in ap (λ m. met_all n place new (range_with_len k m) queue) none

-- what stands in the queue at first stays at its front
front_by : (old queue : List Met) (m : Met) (b : Bool) → take (length old) queue ≡ old → take (length old) (cond b queue (queue ++ m ∷ [])) ≡ old
front_by old queue m true e = e
front_by old queue m false e =
    let some : length old ≤ length queue = omega (arith, length-take (length old) queue, ap length e) in
    take-append-le (length old) queue (m ∷ []) some ∙ e

pub front_one : (n place k : ℕ) (old queue : List Met) (o : Option Pair) → take (length old) queue ≡ old → take (length old) (met_one n place k queue o) ≡ old
front_one n place k old queue None e = e
front_one n place k old queue (Some p) e = front_by old queue (met_by place k p) (list_any (eqb (code_of n p)) (codes_of n queue)) e

-- what is said where there is something, or nothing, once it is known which
pub on_some : {T : Type 0} (P : Type 0) (o : Option T) (x : T) → o ≡ Some x → OnSome o P → P
on_some {T} P o x is holds = let Q : Option T → Type 0 = λ y. OnSome y P in subst Q is holds

pub if_none : {T : Type 0} (P : Type 0) (o : Option T) → o ≡ None → IfNone o P → P
if_none {T} P o is holds = let Q : Option T → Type 0 = λ y. IfNone y P in subst Q is holds
