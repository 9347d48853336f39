-- A table of kinds by number holds what the lines say, where it does so at each number up to the last that has a line.
use Rattle.std.proofs.Common.{◌≡◌, ℕ, ◌+◌, ◌≤◌, ◌==◌, ◌&&◌, ◌||◌, Bool, true, false, nat_lt, if◌then◌else◌, IfSome, is_some, Option, Some, None, List, [], ◌∷◌, map, get_or, refl, sym, ap, ◌∙◌, arith, inl, inr}
use Rattle.std.specs.List.{range_with_len}
use Rattle.std.proofs.lemmas.Bool.{and_parts, cases_lt, ltb-true, ne_eqb, or_parts}
use Rattle.std.proofs.lemmas.List.{get_or_past}
use Rattle.std.proofs.lemmas.List.FromFn.{get_or-map-range_with_len}
use Rattle.std.proofs.Math.ListN.{get_or-map}
use Rattle.lk_base.specs.RelocKinds.{Kind, Line, is_among, IsTable, is_linked, kind_in, kind_of, kind_view, line_at, line_view, lines, unknown}
use Rattle.lk_base.specs.declared.abi.TheConstants.{R_RISCV_SUB_ULEB128}
use Rattle.lk_base.specs.declared.relocations.Kind as code
use Rattle.lk_base.proofs.TableLines.{width_few}

abbrev all_below : ℕ → List Line → Bool
all_below most [] = true
all_below most (l ∷ ls) = nat_lt l.number most && all_below most ls

differs : (a n most : ℕ) → nat_lt a most ≡ true → most ≤ n → (a == n) ≡ false
differs a n most low past = let less = ltb-true a most low in ne_eqb a n (λ same. absurd (omega (arith, less, same, past)))

not_among_past : (most : ℕ) (ls : List Line) (n : ℕ) → all_below most ls ≡ true → most ≤ n → is_among (map (λ (l : Line). l.number) ls) n ≡ false
not_among_past most [] n all past = refl
not_among_past most (l ∷ ls) n all past =
    let parts = and_parts (nat_lt l.number most) (all_below most ls) all in
    ap (λ b. b || is_among (map (λ (l : Line). l.number) ls) n) (differs l.number n most parts.0 past) ∙ not_among_past most ls n parts.1 past

not_linked_past : (n : ℕ) → 62 ≤ n → is_linked n ≡ false
unfolding is_linked
not_linked_past n past = not_among_past 62 lines n refl past

-- the table has what is line_at at each number that it reaches, so at every number
same_at : (table : List (Option code.Kind)) → IsTable table → (n : ℕ) → line_view (get_or table n None) ≡ line_at n
unfolding IsTable
same_at table same n =
    let read = sym (get_or-map line_view table n None) ∙ ap (λ (rows : List (Option Kind)). get_or rows n None) same in
    read ∙ elim (cases_lt n 62) [
      | inl low ↦ get_or-map-range_with_len line_at 0 62 n n None low (omega arith)
      | inr past ↦
          get_or_past (map line_at (range_with_len 0 (R_RISCV_SUB_ULEB128 + 1))) n None past
          ∙ sym (ap (λ b. if b then Some (kind_of n) else None) (not_linked_past n past))
    ]

abbrev kind_or : Option Kind → Kind
kind_or None = unknown
kind_or (Some kind) = kind

line_by : (o : Option code.Kind) (b : Bool) (k : Kind) → line_view o ≡ (if b then Some k else None) → IfSome o (λ kind. kind_view kind ≡ k)
line_by None b k same = tt
line_by (Some kind) true k same = ap kind_or same
line_by (Some kind) false k same = absurd cc

some_by : (o : Option code.Kind) (b : Bool) (k : Kind) → line_view o ≡ (if b then Some k else None) → is_some o ≡ b
some_by None true k same = absurd cc
some_by None false k same = refl
some_by (Some kind) true k same = refl
some_by (Some kind) false k same = absurd cc

few_by : (o : Option code.Kind) (n : ℕ) → IfSome o (λ kind. kind_view kind ≡ kind_of n) → IfSome o (λ kind. kind.width ≤ 8)
few_by None n line = tt
few_by (Some kind) n line = let e = ap (λ (k : Kind). k.width) line in let few = width_few n in omega (arith, e, few)

-- what follows for the line that was read from a table
pub line_is : (table : List (Option code.Kind)) → IsTable table → (n : ℕ) (r : Option code.Kind) → r ≡ get_or table n None → IfSome r (λ kind. kind_view kind ≡ kind_of n)
line_is table is n r read = line_by r (is_linked n) (kind_of n) (ap line_view read ∙ same_at table is n)

pub width_is : (table : List (Option code.Kind)) → IsTable table → (n : ℕ) (r : Option code.Kind) → r ≡ get_or table n None → IfSome r (λ kind. kind.width ≤ 8)
width_is table is n r read = few_by r n (line_is table is n r read)

pub linked_is : (table : List (Option code.Kind)) → IsTable table → (n : ℕ) (r : Option code.Kind) → r ≡ get_or table n None → is_some r ≡ is_linked n
linked_is table is n r read = some_by r (is_linked n) (kind_of n) (ap line_view read ∙ same_at table is n)

no_line : (ls : List Line) (n : ℕ) → is_among (map (λ (l : Line). l.number) ls) n ≡ false → kind_in ls n ≡ unknown
no_line [] n out = refl
no_line (l ∷ ls) n out =
    let parts = or_parts (l.number == n) (is_among (map (λ (l : Line). l.number) ls) n) out in
    ap (λ b. if b then l.kind else kind_in ls n) parts.0 ∙ no_line ls n parts.1

unlinked : (n : ℕ) → is_linked n ≡ false → kind_of n ≡ unknown
unfolding is_linked kind_of
unlinked n out = no_line lines n out

pub none_is : (table : List (Option code.Kind)) → IsTable table → (n : ℕ) (r : Option code.Kind) → r ≡ get_or table n None → r ≡ None → kind_of n ≡ unknown
none_is table is n r read none = unlinked n (sym (linked_is table is n r read) ∙ ap is_some none)
