-- From clap's getters to the rows that they read.
use Rattle.std.proofs.Common.{◌≡◌, ◌∙◌, ◌⊎◌, ◌<◌, ◌≤◌, ◌^◌, ap, refl, sym, subst, ℕ, List, [], Option, Some, None, inl, inr, map, option_map, unwrap_or, codes}
use Rattle.std.specs.Prelude.{IfSome, Ok, Result}
use Rattle.std.specs.Borrow.{Bor}
use Rattle.std.specs.Option.{option_map_or}
use Rattle.std.specs.Str.Parse.{ParsesUnsigned}
use Rattle.clap.specs.Words.{ReadsOne, Row, Text, all_of, first_value, matched_of, one_of, one_text, raw_values, rows_of, without_minus}
use Rattle.clap.specs.declared.parser.matches.Found.{Found}
use Rattle.clap.proofs.CallerReads.{signed_reads}
use Rattle.clap.proofs.WalkLemmas.{first_value-rows, one_text-rows, raw_values-rows}
use Rattle.link_command.specs.Command.{number_of, text_of, workers_in}
use Rattle.link_command.specs.Grammar.{HasNumber}

-- the first value of an id, or the empty text
pub text_is : (f : Found) (id : Text) (o : Option (Bor Text)) (empty result : Bor Text) → option_map (λ s. s.now) o ≡ first_value f id
    → empty.now ≡ [] → result ≡ unwrap_or o empty → result.now ≡ text_of id (rows_of f)
text_is f id o empty result is none taken = ap (λ s. s.now) taken ∙ go o ∙ ap (λ t. unwrap_or t []) (is ∙ first_value-rows f id)
  where
    go : (p : Option (Bor Text)) → (unwrap_or p empty).now ≡ unwrap_or (option_map (λ s. s.now) p) []
    go None = none
    go (Some s) = refl

-- the values of an id
pub values_are : (f : Found) (id : Text) (o : Option (Bor (List (Bor Text))))
    → option_map (λ s. map (λ v. v.now) s.now) o ≡ option_map raw_values (matched_of f id)
    → option_map (λ s. map (λ v. v.now) s.now) o ≡ all_of id (rows_of f)
values_are f id o is = is ∙ raw_values-rows f id

-- the values of an id, or none
pub values_or_none : (f : Found) (id : Text) (o : Option (Bor (List (Bor Text))))
    → option_map (λ s. map (λ v. v.now) s.now) o ≡ option_map raw_values (matched_of f id)
    → unwrap_or (option_map (λ s. map (λ v. v.now) s.now) o) [] ≡ unwrap_or (all_of id (rows_of f)) []
values_or_none f id o is = ap (λ t. unwrap_or t []) (values_are f id o is)

-- what `get_one` at `u32` makes of a number in a range
pub record Number (id : Text) (least most : ℕ) (rows : List Row) (r : Option ℕ) : Type 0 where
  pub number : ℕ
  pub is : r ≡ Some number
  pub exact : option_map number_of (one_of id rows) ≡ Some number
  pub low : least ≤ number
  pub high : number ≤ most

pub number_read : {E : Type 0} (G : List ℕ → Result ℕ E → Type 0) (f : Found) (id : Text) (least most : ℕ) (r : Option ℕ)
    → most < 2 ^ 32 → HasNumber id least most (rows_of f)
    → ((t : List ℕ) → one_text f id ≡ Some t → ReadsOne G t r)
    → ((u : List ℕ) (x : Result ℕ E) → G u x → ParsesUnsigned 32 10 u x) → Number id least most (rows_of f) r
number_read {E} G f id least most r fits has reads only =
    let t = without_minus has.0 in
    let read = reads t (one_text-rows f id ∙ has.1) in
    let got = signed_reads E G 32 least most has.0 r read only fits has.2 in
    let P : Option ℕ → Type 0 = λ o. ReadsOne G t o in
    let parsed = only t (Ok got.0) (subst P got.1 read) in
    record {
      number = got.0;
      is = got.1;
      exact = ap (option_map number_of) has.1 ∙ ap Some (sym parsed.1);
      low = got.2;
      high = got.3;
    }

-- the number of workers
pub workers_are : (rows : List Row) (r : Option ℕ) (n : Number (codes "threads") 1 64 rows r) → unwrap_or r 1 ≡ workers_in rows
workers_are rows r n = ap (λ o. unwrap_or o 1) n.is ∙ or_zero (one_of (codes "threads") rows) n.number n.exact
  where
    or_zero : (o : Option Text) (k : ℕ) → option_map number_of o ≡ Some k → k ≡ option_map_or number_of o 0
    or_zero None k e = cc
    or_zero (Some t) k e = ap (λ p. unwrap_or p k) (sym e)

-- what `get_one` at `u32` makes of an option that need not be there
pub record Numbers (id : Text) (least most : ℕ) (rows : List Row) (r : Option ℕ) : Type 0 where
  pub exact : r ≡ option_map number_of (one_of id rows)
  pub range : IfSome r (λ n. (least ≤ n) × (n ≤ most))

pub numbers_read : {E : Type 0} (G : List ℕ → Result ℕ E → Type 0) (f : Found) (id : Text) (least most : ℕ) (r : Option ℕ)
    → most < 2 ^ 32 → (one_of id (rows_of f) ≡ None) ⊎ HasNumber id least most (rows_of f)
    → ((one_text f id ≡ None) → r ≡ None) → ((t : List ℕ) → one_text f id ≡ Some t → ReadsOne G t r)
    → ((u : List ℕ) (x : Result ℕ E) → G u x → ParsesUnsigned 32 10 u x) → Numbers id least most (rows_of f) r
numbers_read {E} G f id least most r fits (inl none) absent reads only =
    let is = absent (one_text-rows f id ∙ none) in
    record {
      exact = is ∙ sym (ap (option_map number_of) none);
      range = rw is tt;
    }
numbers_read {E} G f id least most r fits (inr has) absent reads only =
    let n = number_read G f id least most r fits has reads only in
    record {
      exact = n.is ∙ sym n.exact;
      range = rw n.is (n.low, n.high);
    }
