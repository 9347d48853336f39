-- Texts of fields: digits, and the end of a long name.
use Rattle.std.proofs.Math.Nat.{pow-succ', pow-le-pow_right}
use Rattle.std.proofs.Math.Seq.{drop-cons}
use Rattle.ar_read.specs.Fields.{number_after}
use Rattle.std.proofs.Common.{suc, ◌-◌, ◌*◌, ◌^◌, drop, ap, ◌∙◌, ◌≡◌, ℕ, ◌+◌, ◌<◌, ◌≤◌, Bool, true, false, List, [], ◌∷◌, length, get_or, Option, Some, None, refl, sym, arith}
use Rattle.std.specs.Char.{is_ascii_digit}
use Rattle.std.specs.List.{list_all}
use Rattle.std.proofs.lemmas.List.Folds.{list_all_at}
use Rattle.std.proofs.lemmas.Bool.{and_parts, leb-true}
use Rattle.memchr.specs.Find.{FindsNeedle}
use Rattle.memchr.proofs.lemmas.ValueLemmas.{FindsNeedle-value}
use Rattle.ar_read.specs.Names.{ended_len, long_name}
use Rattle.std.specs.Option.{option_map}
use Rattle.std.proofs.Common.{take}
use Rattle.lk_tables.specs.declared.spans.Span.{Span}
use Rattle.lk_tables.specs.Names.{span}

true_unless : (b all : Bool) → all ≡ true → (b ≡ false → all ≡ false) → b ≡ true
true_unless true all e k = refl
true_unless false all e k = let f : all ≡ false = k refl in cc

-- each byte of a text of digits is a digit
pub digit_at : (text : List ℕ) (i d : ℕ) → i < length text → list_all is_ascii_digit text ≡ true → is_ascii_digit (get_or text i d) ≡ true
digit_at text i d lt all = true_unless (is_ascii_digit (get_or text i d)) (list_all is_ascii_digit text) all (λ e. list_all_at is_ascii_digit text i d lt e)

-- it is one of ten bytes
pub digit_range : (x : ℕ) → is_ascii_digit x ≡ true → (48 ≤ x) × (x ≤ 57)
digit_range x is = let p = and_parts _ _ is in (leb-true _ _ p.0, leb-true _ _ p.1)

-- a digit more
pub number_step : (digits : List ℕ) (n i : ℕ) → i < length digits →
    number_after n (drop i digits) ≡ number_after (10 * n + (get_or digits i 0 - 48)) (drop (i + 1) digits)
number_step digits n i lt =
    let e : suc i ≡ i + 1 = omega arith in
    ap (number_after n) (drop-cons digits i 0 lt)
    ∙ ap (λ (k : ℕ). number_after (10 * n + (get_or digits i 0 - 48)) (drop k digits)) e

pub number_below : (n d i : ℕ) → n < 10 ^ i → d ≤ 9 → 10 * n + d < 10 ^ (i + 1)
number_below n d i lt small =
    let e : i + 1 ≡ suc i = omega arith in
    let more : 10 ^ (i + 1) ≡ 10 * 10 ^ i = ap (λ (k : ℕ). 10 ^ k) e ∙ pow-succ' 10 i in
    omega arith

-- sixteen digits fit
pub number_fits : (n d i : ℕ) → n < 10 ^ i → i < 16 → d ≤ 9 → 10 * n + d < 10000000000000000
number_fits n d i lt high small =
    let below : 10 * n + d < 10 ^ (i + 1) = number_below n d i lt small in
    let ten : 0 < 10 = omega arith in
    let within : i + 1 ≤ 16 = omega arith in
    let most : 10 ^ (i + 1) ≤ 10 ^ 16 = pow-le-pow_right ten within in
    let value : 10 ^ 16 ≡ 10000000000000000 = refl in
    omega arith

pub ended_is : (text : List ℕ) (r : Option ℕ) → FindsNeedle text (47 ∷ 10 ∷ []) 0 r → r ≡ ended_len text
unfolding ended_len
ended_is text r h = FindsNeedle-value text (47 ∷ 10 ∷ []) r h

-- no name ends in an empty text
pub ended_nil : ended_len [] ≡ None
ended_nil = sym (ended_is [] None (λ k low high occurs. absurd (omega (arith, occurs.fits))))

-- nor past the table
pub past_table : (b : List ℕ) (table : Span) (n : ℕ) → table.len ≤ n → None ≡ long_name b (Some table) n
unfolding long_name
past_table b table n over =
    let none : table.len - n ≡ 0 = omega arith in
    sym (ap (λ (k : ℕ). option_map (span (table.from + n)) (ended_len (take k (drop (table.from + n) b)))) none
    ∙ ap (option_map (span (table.from + n))) ended_nil)
