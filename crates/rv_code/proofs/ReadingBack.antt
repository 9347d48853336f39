-- What was put into a field is read from it again, since no two of its runs meet.
use Rattle.std.proofs.Common.{◌≡◌, ℕ, ◌+◌, ◌-◌, ◌*◌, ◌/◌, ◌%◌, ◌^◌, ◌<◌, ◌≤◌, List, [], ◌∷◌, Bool, true, false, nat_le, nat_lt, ◌&&◌, ◌||◌, length, arith, inl, inr, sym, ◌∙◌, ap, refl, ℤ, pos, ◌+ℤ◌, IsTrue}
use Rattle.std.specs.Prelude.{if◌then◌else◌}
use Rattle.std.specs.Int.{bit_at}
use Rattle.std.proofs.lemmas.Nat.{pow_pos, mod_below}
use Rattle.std.proofs.lemmas.Nat.Bits.{same_from_bits_below}
use Rattle.std.proofs.lemmas.Bool.{cases_lt}
use Rattle.std.proofs.lemmas.Bool.Decides.{nat_tests}
use Rattle.lk_base.proofs.TableLines.{each_kind}
use Rattle.lk_base.specs.Fields.{Run, field_bit}
use Rattle.lk_base.specs.Formats.{field_of}
use Rattle.lk_base.specs.RelocKinds.{Kind, kind_of, kind_view}
use Rattle.lk_base.specs.declared.relocations.Kind as code
use Rattle.rv_code.specs.Places.{placed_bit, number_of, Names, held_in, kept_of, HoldsValue, ReadsBack}
use Rattle.lk_base.specs.Arithmetic.{bits_of}
use Rattle.rv_code.proofs.BitRuns.{low_bit, high_bit, inside}

-- no bit is in the run and in one of the others; no two runs have a bit together
abbrev pub is_clear : Run → List Run → Bool
is_clear r [] = true
is_clear r (q ∷ qs) = (nat_lt q.high r.low || nat_lt r.high q.low) && is_clear r qs

abbrev pub are_clear : List Run → List Run → Bool
are_clear [] qs = true
are_clear (r ∷ rs) qs = is_clear r qs && are_clear rs qs

abbrev pub are_apart : List Run → Bool
are_apart [] = true
are_apart (r ∷ rs) = is_clear r rs && are_apart rs

-- the runs end before bit n
abbrev pub are_below : ℕ → List Run → Bool
are_below n [] = true
are_below n (r ∷ rs) = nat_lt r.high n && are_below n rs

abbrev pub are_ordered : List Run → Bool
are_ordered [] = true
are_ordered (r ∷ rs) = nat_le r.low r.high && are_ordered rs

abbrev pub is_sound : Kind → Bool
is_sound k =
    (are_apart k.field.plain && are_apart k.field.rounded)
    && (are_clear k.field.rounded k.field.plain
    && ((are_below (8 * k.width) k.field.plain && are_below (8 * k.width) k.field.rounded)
    && (are_ordered k.field.plain && are_ordered k.field.rounded)))

first : (a b : Bool) → IsTrue (a && b) → IsTrue a
first true b h = refl
first false b h = h

second : (a b : Bool) → IsTrue (a && b) → IsTrue b
second true b h = h
second false b h = cc

-- each kind is sound
pub sound_kind : (n : ℕ) → IsTrue (is_sound (kind_of n))
sound_kind n = each_kind is_sound n refl refl

-- a kind's field, from the kind as the code holds it
pub same_field : (k : code.Kind) (n : ℕ) → kind_view k ≡ kind_of n → field_of k.format ≡ (kind_of n).field
same_field k n is = ap (λ (q : Kind). q.field) is

-- the value's bit if a run has k, else what `rest` says
abbrev pub chosen : List Run → ℕ → (ℕ → ℕ) → ℕ → ℕ
chosen [] value rest k = rest k
chosen (r ∷ rs) value rest k =
    if nat_le r.low k && nat_le k r.high then bit_at value (r.from + (k - r.low)) else chosen rs value rest k

clear_of : (low high low' high' k u v : ℕ) → IsTrue (nat_lt high' low || nat_lt high low') → low' ≤ k → k ≤ high'
    → (if nat_le low k && nat_le k high then u else v) ≡ v
clear_of low high low' high' k u v apart p q = grind (arith, nat_tests)

skips : (r : Run) (qs : List Run) (k u v : ℕ) → IsTrue (is_clear r qs) → Names qs k
    → (if nat_le r.low k && nat_le k r.high then u else v) ≡ v
skips r [] k u v apart there = absurd there
skips r (q ∷ qs) k u v apart (inl there) =
    clear_of r.low r.high q.low q.high k u v (first (nat_lt q.high r.low || nat_lt r.high q.low) (is_clear r qs) apart) there.0 there.1
skips r (q ∷ qs) k u v apart (inr there) =
    skips r qs k u v (second (nat_lt q.high r.low || nat_lt r.high q.low) (is_clear r qs) apart) there

skips_all : (rs qs : List Run) (value : ℕ) (rest : ℕ → ℕ) (k : ℕ) → IsTrue (are_clear rs qs) → Names qs k
    → chosen rs value rest k ≡ rest k
skips_all [] qs value rest k apart there = refl
skips_all (r ∷ rs) qs value rest k apart there =
    skips r qs k (bit_at value (r.from + (k - r.low))) (chosen rs value rest k) (first (is_clear r qs) (are_clear rs qs) apart) there
    ∙ skips_all rs qs value rest k (second (is_clear r qs) (are_clear rs qs) apart) there

outside_one : (low high k u v : ℕ) → ((low ≤ k) × (k ≤ high) → ⊥) → (if nat_le low k && nat_le k high then u else v) ≡ v
outside_one low high k u v out =
    elim (cases_lt k low) [
      | inl lt ↦ grind (arith, nat_tests)
      | inr le ↦ elim (cases_lt high k) [
        | inl past ↦ grind (arith, nat_tests)
        | inr within ↦ absurd (out (le, within))
      ]
    ]

none_there : (rs : List Run) (value : ℕ) (rest : ℕ → ℕ) (k : ℕ) → ¬ Names rs k → chosen rs value rest k ≡ rest k
none_there [] value rest k out = refl
none_there (r ∷ rs) value rest k out =
    outside_one r.low r.high k (bit_at value (r.from + (k - r.low))) (chosen rs value rest k) (λ h. out (inl h))
    ∙ none_there rs value rest k (λ h. out (inr h))

-- one run that holds the value's bits
pub one_held : (low high from word value : ℕ)
    → ((i : ℕ) → i < high - low + 1 → bit_at word (low + i) ≡ bit_at value (from + i))
    → word / 2 ^ low % 2 ^ (high - low + 1) ≡ value / 2 ^ from % 2 ^ (high - low + 1)
one_held low high from word value bits =
    same_from_bits_below (high - low + 1) _ _ (mod_below _ _ (pow_pos (high - low + 1))) (mod_below _ _ (pow_pos (high - low + 1)))
    (λ i lt.
    low_bit (word / 2 ^ low) (high - low + 1) i lt ∙ high_bit word low i ∙ bits i lt
    ∙ sym (low_bit (value / 2 ^ from) (high - low + 1) i lt ∙ high_bit value from i))

-- all runs of a list that do not meet
pub all_held : (rs : List Run) (word value : ℕ) (rest : ℕ → ℕ) → IsTrue (are_apart rs) → IsTrue (are_ordered rs)
    → ((k : ℕ) → Names rs k → bit_at word k ≡ chosen rs value rest k)
    → held_in rs word ≡ kept_of rs value
all_held [] word value rest apart ordered bits = refl
all_held (r ∷ rs) word value rest apart ordered bits =
    let le : IsTrue (nat_le r.low r.high) = first (nat_le r.low r.high) (are_ordered rs) ordered in
    let here = one_held r.low r.high r.from word value (one_bits le) in
    let later = all_held rs word value rest (second (is_clear r rs) (are_apart rs) apart) (second (nat_le r.low r.high) (are_ordered rs) ordered)
    (λ k there. bits k (inr there)
    ∙ skips r rs k (bit_at value (r.from + (k - r.low))) (chosen rs value rest k) (first (is_clear r rs) (are_apart rs) apart) there) in
    ap (λ (n : ℕ). n * 2 ^ r.from + held_in rs word) here
    ∙ ap (λ (n : ℕ). value / 2 ^ r.from % 2 ^ (r.high - r.low + 1) * 2 ^ r.from + n) later
  where
    within : (low high i : ℕ) → IsTrue (nat_le low high) → i < high - low + 1 → low + i ≤ high
    within low high i le lt = grind (arith, nat_tests)

    one_bits : IsTrue (nat_le r.low r.high) → (i : ℕ) → i < r.high - r.low + 1 → bit_at word (r.low + i) ≡ bit_at value (r.from + i)
    one_bits le i lt =
        let up : r.low ≤ r.low + i = omega arith in
        let top : r.low + i ≤ r.high = within r.low r.high i le lt in
        let e : r.from + (r.low + i - r.low) ≡ r.from + i = omega arith in
        bits (r.low + i) (inl (up, top))
        ∙ inside r.low r.high (r.low + i) (bit_at value (r.from + (r.low + i - r.low))) (chosen rs value rest (r.low + i)) up top
        ∙ ap (bit_at value) e

field_chosen : (rs : List Run) (old value k : ℕ) → field_bit rs old value k ≡ chosen rs value (bit_at old) k
field_chosen [] old value k = refl
field_chosen (r ∷ rs) old value k =
    ap (λ b. if nat_le r.low k && nat_le k r.high then bit_at value (r.from + (k - r.low)) else b) (field_chosen rs old value k)

placed_chosen : (rs plain : List Run) (old : ℕ) (v : ℤ) (k : ℕ)
    → placed_bit rs plain old v k ≡ chosen rs (bits_of (v +ℤ pos 0x800)) (chosen plain (bits_of v) (bit_at old)) k
placed_chosen [] plain old v k = field_chosen plain old (bits_of v) k
placed_chosen (r ∷ rs) plain old v k =
    ap (λ b. if nat_le r.low k && nat_le k r.high then bit_at (bits_of (v +ℤ pos 0x800)) (r.from + (k - r.low)) else b)
    (placed_chosen rs plain old v k)

below_one : (high n k : ℕ) → IsTrue (nat_lt high n) → k ≤ high → k < n
below_one high n k t le = grind (arith, nat_tests)

named_below : (n : ℕ) (rs : List Run) (k : ℕ) → IsTrue (are_below n rs) → Names rs k → k < n
named_below n [] k below there = absurd there
named_below n (r ∷ rs) k below (inl there) = below_one r.high n k (first (nat_lt r.high n) (are_below n rs) below) there.1
named_below n (r ∷ rs) k below (inr there) = named_below n rs k (second (nat_lt r.high n) (are_below n rs) below) there

pub reads_back : (k : Kind) (v : ℤ) (old new : List ℕ) → IsTrue (is_sound k) → length old ≡ k.width
    → HoldsValue k.field old v new → ReadsBack k.field old v new
reads_back k v old new sound len holds =
    let a = first (are_apart k.field.plain && are_apart k.field.rounded) _ sound in
    let b = second (are_apart k.field.plain && are_apart k.field.rounded) _ sound in
    let apart = first (are_clear k.field.rounded k.field.plain) _ b in
    let d = second (are_clear k.field.rounded k.field.plain) _ b in
    let e = first (are_below (8 * k.width) k.field.plain && are_below (8 * k.width) k.field.rounded) _ d in
    let f = second (are_below (8 * k.width) k.field.plain && are_below (8 * k.width) k.field.rounded) _ d in
    let size : 8 * k.width ≡ 8 * length old = ap (λ (n : ℕ). 8 * n) (sym len) in
    let all : (j : ℕ) → j < 8 * k.width
    → bit_at (number_of new) j ≡ chosen k.field.rounded (bits_of (v +ℤ pos 0x800)) (chosen k.field.plain (bits_of v) (bit_at (number_of old))) j
    = λ j lt. holds.bits j (rw (← size) lt) ∙ placed_chosen k.field.rounded k.field.plain (number_of old) v j in
    record {
      plain = all_held k.field.plain (number_of new) (bits_of v) (bit_at (number_of old))
          (first (are_apart k.field.plain) _ a) (first (are_ordered k.field.plain) _ f)
          (λ j there. all j (named_below (8 * k.width) k.field.plain j (first (are_below (8 * k.width) k.field.plain) _ e) there)
          ∙ skips_all k.field.rounded k.field.plain (bits_of (v +ℤ pos 0x800)) (chosen k.field.plain (bits_of v) (bit_at (number_of old))) j apart there);
      rounded = all_held k.field.rounded (number_of new) (bits_of (v +ℤ pos 0x800)) (chosen k.field.plain (bits_of v) (bit_at (number_of old)))
          (second (are_apart k.field.plain) _ a) (second (are_ordered k.field.plain) _ f)
          (λ j there. all j (named_below (8 * k.width) k.field.rounded j (second (are_below (8 * k.width) k.field.plain) _ e) there));
      rest = λ j lt out out'.
          holds.bits j lt ∙ placed_chosen k.field.rounded k.field.plain (number_of old) v j
          ∙ none_there k.field.rounded (bits_of (v +ℤ pos 0x800)) (chosen k.field.plain (bits_of v) (bit_at (number_of old))) j out
          ∙ none_there k.field.plain (bits_of v) (bit_at (number_of old)) j out';
    }
