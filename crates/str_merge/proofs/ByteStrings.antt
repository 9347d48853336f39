-- Strings of bytes: a zero ends each, and the places of zeros are found by a search.
use Rattle.std.proofs.Common.{◌≡◌, ℕ, zero, suc, ◌+◌, ◌-◌, ◌*◌, ◌<◌, ◌≤◌, true, false, ◌==◌, List, [], ◌∷◌, ◌++◌, length, get_or, take, drop, refl, sym, ap, ◌∙◌, subst, arith, append_assoc, inl, inr}
use Rattle.std.specs.Prelude.{⊤}
use Rattle.std.proofs.Math.Bool.{and-true}
use Rattle.std.proofs.Math.Seq.{drop-cons}
use Rattle.std.proofs.lemmas.Bool.{cases_Bool, cond-true, cond-false}
use Rattle.std.proofs.lemmas.List.{append-nil}
use Rattle.memchr.specs.Find.{is_byte, places, places_from}
use Rattle.link_sections.specs.MergeSections.{elements, is_zero_char, strings_from}
use Rattle.str_merge.proofs.CutTexts.{begun, begun_more, begun_none, element_of, elements_end, elements_rest}

-- from a place on, each up to the zero at the next of these places
abbrev pub cuts_at : (bytes : List ℕ) → (start : ℕ) → (ends : List ℕ) → List (List ℕ)
cuts_at bytes start [] = []
cuts_at bytes start (p ∷ ps) = begun bytes start (p + 1) ∷ cuts_at bytes (p + 1) ps

-- the places rise from a start on, and stay below an end
abbrev pub Rise : (start end : ℕ) → List ℕ → Type 0
Rise start end [] = ⊤
Rise start end (p ∷ ps) = (start ≤ p) × (p < end) × Rise (p + 1) end ps

one_byte : (b : ℕ) → is_zero_char (b ∷ []) ≡ (b == 0)
one_byte b = and-true (b == 0)

byte_at : (bytes : List ℕ) (i : ℕ) → i < length bytes → element_of 1 bytes i ≡ get_or bytes i 0 ∷ []
byte_at bytes i lt =
    let one : i * 1 ≡ i = omega arith in
    ap (λ k. take 1 (drop k bytes)) one ∙ ap (take 1) (drop-cons bytes i 0 lt)

zero_at : (bytes : List ℕ) (i : ℕ) → i < length bytes → is_zero_char (element_of 1 bytes i) ≡ is_byte 0 (get_or bytes i 0)
zero_at bytes i lt = ap is_zero_char (byte_at bytes i lt) ∙ one_byte (get_or bytes i 0)

zero_here : (bytes : List ℕ) (i n : ℕ) → is_byte 0 (get_or bytes i 0) ≡ true → places_from (is_byte 0) bytes i (suc n) ≡ i ∷ places_from (is_byte 0) bytes (i + 1) n
unfolding places_from
zero_here bytes i n is = cond-true (is_byte 0 (get_or bytes i 0)) (i ∷ places_from (is_byte 0) bytes (i + 1) n) (places_from (is_byte 0) bytes (i + 1) n) is

zero_not : (bytes : List ℕ) (i n : ℕ) → is_byte 0 (get_or bytes i 0) ≡ false → places_from (is_byte 0) bytes i (suc n) ≡ places_from (is_byte 0) bytes (i + 1) n
unfolding places_from
zero_not bytes i n is = cond-false (is_byte 0 (get_or bytes i 0)) (i ∷ places_from (is_byte 0) bytes (i + 1) n) (places_from (is_byte 0) bytes (i + 1) n) is

no_zeros : (bytes : List ℕ) (i : ℕ) → places_from (is_byte 0) bytes i zero ≡ []
unfolding places_from
no_zeros bytes i = refl

strings_at : (bytes : List ℕ) (start i n : ℕ) → i + n ≡ length bytes → start ≤ i →
    strings_from (begun bytes start i) (drop i (elements 1 bytes)) ≡ cuts_at bytes start (places_from (is_byte 0) bytes i n)
strings_at bytes start i zero whole le =
    ap (strings_from (begun bytes start i)) (elements_end 1 i bytes (omega (arith, whole)))
    ∙ sym (ap (cuts_at bytes start) (no_zeros bytes i))
strings_at bytes start i (suc n) whole le =
    let lt : i < length bytes = omega (arith, whole) in
    let one : i * 1 ≡ i = omega arith in
    let char = element_of 1 bytes i in
    let rest = drop (i + 1) (elements 1 bytes) in
    let more = places_from (is_byte 0) bytes (i + 1) n in
    let text = begun bytes start i in
    let grown : text ++ char ≡ begun bytes start (i + 1) = ap (λ k. text ++ take 1 (drop k bytes)) one ∙ begun_more bytes start i 1 le in
    let test = zero_at bytes i lt in
    ap (strings_from text) (elements_rest 1 i bytes (omega (arith, lt)))
    ∙ elim (cases_Bool (is_byte 0 (get_or bytes i 0))) [
      | inl ends ↦
          cond-true (is_zero_char char) ((text ++ char) ∷ strings_from [] rest) (strings_from (text ++ char) rest) (test ∙ ends)
          ∙ ap (λ t. t ∷ strings_from [] rest) grown
          ∙ ap (λ t. begun bytes start (i + 1) ∷ strings_from t rest) (sym (begun_none bytes (i + 1)))
          ∙ ap (λ l. begun bytes start (i + 1) ∷ l) (strings_at bytes (i + 1) (i + 1) n (omega (arith, whole)) (omega arith))
          ∙ ap (cuts_at bytes start) (sym (zero_here bytes i n ends))
      | inr goes ↦
          cond-false (is_zero_char char) ((text ++ char) ∷ strings_from [] rest) (strings_from (text ++ char) rest) (test ∙ goes)
          ∙ ap (λ t. strings_from t rest) grown
          ∙ strings_at bytes start (i + 1) n (omega (arith, whole)) (omega arith)
          ∙ ap (cuts_at bytes start) (sym (zero_not bytes i n goes))
    ]

zeros_rise : (bytes : List ℕ) (start i n : ℕ) → i + n ≡ length bytes → start ≤ i → Rise start (length bytes) (places_from (is_byte 0) bytes i n)
zeros_rise bytes start i zero whole le = subst (Rise start (length bytes)) (sym (no_zeros bytes i)) tt
zeros_rise bytes start i (suc n) whole le =
    let P : List ℕ → Type 0 = Rise start (length bytes) in
    elim (cases_Bool (is_byte 0 (get_or bytes i 0))) [
      | inl ends ↦ subst P (sym (zero_here bytes i n ends)) (le, omega (arith, whole), zeros_rise bytes (i + 1) (i + 1) n (omega (arith, whole)) (omega arith))
      | inr goes ↦ subst P (sym (zero_not bytes i n goes)) (zeros_rise bytes start (i + 1) n (omega (arith, whole)) (omega arith))
    ]

all_strings : (bytes : List ℕ) → strings_from [] (elements 1 bytes) ≡ cuts_at bytes 0 (places (is_byte 0) bytes)
all_strings bytes =
    ap (λ l. strings_from l (elements 1 bytes)) (sym (begun_none bytes 0)) ∙ strings_at bytes 0 0 (length bytes - 0) (omega arith) (omega arith)

cut_count : (bytes : List ℕ) (start : ℕ) (ends : List ℕ) → length (cuts_at bytes start ends) ≡ length ends
cut_count bytes start [] = refl
cut_count bytes start (p ∷ ps) = ap suc (cut_count bytes (p + 1) ps)

-- as many strings as zeros
pub count_zeros : (bytes : List ℕ) → length (places (is_byte 0) bytes) ≡ length (strings_from [] (elements 1 bytes))
count_zeros bytes = sym (ap length (all_strings bytes) ∙ cut_count bytes 0 (places (is_byte 0) bytes))

-- the strings so far, and the zeros that are left
pub record AreCutTo (bytes : List ℕ) (start : ℕ) (ends : List ℕ) (texts : List (List ℕ)) : Type 0 where
  pub rising : Rise start (length bytes) ends
  pub strings : texts ++ cuts_at bytes start ends ≡ strings_from [] (elements 1 bytes)

pub cut_none : (bytes ends : List ℕ) → ends ≡ places (is_byte 0) bytes → AreCutTo bytes 0 ends []
cut_none bytes ends is =
    let P : List ℕ → Type 0 = λ l. AreCutTo bytes 0 l [] in
    subst P (sym is) (record { rising = zeros_rise bytes 0 0 (length bytes - 0) (omega arith) (omega arith); strings = sym (all_strings bytes) })

pub cut_more : (bytes : List ℕ) (start p : ℕ) (ends rest : List ℕ) (old new : List (List ℕ)) → AreCutTo bytes start ends old → ends ≡ p ∷ rest →
    new ≡ old ++ begun bytes start (p + 1) ∷ [] → AreCutTo bytes (p + 1) rest new
cut_more bytes start p ends rest old new held is own =
    let r = subst (Rise start (length bytes)) is held.rising in
    record {
      rising = r.2;
      strings =
          ap (λ l. l ++ cuts_at bytes (p + 1) rest) own ∙ append_assoc old (begun bytes start (p + 1) ∷ []) (cuts_at bytes (p + 1) rest)
          ∙ ap (λ l. old ++ cuts_at bytes start l) (sym is) ∙ held.strings;
    }

pub cut_all : (bytes : List ℕ) (start : ℕ) (ends : List ℕ) (texts : List (List ℕ)) → AreCutTo bytes start ends texts → ends ≡ [] → texts ≡ strings_from [] (elements 1 bytes)
cut_all bytes start ends texts held none =
    sym (append-nil texts) ∙ ap (λ l. texts ++ cuts_at bytes start l) (sym none) ∙ held.strings
