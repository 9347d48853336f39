-- Two names of bytes that are shown alike are one name.
use Rattle.std.proofs.Common.{◌≡◌, ℕ, ◌-◌, ◌/◌, ◌%◌, ◌<◌, Bool, true, false, if◌then◌else◌, nat_lt, ◌==◌, List, [], ◌∷◌, ◌++◌, All, codes, refl, sym, ◌∙◌, ap, ap₂, zero-add, length, get_or, arith}
use Rattle.std.specs.List.{range_with_len}
use Rattle.std.proofs.lemmas.List.Elements.{All-head, All-tail}
use Rattle.std.proofs.lemmas.List.FromFn.{get_or-range_with_len}
use Rattle.std.proofs.lemmas.List.Sums.{AllPass-from_list_all}
use Rattle.std.proofs.lemmas.Nat.{div-add-mod'}
use Rattle.std.proofs.Math.Nat.{div-lt_iff_lt-mul, mod-lt}
use Rattle.lk_base.specs.Lines.{IsRecoverable, escaped, escaped_byte, hex_digit, is_plain}

-- what a hexadecimal digit counts
abbrev digit_value : ℕ → ℕ
digit_value c = if nat_lt c 58 then c - 48 else c - 55

-- the first element, or the default, and the rest
abbrev first_or : ℕ → List ℕ → ℕ
first_or d [] = d
first_or d (x ∷ xs) = x

abbrev rest_of : List ℕ → List ℕ
rest_of [] = []
rest_of (x ∷ xs) = xs

abbrev counts_itself : ℕ → Bool
counts_itself d = digit_value (hex_digit d) == d

value-hex_digit : (d : ℕ) → d < 16 → digit_value (hex_digit d) ≡ d
value-hex_digit d small =
    let passes : counts_itself (get_or (range_with_len 0 16) d 0) ≡ true =
    AllPass-from_list_all counts_itself (range_with_len 0 16) refl d 0 small in
    let here : get_or (range_with_len 0 16) d 0 ≡ d = get_or-range_with_len 0 16 d 0 small ∙ zero-add d in
    let itself : counts_itself d ≡ true = rw (← here) passes in
    grind (arith, itself)

hex_digit-same : (m n : ℕ) → m < 16 → n < 16 → hex_digit m ≡ hex_digit n → m ≡ n
hex_digit-same m n hm hn same = sym (value-hex_digit m hm) ∙ ap digit_value same ∙ value-hex_digit n hn

not_percent : (b : ℕ) → is_plain b ≡ true → b ≡ 37 → ⊥
not_percent b plain is = grind arith

-- the form of a byte that is shown as three
abbrev three : ℕ → List ℕ
three b = codes "%" ++ hex_digit (b / 16) ∷ hex_digit (b % 16) ∷ []

nonempty : (b : ℕ) (rest : List ℕ) → [] ≡ escaped_byte b ++ rest → ⊥
nonempty b rest = by_kind (is_plain b)
  where
    by_kind : (t : Bool) → [] ≡ (if t then b ∷ [] else three b) ++ rest → ⊥
    by_kind true e = omega (arith, ap (length {A = ℕ}) e)
    by_kind false e = omega (arith, ap (length {A = ℕ}) e)

-- the first byte is known, and so are the bytes after it
first_recoverable : (a b : ℕ) (xs ys : List ℕ) → a < 256 → b < 256 → escaped_byte a ++ xs ≡ escaped_byte b ++ ys → (a ≡ b) × (xs ≡ ys)
first_recoverable a b xs ys a_byte b_byte = by_kinds (is_plain a) refl (is_plain b) refl
  where
    high : (n : ℕ) → n < 256 → n / 16 < 16
    high n small = (div-lt_iff_lt-mul {k = 16} {x = n} {y = 16} (omega arith)).1 small

    by_kinds : (s : Bool) → is_plain a ≡ s → (t : Bool) → is_plain b ≡ t
        → (if s then a ∷ [] else three a) ++ xs ≡ (if t then b ∷ [] else three b) ++ ys → (a ≡ b) × (xs ≡ ys)
    by_kinds true _ true _ e = (ap (first_or 0) e, ap rest_of e)
    by_kinds true plain false _ e = absurd (not_percent a plain (ap (first_or 0) e))
    by_kinds false _ true plain e = absurd (not_percent b plain (sym (ap (first_or 0) e)))
    by_kinds false _ false _ e =
        let highs : a / 16 ≡ b / 16 =
        hex_digit-same (a / 16) (b / 16) (high a a_byte) (high b b_byte) (ap (λ l. first_or 0 (rest_of l)) e) in
        let lows : a % 16 ≡ b % 16 =
        hex_digit-same (a % 16) (b % 16) (mod-lt a (omega arith)) (mod-lt b (omega arith)) (ap (λ l. first_or 0 (rest_of (rest_of l))) e) in
        (omega (arith, div-add-mod' a 16, div-add-mod' b 16), ap (λ l. rest_of (rest_of (rest_of l))) e)

abbrev AreBytes : List ℕ → Type 0
AreBytes xs = All (λ b. b < 256) xs

alike : (ms ns : List ℕ) → AreBytes ms → AreBytes ns → escaped ms ≡ escaped ns → ms ≡ ns
alike [] [] m_bytes n_bytes e = refl
alike [] (n ∷ ns) m_bytes n_bytes e = absurd (nonempty n (escaped ns) e)
alike (m ∷ ms) [] m_bytes n_bytes e = absurd (nonempty m (escaped ms) (sym e))
alike (m ∷ ms) (n ∷ ns) m_bytes n_bytes e =
    let first : (m ≡ n) × (escaped ms ≡ escaped ns) =
    first_recoverable m n (escaped ms) (escaped ns) (All-head (λ b. b < 256) m ms m_bytes) (All-head (λ b. b < 256) n ns n_bytes) e in
    ap₂ (λ x xs. x ∷ xs) first.0
    (alike ms ns (All-tail (λ b. b < 256) m ms m_bytes) (All-tail (λ b. b < 256) n ns n_bytes) first.1)

pub name_recoverable : (name : List ℕ) → All (λ b. b < 256) name → IsRecoverable name
name_recoverable name bytes = record { alone = λ other other_bytes same. alike other name other_bytes bytes same }
