-- Rows of numbers are equal where their bytes are.
use Rattle.std.proofs.Common.{◌≡◌, ℕ, suc, ◌<◌, ◌^◌, Bool, true, false, List, [], ◌∷◌, ◌++◌, length, get_or, drop, refl, sym, ap, ◌∙◌, arith}
use Rattle.std.specs.Int.{w32, w64, to_le_bytes, from_le_bytes}
use Rattle.std.specs.Prelude.{nat_lt, if◌then◌else◌}
use Rattle.std.proofs.lemmas.Bool.{ltb-true}
use Rattle.std.proofs.lemmas.List.{length-append}
use Rattle.std.proofs.lemmas.Nat.{from_le_bytes-to_le_bytes_4, from_le_bytes-to_le_bytes_8}
use Rattle.link_sections.proofs.SameTargets.{split_same}
use Rattle.icf_part.specs.Signatures.{AllFit, row_bytes, word_bytes}

pub first_fits : (w : ℕ) (ws : List ℕ) → AllFit (w ∷ ws) → w < 2 ^ 64
first_fits w ws fit = fit 0 0 (omega arith)

pub others_fit : (w : ℕ) (ws : List ℕ) → AllFit (w ∷ ws) → AllFit ws
others_fit w ws fit = λ k d lt. fit (suc k) d (omega arith)

-- a number as its kind of length and its bytes
record Told (w v : ℕ) (x y : List ℕ) : Type 0 where
  word : w ≡ v
  rest : x ≡ y

narrow : (w v : ℕ) (x y : List ℕ) → w < 2 ^ 32 → v < 2 ^ 32 → to_le_bytes w32 w ++ x ≡ to_le_bytes w32 v ++ y → Told w v x y
narrow w v x y fits also e =
    let both = split_same (to_le_bytes w32 w) (to_le_bytes w32 v) x y refl e in
    record { word = sym (from_le_bytes-to_le_bytes_4 w fits) ∙ ap (from_le_bytes w32) both.0 ∙ from_le_bytes-to_le_bytes_4 v also; rest = both.1 }

wide : (w v : ℕ) (x y : List ℕ) → w < 2 ^ 64 → v < 2 ^ 64 → to_le_bytes w64 w ++ x ≡ to_le_bytes w64 v ++ y → Told w v x y
wide w v x y fits also e =
    let both = split_same (to_le_bytes w64 w) (to_le_bytes w64 v) x y refl e in
    record { word = sym (from_le_bytes-to_le_bytes_8 w fits) ∙ ap (from_le_bytes w64) both.0 ∙ from_le_bytes-to_le_bytes_8 v also; rest = both.1 }

cut : (short half : Bool) → ℕ → List ℕ
cut short half n = if short then n ∷ [] else (if half then 254 ∷ to_le_bytes w32 n else 255 ∷ to_le_bytes w64 n)

apart : (b c d e : Bool) (w v : ℕ) (x y : List ℕ) → nat_lt w 254 ≡ b → nat_lt w (2 ^ 32) ≡ c → nat_lt v 254 ≡ d → nat_lt v (2 ^ 32) ≡ e →
    w < 2 ^ 64 → v < 2 ^ 64 → cut b c w ++ x ≡ cut d e v ++ y → Told w v x y
unfolding cut
apart true c true e w v x y eb ec ed ee fits also same = record { word = ap (λ l. get_or l 0 0) same; rest = ap (drop 1) same }
apart true c false true w v x y eb ec ed ee fits also same = absurd (omega (arith, ltb-true w 254 eb, ap (λ l. get_or l 0 0) same))
apart true c false false w v x y eb ec ed ee fits also same = absurd (omega (arith, ltb-true w 254 eb, ap (λ l. get_or l 0 0) same))
apart false true true e w v x y eb ec ed ee fits also same = absurd (omega (arith, ltb-true v 254 ed, ap (λ l. get_or l 0 0) same))
apart false false true e w v x y eb ec ed ee fits also same = absurd (omega (arith, ltb-true v 254 ed, ap (λ l. get_or l 0 0) same))
apart false true false false w v x y eb ec ed ee fits also same = absurd (omega (arith, ap (λ l. get_or l 0 0) same))
apart false false false true w v x y eb ec ed ee fits also same = absurd (omega (arith, ap (λ l. get_or l 0 0) same))
apart false true false true w v x y eb ec ed ee fits also same = narrow w v x y (ltb-true w (2 ^ 32) ec) (ltb-true v (2 ^ 32) ee) (ap (drop 1) same)
apart false false false false w v x y eb ec ed ee fits also same = wide w v x y fits also (ap (drop 1) same)

one_word : (w v : ℕ) (x y : List ℕ) → w < 2 ^ 64 → v < 2 ^ 64 → word_bytes w ++ x ≡ word_bytes v ++ y → Told w v x y
unfolding word_bytes cut
one_word w v x y fits also same =
    apart (nat_lt w 254) (nat_lt w (2 ^ 32)) (nat_lt v 254) (nat_lt v (2 ^ 32)) w v x y refl refl refl refl fits also same

cut_some : (b c : Bool) (n : ℕ) → 0 < length (cut b c n)
unfolding cut
cut_some true c n = omega arith
cut_some false true n = omega arith
cut_some false false n = omega arith

some_byte : (w : ℕ) → 0 < length (word_bytes w)
unfolding word_bytes cut
some_byte w = cut_some (nat_lt w 254) (nat_lt w (2 ^ 32)) w

pub row_told : (ws vs : List ℕ) → AllFit ws → AllFit vs → row_bytes ws ≡ row_bytes vs → ws ≡ vs
unfolding row_bytes
row_told [] [] fit also e = refl
row_told [] (v ∷ vs) fit also e = absurd (omega (arith, ap length e, length-append (word_bytes v) (row_bytes vs), some_byte v))
row_told (w ∷ ws) [] fit also e = absurd (omega (arith, ap length e, length-append (word_bytes w) (row_bytes ws), some_byte w))
row_told (w ∷ ws) (v ∷ vs) fit also e =
    let both = one_word w v (row_bytes ws) (row_bytes vs) (first_fits w ws fit) (first_fits v vs also) e in
    ap (λ k. k ∷ ws) both.word ∙ ap (λ l. v ∷ l) (row_told ws vs (others_fit w ws fit) (others_fit v vs also) both.rest)
