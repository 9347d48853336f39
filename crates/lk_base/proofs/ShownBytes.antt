-- Each byte of a defect's line is one that a terminal shows.
use Rattle.std.proofs.Common.{◌≡◌, ℕ, zero, suc, ◌/◌, ◌%◌, ◌<◌, Bool, true, false, ◌&&◌, if◌then◌else◌, ◌==◌, List, [], ◌∷◌, ◌++◌, All, codes, Fits, w8, get_or, refl, ◌∙◌, arith}
use Rattle.std.specs.Fmt.{decimal, digit_glyph, digits, digits_onto}
use Rattle.std.specs.List.{list_all}
use Rattle.std.proofs.lemmas.List.Elements.{All-from_get_or, All-head, All-tail}
use Rattle.std.proofs.lemmas.List.Folds.{list_all-append}
use Rattle.std.proofs.lemmas.List.Sums.{AllPass-from_list_all}
use Rattle.std.proofs.Math.Nat.{div-lt_iff_lt-mul, mod-lt}
use Rattle.std.proofs.lemmas.Bool.{and_from}
use Rattle.lk_base.specs.Kinds.{names_other_file}
use Rattle.lk_base.specs.Lines.{IsOneLine, defect_line, escaped, escaped_byte, hex_digit, is_plain, is_shown, line_text, shown_file, shown_other, title_of}
use Rattle.lk_base.specs.declared.defects.Defect.{Defect}
use Rattle.lk_base.specs.declared.numbers.TheConstants.{NO_FILE}
use Rattle.lk_base.specs.declared.kinds.DefectKind.{DefectKind}
use Rattle.lk_base.specs.declared.kinds.DefectKind.TheVariants.{F01, F02, F03, F04, F05, F06, F07, F08, F09, F10, F11, F12, F13, F14, F15, F16, F17, F18, F19, F20, F21, F22, F23, F24, F25, F26, F27}

-- each byte is shown
abbrev pub AreShown : List ℕ → Type 0
AreShown xs = list_all is_shown xs ≡ true

pub shown-append : (xs ys : List ℕ) → AreShown xs → AreShown ys → AreShown (xs ++ ys)
shown-append xs ys hx hy = list_all-append is_shown xs ys ∙ and_from (list_all is_shown xs) (list_all is_shown ys) hx hy

shown_plain : (b : ℕ) → is_plain b ≡ true → is_shown b ≡ true
shown_plain b plain = grind arith

shown-hex_digit : (d : ℕ) → d < 16 → is_shown (hex_digit d) ≡ true
shown-hex_digit d small = AllPass-from_list_all is_shown (codes "0123456789ABCDEF") refl d 0 small

shown-escaped_byte : (b : ℕ) → b < 256 → AreShown (escaped_byte b)
shown-escaped_byte b small = by_kind (is_plain b) refl
  where
    by_kind : (t : Bool) → is_plain b ≡ t
        → AreShown (if t then b ∷ [] else codes "%" ++ hex_digit (b / 16) ∷ hex_digit (b % 16) ∷ [])
    by_kind true plain = and_from (is_shown b) true (shown_plain b plain) refl
    by_kind false _ =
        let low : b % 16 < 16 = mod-lt b (omega arith) in
        let high : b / 16 < 16 = (div-lt_iff_lt-mul {k = 16} {x = b} {y = 16} (omega arith)).1 small in
        and_from (is_shown (hex_digit (b / 16))) (is_shown (hex_digit (b % 16)) && true) (shown-hex_digit (b / 16) high)
        (and_from (is_shown (hex_digit (b % 16))) true (shown-hex_digit (b % 16) low) refl)

pub shown-escaped : (name : List ℕ) → All (λ b. b < 256) name → AreShown (escaped name)
shown-escaped [] bytes = refl
shown-escaped (b ∷ bs) bytes =
    shown-append (escaped_byte b) (escaped bs) (shown-escaped_byte b (All-head (λ x. x < 256) b bs bytes)) (shown-escaped bs (All-tail (λ x. x < 256) b bs bytes))

shown-digit_glyph : (d : ℕ) → d < 10 → is_shown (digit_glyph false d) ≡ true
shown-digit_glyph d small = grind arith

shown-digits_onto : (k n : ℕ) (ds : List ℕ) → AreShown ds → AreShown (digits_onto k 10 false n ds)
shown-digits_onto zero n ds shown = shown
shown-digits_onto (suc k) n ds shown =
    let more : AreShown (digit_glyph false (n % 10) ∷ ds) =
    and_from (is_shown (digit_glyph false (n % 10))) (list_all is_shown ds) (shown-digit_glyph (n % 10) (mod-lt n (omega arith))) shown in
    by_rest (n / 10 == 0) more (shown-digits_onto k (n / 10) (digit_glyph false (n % 10) ∷ ds) more)
  where
    by_rest : (t : Bool) → AreShown (digit_glyph false (n % 10) ∷ ds) → AreShown (digits_onto k 10 false (n / 10) (digit_glyph false (n % 10) ∷ ds))
        → AreShown (if t then digit_glyph false (n % 10) ∷ ds else digits_onto k 10 false (n / 10) (digit_glyph false (n % 10) ∷ ds))
    by_rest true last rest = last
    by_rest false last rest = rest

shown-decimal : (n : ℕ) → AreShown (decimal n)
unfolding digits
shown-decimal n = shown-digits_onto 64 n [] refl

shown-title_of : (kind : DefectKind) → AreShown (title_of kind)
shown-title_of F01 = refl
shown-title_of F02 = refl
shown-title_of F03 = refl
shown-title_of F04 = refl
shown-title_of F05 = refl
shown-title_of F06 = refl
shown-title_of F07 = refl
shown-title_of F08 = refl
shown-title_of F09 = refl
shown-title_of F10 = refl
shown-title_of F11 = refl
shown-title_of F12 = refl
shown-title_of F13 = refl
shown-title_of F14 = refl
shown-title_of F15 = refl
shown-title_of F16 = refl
shown-title_of F17 = refl
shown-title_of F18 = refl
shown-title_of F19 = refl
shown-title_of F20 = refl
shown-title_of F21 = refl
shown-title_of F22 = refl
shown-title_of F23 = refl
shown-title_of F24 = refl
shown-title_of F25 = refl
shown-title_of F26 = refl
shown-title_of F27 = refl

shown-shown_file : (number : ℕ) (file : List ℕ) → All (λ b. b < 256) file → AreShown (shown_file number file)
shown-shown_file number file bytes = by_number (number == NO_FILE)
  where
    by_number : (t : Bool) → AreShown (if t then codes "-" else escaped file)
    by_number true = refl
    by_number false = shown-escaped file bytes

shown-shown_other : (d : Defect) (other : List ℕ) → All (λ b. b < 256) other → AreShown (shown_other d other)
shown-shown_other d other bytes = by_name (names_other_file d.kind)
  where
    by_name : (t : Bool) → AreShown (if t then escaped other else decimal d.other)
    by_name true = shown-escaped other bytes
    by_name false = shown-decimal d.other

-- one more field at a line's end, after its label
shown_more : (line label field : List ℕ) → AreShown line → AreShown label → AreShown field → AreShown (line ++ label ++ field)
shown_more line label field shown label_shown field_shown =
    shown-append (line ++ label) field (shown-append line label shown label_shown) field_shown

shown-line_text : (d : Defect) (file name other : List ℕ) → All (λ b. b < 256) file → All (λ b. b < 256) name → All (λ b. b < 256) other
    → AreShown (line_text d file name other)
shown-line_text d file name other file_bytes name_bytes other_bytes =
    let title : List ℕ = title_of d.kind in
    let to_file : List ℕ = title ++ codes " file=" ++ shown_file d.file file in
    let to_section : List ℕ = to_file ++ codes " section=" ++ decimal d.section in
    let to_place : List ℕ = to_section ++ codes " place=" ++ decimal d.place in
    let to_name : List ℕ = to_place ++ codes " name=" ++ escaped name in
    shown_more to_name (codes " other=") (shown_other d other)
    (shown_more to_place (codes " name=") (escaped name)
    (shown_more to_section (codes " place=") (decimal d.place)
    (shown_more to_file (codes " section=") (decimal d.section)
    (shown_more title (codes " file=") (shown_file d.file file) (shown-title_of d.kind) refl (shown-shown_file d.file file file_bytes))
    refl (shown-decimal d.section))
    refl (shown-decimal d.place))
    refl (shown-escaped name name_bytes))
    refl (shown-shown_other d other other_bytes)

pub defect_line-IsOneLine : (d : Defect) (file name other : List ℕ) → All (λ b. b < 256) file → All (λ b. b < 256) name → All (λ b. b < 256) other
    → IsOneLine (defect_line d file name other)
defect_line-IsOneLine d file name other file_bytes name_bytes other_bytes = record {
  text = line_text d file name other;
  ends = refl;
  shown = AllPass-from_list_all is_shown (line_text d file name other) (shown-line_text d file name other file_bytes name_bytes other_bytes);
}

-- the elements of a slice of bytes are bytes
pub bytes_from : (xs : List ℕ) → ((i : ℕ) → Fits w8 (get_or xs i 0)) → All (λ b. b < 256) xs
bytes_from xs fit = All-from_get_or (λ b. b < 256) xs 0 (λ i _. (fit i).fits)
