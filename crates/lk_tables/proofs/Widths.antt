-- The place of a relocation of a kind that is linked, and how much of it gets a value.
use Rattle.std.proofs.Common.{◌≡◌, ℕ, ◌+◌, ◌≤◌, Bool, true, false, not, ◌||◌, ◌==◌, if◌then◌else◌, cond, Option, Some, None, refl, List, [], ◌∷◌, length, take, drop, ap, sym, ◌∙◌, arith}
use Rattle.std.specs.Prelude.{is_some, option_map, unwrap_or, unsigned_abs, IsTrue}
use Rattle.std.specs.List.{list_all, position}
use Rattle.std.proofs.lemmas.Bool.{and_parts, cond-false, cond-true, eqb-true}
use Rattle.std.proofs.lemmas.List.{length-drop, length-take}
use Rattle.std.proofs.lemmas.List.Quantifiers.{position-Some}
use Rattle.std.proofs.lemmas.Bool.Decides.{nat_tests}
use Rattle.lk_base.proofs.TableLines.{each_kind, width_few}
use Rattle.lk_base.specs.RelocKinds.{Line, is_among, is_uleb, kind_in, kind_of, is_linked, lines, moves_bytes}
use Rattle.lk_base.specs.declared.abi.TheConstants.{PLACE_MAX, R_RISCV_ALIGN, R_RISCV_CALL, R_RISCV_CALL_PLT}
use Rattle.lk_tables.specs.declared.objects.Reloc.{Reloc}
use Rattle.lk_tables.specs.Relocations.{end_of, is_alignment, is_padding, linked_width, place_width, value_len, width_of}
use Rattle.lk_tables.specs.UlebLengths.{is_last, uleb_len}

some_if : (b : Bool) (n : ℕ) → is_some (cond b (Some n) None) ≡ true → b ≡ true
some_if true n e = refl
some_if false n e = cc

plain_width : (contents : List ℕ) (r : Reloc) → is_uleb r.kind ≡ false → width_of contents r ≡ linked_width r
unfolding width_of
plain_width contents r plain = cond-false (is_uleb r.kind) (uleb_len contents r.offset) (linked_width r) plain

uleb_width : (contents : List ℕ) (r : Reloc) → is_uleb r.kind ≡ true → width_of contents r ≡ uleb_len contents r.offset
unfolding width_of
uleb_width contents r uleb = cond-true (is_uleb r.kind) (uleb_len contents r.offset) (linked_width r) uleb

linked_if : (r : Reloc) → is_some (linked_width r) ≡ true → is_linked r.kind ≡ true
unfolding linked_width
linked_if r e = some_if (is_linked r.kind) (place_width r) e

linked_is : (r : Reloc) → is_linked r.kind ≡ true → linked_width r ≡ Some (place_width r)
unfolding linked_width
linked_is r e = cond-true (is_linked r.kind) (Some (place_width r)) None e

-- it is that of the place, if that is no ULEB128 number
pub width_is : (contents : List ℕ) (r : Reloc) → is_uleb r.kind ≡ false → is_some (width_of contents r) ≡ true → unwrap_or (width_of contents r) 0 ≡ place_width r
width_is contents r plain e =
    let same = plain_width contents r plain in
    ap (λ o. unwrap_or o 0) (same ∙ linked_is r (linked_if r (sym (ap is_some same) ∙ e)))

-- none of some numbers is of a ULEB128 number
pub no_uleb : (n : ℕ) (ns : List ℕ) → list_all (λ m. not (is_uleb m)) ns ≡ true → is_among ns n ≡ true → is_uleb n ≡ false
no_uleb n [] all is = let no : ⊥ = cc in absurd no
no_uleb n (m ∷ ms) all is =
    let both = and_parts (not (is_uleb m)) (list_all (λ k. not (is_uleb k)) ms) all in
    by (m == n) refl is (no_uleb n ms both.1)
  where
    none : (b : Bool) → not b ≡ true → b ≡ false
    none true e = cc
    none false e = refl

    by : (b : Bool) → (m == n) ≡ b → (b || is_among ms n) ≡ true → (is_among ms n ≡ true → is_uleb n ≡ false) → is_uleb n ≡ false
    by true same is rest =
        ap is_uleb (sym (eqb-true m n same)) ∙ none (is_uleb m) (and_parts (not (is_uleb m)) (list_all (λ k. not (is_uleb k)) ms) all).0
    by false same is rest = rest is

-- where bytes may move there is no ULEB128 number
pub moves_plain : (n : ℕ) → moves_bytes n ≡ true → is_uleb n ≡ false
unfolding moves_bytes is_uleb
moves_plain n is = no_uleb n (R_RISCV_CALL ∷ R_RISCV_CALL_PLT ∷ R_RISCV_ALIGN ∷ []) refl is

-- a ULEB128 number has one byte at least and ten at most, which lie in the contents
len_of : (o : Option ℕ) → is_some (option_map (λ last. last + 1) o) ≡ true → 1 ≤ unwrap_or (option_map (λ last. last + 1) o) 0
len_of None e = let no : ⊥ = cc in absurd no
len_of (Some last) e = omega arith

uleb_some : (contents : List ℕ) (offset : ℕ) → is_some (uleb_len contents offset) ≡ true → 1 ≤ unwrap_or (uleb_len contents offset) 0
unfolding uleb_len
uleb_some contents offset e = len_of (position is_last (take PLACE_MAX (drop offset contents))) e

len_within : (xs : List ℕ) (o : Option ℕ) → o ≡ position is_last xs → unwrap_or (option_map (λ last. last + 1) o) 0 ≤ length xs
len_within xs None is = omega arith
len_within xs (Some last) is =
    let low = (position-Some is_last xs last 0 (sym is)).0 in omega (arith, low)

uleb_within : (contents : List ℕ) (offset : ℕ) → unwrap_or (uleb_len contents offset) 0 ≤ length (take PLACE_MAX (drop offset contents))
unfolding uleb_len
uleb_within contents offset = len_within (take PLACE_MAX (drop offset contents)) (position is_last (take PLACE_MAX (drop offset contents))) refl

pub uleb_few : (contents : List ℕ) (offset : ℕ) → unwrap_or (uleb_len contents offset) 0 ≤ 10
uleb_few contents offset = omega (arith, uleb_within contents offset, length-take PLACE_MAX (drop offset contents))

uleb_inside : (contents : List ℕ) (offset size : ℕ) → length contents ≤ size → offset ≤ size → offset + unwrap_or (uleb_len contents offset) 0 ≤ size
uleb_inside contents offset size short low =
    omega (arith, short, low, uleb_within contents offset, length-take PLACE_MAX (drop offset contents), length-drop offset contents)

none_if : (b : Bool) (w a : ℕ) → IsTrue (not b || w == 0) → w ≤ (if b then a else w)
none_if true w a h = grind (arith, nat_tests)
none_if false w a h = omega arith

-- no kind puts more than the place has, and an alignment's puts nothing
place_least : (r : Reloc) → (kind_of r.kind).width ≤ place_width r
unfolding place_width is_alignment
place_least r =
    none_if (is_padding (kind_of r.kind).calculation) (kind_of r.kind).width (unsigned_abs r.addend)
    (each_kind (λ k. not (is_padding k.calculation) || k.width == 0) r.kind refl refl)

-- a value is put into no more than its place
pub value_least : (contents : List ℕ) (r : Reloc) → is_some (width_of contents r) ≡ true → value_len contents r ≤ unwrap_or (width_of contents r) 0
unfolding value_len
value_least contents r e = by (is_uleb r.kind) refl
  where
    by : (b : Bool) → is_uleb r.kind ≡ b → (if b then unwrap_or (uleb_len contents r.offset) 0 else (kind_of r.kind).width) ≤ unwrap_or (width_of contents r) 0
    by true uleb = omega (arith, ap (λ o. unwrap_or o 0) (uleb_width contents r uleb))
    by false plain = omega (arith, place_least r, width_is contents r plain e)

-- of other kinds into as many bytes as the kind says
pub value_plain : (contents : List ℕ) (r : Reloc) → is_uleb r.kind ≡ false → value_len contents r ≡ (kind_of r.kind).width
unfolding value_len
value_plain contents r plain = cond-false (is_uleb r.kind) (unwrap_or (uleb_len contents r.offset) 0) (kind_of r.kind).width plain

pub value_uleb : (contents : List ℕ) (r : Reloc) → is_uleb r.kind ≡ true → value_len contents r ≡ unwrap_or (uleb_len contents r.offset) 0
unfolding value_len
value_uleb contents r uleb = cond-true (is_uleb r.kind) (unwrap_or (uleb_len contents r.offset) 0) (kind_of r.kind).width uleb

pub value_few : (contents : List ℕ) (r : Reloc) → value_len contents r ≤ 10
unfolding value_len
value_few contents r = by (is_uleb r.kind)
  where
    by : (b : Bool) → (if b then unwrap_or (uleb_len contents r.offset) 0 else (kind_of r.kind).width) ≤ 10
    by true = uleb_few contents r.offset
    by false = omega (arith, width_few r.kind)

-- what has a value has one byte at least
pub value_some : (contents : List ℕ) (r : Reloc) → is_some (width_of contents r) ≡ true → 1 ≤ (kind_of r.kind).width → 1 ≤ value_len contents r
unfolding value_len
value_some contents r e some = by (is_uleb r.kind) refl
  where
    by : (b : Bool) → is_uleb r.kind ≡ b → 1 ≤ (if b then unwrap_or (uleb_len contents r.offset) 0 else (kind_of r.kind).width)
    by true uleb = uleb_some contents r.offset (sym (ap is_some (uleb_width contents r uleb)) ∙ e)
    by false plain = some

-- the end of a place in a section whose contents are no longer than its size
pub end_inside : (contents : List ℕ) (r : Reloc) (size : ℕ) → length contents ≤ size → is_some (width_of contents r) ≡ true →
    r.offset + place_width r ≤ size → end_of contents r ≤ size
end_inside contents r size short e fits = by (is_uleb r.kind) refl
  where
    by : (b : Bool) → is_uleb r.kind ≡ b → end_of contents r ≤ size
    by true uleb =
        let len = ap (λ o. unwrap_or o 0) (uleb_width contents r uleb) in
        omega (arith, len, uleb_inside contents r.offset size short (omega (arith, fits)))
    by false plain = omega (arith, width_is contents r plain e, fits)

-- an alignment puts nothing, and what stands after it may move
pub alignment_width : (r : Reloc) → is_alignment r ≡ true → (kind_of r.kind).width ≡ 0
unfolding is_alignment
alignment_width r align =
    nothing (is_padding (kind_of r.kind).calculation) (kind_of r.kind).width align
    (each_kind (λ k. not (is_padding k.calculation) || k.width == 0) r.kind refl refl)
  where
    nothing : (b : Bool) (w : ℕ) → b ≡ true → IsTrue (not b || w == 0) → w ≡ 0
    nothing true w e h = grind (arith, nat_tests)
    nothing false w e h = cc

abbrev line_moves : Line → Bool
line_moves l = not (is_padding l.kind.calculation) || moves_bytes l.number

moves_in : (ls : List Line) (n : ℕ) → list_all line_moves ls ≡ true → is_padding (kind_in ls n).calculation ≡ true → moves_bytes n ≡ true
moves_in [] n all pads = let no : ⊥ = cc in absurd no
moves_in (l ∷ ls) n all pads =
    let both = and_parts (line_moves l) (list_all line_moves ls) all in
    one_line (l.number == n) refl pads (λ p. moves_in ls n both.1 p)
  where
    own : (b : Bool) → (not b || moves_bytes l.number) ≡ true → b ≡ true → moves_bytes l.number ≡ true
    own true h e = h
    own false h e = cc

    one_line : (b : Bool) → (l.number == n) ≡ b → is_padding (if b then l.kind else kind_in ls n).calculation ≡ true →
        (is_padding (kind_in ls n).calculation ≡ true → moves_bytes n ≡ true) → moves_bytes n ≡ true
    one_line true e p rest =
        ap moves_bytes (sym (eqb-true l.number n e)) ∙ own (is_padding l.kind.calculation) (and_parts (line_moves l) (list_all line_moves ls) all).0 p
    one_line false e p rest = rest p

pub alignment_moves : (r : Reloc) → is_alignment r ≡ true → moves_bytes r.kind ≡ true
unfolding is_alignment kind_of moves_bytes
alignment_moves r align = moves_in lines r.kind refl align
