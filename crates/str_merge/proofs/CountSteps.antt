-- How many pieces sections have.
use Rattle.std.proofs.Common.{◌≡◌, ℕ, ◌+◌, ◌-◌, ◌/◌, ◌<◌, ◌≤◌, ◌^◌, ◌&&◌, min, Bool, true, false, cond, List, [], ◌∷◌, ◌++◌, length, map, sum, get_or, take, refl, sym, ap, ◌∙◌, arith}
use Rattle.std.specs.Prelude.{count_by, if◌then◌else◌}
use Rattle.std.specs.List.{range_with_len}
use Rattle.std.proofs.Math.Nat.{div-zero}
use Rattle.std.proofs.lemmas.List.{map-append, take_all, take_more}
use Rattle.std.proofs.lemmas.List.FromFn.{get_or-map-range_with_len, length-map-range_with_len}
use Rattle.std.proofs.lemmas.List.Sums.{sum_by-append, sum_by-cons, sum_by_push}
use Rattle.lk_base.proofs.Loops.{range_more}
use Rattle.lk_tables.specs.Files.{File, file_at, section_count, writes}
use Rattle.lk_tables.proofs.ByNumber.{section_row, section_rows, section_rows_step}
use Rattle.link_sections.specs.MergeSections.{elements, is_mergeable, is_zero_char, pieces_in, strings_from}
use Rattle.link_sections.specs.Merging.{pieces_at}
use Rattle.str_merge.specs.Counting.{added}
use Rattle.str_merge.proofs.CutTexts.{element_of}

pub count_elements : (size : ℕ) (bytes : List ℕ) → length (elements size bytes) ≡ length bytes / size
unfolding elements
count_elements size bytes = length-map-range_with_len (element_of size bytes) 0 (length bytes / size)

-- each character that is zero ends a string
count_strings_from : (begun : List ℕ) (chars : List (List ℕ)) → length (strings_from begun chars) ≡ count_by is_zero_char chars
count_strings_from begun [] = refl
count_strings_from begun (char ∷ chars) =
    both_counts (is_zero_char char) (begun ++ char) chars (count_strings_from [] chars) (count_strings_from (begun ++ char) chars)
    ∙ sym (sum_by-cons (λ x. cond (is_zero_char x) 1 0) char chars)
  where
    both_counts : (b : Bool) (text : List ℕ) (chars : List (List ℕ)) → length (strings_from [] chars) ≡ count_by is_zero_char chars → length (strings_from text chars) ≡ count_by is_zero_char chars →
        length (if b then text ∷ strings_from [] chars else strings_from text chars) ≡ (if b then 1 else 0) + count_by is_zero_char chars
    both_counts true text chars fresh going = omega (arith, fresh)
    both_counts false text chars fresh going = omega (arith, going)

pub count_strings : (size : ℕ) (bytes : List ℕ) → length (strings_from [] (elements size bytes)) ≡ count_by is_zero_char (elements size bytes)
count_strings size bytes = count_strings_from [] (elements size bytes)

pub strings_next : (size i : ℕ) (bytes : List ℕ) → i < length bytes / size →
    count_by is_zero_char (take (i + 1) (elements size bytes)) ≡ count_by is_zero_char (take i (elements size bytes)) + (if is_zero_char (element_of size bytes i) then 1 else 0)
unfolding elements
strings_next size i bytes lt =
    let list = map (element_of size bytes) (range_with_len 0 (length bytes / size)) in
    let count = length-map-range_with_len (element_of size bytes) 0 (length bytes / size) in
    ap (count_by is_zero_char) (take_more list i [] (omega (arith, count)))
    ∙ sum_by_push (λ x. cond (is_zero_char x) 1 0) (take i list) (get_or list i [])
    ∙ ap (λ x. count_by is_zero_char (take i list) + (if is_zero_char x then 1 else 0)) (get_or-map-range_with_len (element_of size bytes) 0 (length bytes / size) i i [] lt (omega arith))

pub strings_done : (size i : ℕ) (bytes : List ℕ) → length bytes / size ≤ i → count_by is_zero_char (take i (elements size bytes)) ≡ length (strings_from [] (elements size bytes))
strings_done size i bytes le =
    let count = count_elements size bytes in
    ap (count_by is_zero_char) (take_all i (elements size bytes) (omega (arith, count))) ∙ sym (count_strings size bytes)

pub no_size : (bytes : List ℕ) (size : ℕ) → size ≡ 0 → length (elements size bytes) ≡ 0
no_size bytes size none = count_elements size bytes ∙ ap (λ n. length bytes / n) none ∙ div-zero (length bytes)

-- a sum that stops at the last number
pub added_next : (give : ℕ → ℕ) (before i old new more : ℕ) → old ≡ added before (sum (map give (range_with_len 0 i))) → new ≡ min (old + more) (2 ^ 64 - 1) → more ≡ give i →
    new ≡ added before (sum (map give (range_with_len 0 (i + 1))))
added_next give before i old new more held is own =
    let one : sum (map give (range_with_len 0 (i + 1))) ≡ sum (map give (range_with_len 0 i)) + give i =
    ap (λ l. sum (map give l)) (range_more i) ∙ ap sum (map-append give (range_with_len 0 i) (i ∷ [])) ∙ sum_by_push (λ (n : ℕ). n) (map give (range_with_len 0 i)) (give i) in
    omega (arith, held, is, own, one)

pub added_rows : (files : List File) (give : ℕ → ℕ → ℕ) (f old new : ℕ) → old ≡ added 0 (sum (section_rows files give f)) →
    new ≡ added old (sum (map (give f) (range_with_len 0 (section_count (file_at files f))))) → new ≡ added 0 (sum (section_rows files give (f + 1)))
added_rows files give f old new held is =
    let one : sum (section_rows files give (f + 1)) ≡ sum (section_rows files give f) + sum (section_row files give f) =
    sym (ap sum (section_rows_step files give f (section_rows files give f) (section_rows files give f ++ section_row files give f) refl refl))
    ∙ sum_by-append (λ (n : ℕ). n) (section_rows files give f) (section_row files give f) in
    omega (arith, held, is, one)

-- what is counted of a section
pub section_pieces_at : (files : List File) (f k count : ℕ) (file : File) → file ≡ file_at files f →
    count ≡ (if writes file k && is_mergeable file k then length (pieces_in file k) else 0) → count ≡ pieces_at files f k
unfolding pieces_at
section_pieces_at files f k count file same is = is ∙ ap (λ (x : File). if writes x k && is_mergeable x k then length (pieces_in x k) else 0) same
