-- How many pieces sections have at most.
use Rattle.std.proofs.Common.{◌≡◌, ℕ, ◌+◌, ◌-◌, ◌≤◌, ◌^◌, ◌&&◌, ◌==◌, not, bit_and, min, Bool, true, false, List, [], ◌∷◌, ◌++◌, length, map, sum, drop, refl, sym, ap, ◌∙◌, subst, arith}
use Rattle.std.specs.Prelude.{if◌then◌else◌}
use Rattle.std.specs.List.{range_with_len}
use Rattle.std.proofs.Math.Nat.{div-le_self}
use Rattle.std.proofs.lemmas.List.{length-take, map-append}
use Rattle.std.proofs.lemmas.List.Sums.{count_by-le-length, sum_by-append, sum_by_push}
use Rattle.lk_base.specs.declared.abi.TheConstants.{SHF_STRINGS}
use Rattle.lk_base.proofs.Loops.{range_more}
use Rattle.lk_tables.specs.declared.heads.Section.{Section}
use Rattle.lk_tables.specs.Files.{File, file_at, section_at, section_count, writes}
use Rattle.lk_tables.specs.Sections.{contents_of}
use Rattle.lk_tables.proofs.ByNumber.{section_row, section_rows, section_rows_step}
use Rattle.link_sections.specs.MergeSections.{elements, is_mergeable, is_zero_char, pieces_in, section_pieces, strings_from}
use Rattle.link_sections.specs.Merging.{pieces_at}
use Rattle.str_merge.specs.Counting.{added}
use Rattle.str_merge.proofs.CountSteps.{count_elements, count_strings}

few_if : (b : Bool) (xs ys : List (List ℕ)) (n : ℕ) → length xs ≤ n → length ys ≤ n → length (if b then xs else ys) ≤ n
few_if true xs ys n le less = le
few_if false xs ys n le less = less

few_pieces : (bytes : List ℕ) (s : Section) → length (section_pieces bytes s) ≤ s.size
unfolding section_pieces
few_pieces bytes s =
    let text = contents_of bytes s in
    let short : length text ≤ s.size = omega (arith, length-take s.size (drop s.offset bytes)) in
    let parts = div-le_self (length text) s.entsize in
    let count = count_elements s.entsize text in
    let fewer = count_by-le-length is_zero_char (elements s.entsize text) in
    few_if (not (bit_and s.flags SHF_STRINGS == 0)) (strings_from [] (elements s.entsize text)) (elements s.entsize text) s.size
    (omega (arith, short, parts, count, fewer, count_strings s.entsize text)) (omega (arith, short, parts, count))

le_if : (b : Bool) (n m : ℕ) → n ≤ m → (if b then n else 0) ≤ (if b then m else 0)
le_if true n m le = le
le_if false n m le = omega arith

-- a section has no more pieces than bytes
pub section_bound_at : (files : List File) (f k bound : ℕ) (file : File) → file ≡ file_at files f →
    bound ≡ (if writes file k && is_mergeable file k then (section_at file k).size else 0) → pieces_at files f k ≤ bound
unfolding pieces_at
section_bound_at files f k bound file same is =
    let P : File → Type 0 = λ x. (if writes x k && is_mergeable x k then length (pieces_in x k) else 0) ≤ bound in
    let Q : ℕ → Type 0 = λ n. (if writes file k && is_mergeable file k then length (pieces_in file k) else 0) ≤ n in
    subst P same (subst Q (sym is) (le_if (writes file k && is_mergeable file k) (length (pieces_in file k)) (section_at file k).size (few_pieces file.bytes (section_at file k))))

-- a sum that is at least another, which stops at the last number
pub bounded_next : (give : ℕ → ℕ) (before i old new more : ℕ) → added before (sum (map give (range_with_len 0 i))) ≤ old → new ≡ min (old + more) (2 ^ 64 - 1) → give i ≤ more →
    added before (sum (map give (range_with_len 0 (i + 1)))) ≤ new
bounded_next give before i old new more held is own =
    let one : sum (map give (range_with_len 0 (i + 1))) ≡ sum (map give (range_with_len 0 i)) + give i =
    ap (λ l. sum (map give l)) (range_more i) ∙ ap sum (map-append give (range_with_len 0 i) (i ∷ [])) ∙ sum_by_push (λ (n : ℕ). n) (map give (range_with_len 0 i)) (give i) in
    omega (arith, held, is, own, one)

pub bounded_rows : (files : List File) (give : ℕ → ℕ → ℕ) (f old new : ℕ) → added 0 (sum (section_rows files give f)) ≤ old →
    added old (sum (map (give f) (range_with_len 0 (section_count (file_at files f))))) ≤ new → added 0 (sum (section_rows files give (f + 1))) ≤ new
bounded_rows files give f old new held is =
    let one : sum (section_rows files give (f + 1)) ≡ sum (section_rows files give f) + sum (section_row files give f) =
    sym (ap sum (section_rows_step files give f (section_rows files give f) (section_rows files give f ++ section_row files give f) refl refl))
    ∙ sum_by-append (λ (n : ℕ). n) (section_rows files give f) (section_row files give f) in
    omega (arith, held, is, one)
