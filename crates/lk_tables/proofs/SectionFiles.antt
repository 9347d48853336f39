-- The file of each section number, listed file by file.
use Rattle.std.proofs.Common.{◌≡◌, ℕ, zero, suc, ◌+◌, ◌-◌, ◌<◌, List, ◌∷◌, ◌++◌, length, map, take, replicate, refl, sym, ap, ◌∙◌, subst, arith, get_or}
use Rattle.std.specs.List.{range_with_len}
use Rattle.std.proofs.lemmas.List.{take_all}
use Rattle.lk_tables.specs.Files.{File, by_section, file_at, first_section, section_count, section_no, section_total}
use Rattle.lk_tables.proofs.ByNumber.{length_by_section, length_section_rows, read_by_section, section_rows, section_rows_step}
use Rattle.lk_tables.proofs.FirstNumbers.{section_more}
use Rattle.lk_tables.proofs.Owners.{IsOwner, owner_below}

abbrev pub file_of : (file index : ℕ) → ℕ
file_of file index = file

same_for_all : (x a n : ℕ) → replicate n x ≡ map (file_of x) (range_with_len a n)
same_for_all x a zero = refl
same_for_all x a (suc n) = ap (λ l. x ∷ l) (same_for_all x (a + 1) n)

-- a list of the files of the first numbers, filled up to those of one file more
pub files_step : (files : List File) (f n len : ℕ) (old new : List ℕ) → f < length files → n ≡ first_section files (f + 1) → len ≡ length old →
    old ≡ section_rows files file_of f → new ≡ take n old ++ replicate (n - len) f → new ≡ section_rows files file_of (f + 1)
files_step files f n len old new lt is long held filled =
    let count = section_count (file_at files f) in
    let more = section_more files f lt in
    let begun : length old ≡ first_section files f = ap length held ∙ length_section_rows files file_of f (omega arith) in
    let whole : take n old ≡ old = take_all n old (omega arith) in
    let left : n - len ≡ count = omega arith in
    section_rows_step files file_of f old new held
    (filled ∙ ap (λ l. l ++ replicate (n - len) f) whole ∙ ap (λ k. old ++ replicate k f) left ∙ ap (λ l. old ++ l) (same_for_all f 0 count))

-- each number's file is its owner
pub file_read : (files : List File) (owners : List ℕ) (section x : ℕ) → section < section_total files → owners ≡ by_section files file_of →
    x ≡ get_or owners section x → IsOwner files section x
file_read files owners section x lt is read =
    let owner = owner_below files section (length files) (omega arith) lt in
    let f = owner.0 in
    let file = owner.1.file in
    let from = owner.1.from in
    let below = owner.1.below in
    let more = section_more files f file in
    let k = section - first_section files f in
    let number : section ≡ section_no files f k = omega arith in
    let value : x ≡ f = read ∙ ap (λ l. get_or l section x) is ∙ ap (λ n. get_or (by_section files file_of) n x) number
    ∙ read_by_section files file_of f k x file (omega arith) in
    subst (IsOwner files section) (sym value) owner.1

pub has_file : (files : List File) (owners : List ℕ) (section : ℕ) → section < section_total files → owners ≡ by_section files file_of →
    section < length owners
has_file files owners section lt is = omega (arith, ap length is, length_by_section files file_of)
