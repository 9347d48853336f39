-- The numbers of files' first symbols and first sections: sums over the files before them.
use Rattle.std.proofs.Common.{◌≡◌, ℕ, ◌+◌, ◌<◌, ◌≤◌, List, [], ◌∷◌, ◌++◌, length, map, take, sum, refl, sym, ap, ◌∙◌, arith, get_or}
use Rattle.std.specs.List.{range_with_len, sum_by}
use Rattle.std.proofs.lemmas.List.{get_or-map, take_all, take-take}
use Rattle.std.proofs.lemmas.List.FromFn.{length-map-range_with_len, get_or-map-range_with_len, map-range_with_len_more}
use Rattle.std.proofs.lemmas.List.Sums.{sum-map, sum_by_more, sum_by-take-le}
use Rattle.lk_tables.specs.declared.files.File.{File as LentFile}
use Rattle.lk_tables.specs.Files.{File, file_at, no_file, first_section, first_symbol, section_count, section_total, symbol_total}
use Rattle.lk_tables.specs.FileView.{file_view}

-- a file that was read is the one of its number
pub file_read : (files : List LentFile) (f : ℕ) (x : LentFile) → f < length files → x ≡ get_or files f x → file_view x ≡ file_at (map file_view files) f
file_read files f x lt is = ap file_view is ∙ sym (get_or-map file_view files f x no_file lt)

-- a running sum over the files
pub sum_more : (g : File → ℕ) (files : List File) (f : ℕ) → f < length files → sum (map g (take (f + 1) files)) ≡ sum (map g (take f files)) + g (file_at files f)
sum_more g files f lt =
    sum-map g (take (f + 1) files) ∙ sum_by_more g files f no_file lt ∙ ap (λ k. k + g (file_at files f)) (sym (sum-map g (take f files)))

pub sum_upto : (g : File → ℕ) (files : List File) (f h : ℕ) → f ≤ h → sum (map g (take f files)) ≤ sum (map g (take h files))
sum_upto g files f h le =
    omega (arith, sum-map g (take f files), sum-map g (take h files), sum_by-take-le g (take h files) f, ap (sum_by g) (take-take f h files le))

pub sum_all : (g : File → ℕ) (files : List File) (n : ℕ) → n ≡ length files → sum (map g (take n files)) ≡ sum (map g files)
sum_all g files n e = ap (λ (l : List File). sum (map g l)) (take_all n files (omega arith))

-- the first numbers of all files, and after these how many there are
pub length_firsts : (starts : ℕ → ℕ) (firsts : List ℕ) (n : ℕ) → firsts ≡ map starts (range_with_len 0 (n + 1)) → length firsts ≡ n + 1
length_firsts starts firsts n is = ap length is ∙ length-map-range_with_len starts 0 (n + 1)

pub first_at : (starts : ℕ → ℕ) (firsts : List ℕ) (n f : ℕ) → firsts ≡ map starts (range_with_len 0 (n + 1)) → f ≤ n → get_or firsts f 0 ≡ starts f
first_at starts firsts n f is le = ap (λ l. get_or l f 0) is ∙ get_or-map-range_with_len starts 0 (n + 1) f f 0 (omega arith) (omega arith)

pub first_read : (starts : ℕ → ℕ) (firsts : List ℕ) (n f x : ℕ) → firsts ≡ map starts (range_with_len 0 (n + 1)) → f ≤ n → x ≡ get_or firsts f x → x ≡ starts f
first_read starts firsts n f x is le read =
    read ∙ ap (λ l. get_or l f x) is ∙ get_or-map-range_with_len starts 0 (n + 1) f f x (omega arith) (omega arith)

-- what is the first number of each file, file by file
pub next_start : (starts : ℕ → ℕ) (old new : List ℕ) (f start : ℕ) → old ≡ map starts (range_with_len 0 f) → new ≡ old ++ start ∷ [] → start ≡ starts f → new ≡ map starts (range_with_len 0 (f + 1))
next_start starts old new f start before push is =
    push ∙ ap (λ xs. xs ++ start ∷ []) before ∙ ap (λ k. map starts (range_with_len 0 f) ++ k ∷ []) is ∙ sym (map-range_with_len_more starts 0 f f (omega arith))

-- symbols
abbrev symbols_in : File → ℕ
symbols_in file = length file.head.symbols

pub first_more : (files : List File) (f : ℕ) → f < length files → first_symbol files (f + 1) ≡ first_symbol files f + length (file_at files f).head.symbols
first_more files f lt = sum_more symbols_in files f lt

pub first_upto : (files : List File) (f g : ℕ) → f ≤ g → first_symbol files f ≤ first_symbol files g
first_upto files f g le = sum_upto symbols_in files f g le

pub first_all : (files : List File) (n : ℕ) → n ≡ length files → first_symbol files n ≡ symbol_total files
first_all files n e = sum_all symbols_in files n e

pub first_within : (files : List File) (f : ℕ) → f < length files → first_symbol files f + length (file_at files f).head.symbols ≤ symbol_total files
first_within files f lt =
    omega (arith, first_more files f lt, first_upto files (f + 1) (length files) (omega arith), first_all files (length files) refl)

pub first_most : (files : List File) (f : ℕ) → f ≤ length files → first_symbol files f ≤ symbol_total files
first_most files f le = omega (arith, first_upto files f (length files) le, first_all files (length files) refl)

-- sections
pub section_more : (files : List File) (f : ℕ) → f < length files → first_section files (f + 1) ≡ first_section files f + section_count (file_at files f)
section_more files f lt = sum_more section_count files f lt

pub section_upto : (files : List File) (f g : ℕ) → f ≤ g → first_section files f ≤ first_section files g
section_upto files f g le = sum_upto section_count files f g le

pub section_within : (files : List File) (f : ℕ) → f < length files → first_section files f + section_count (file_at files f) ≤ section_total files
section_within files f lt = omega (arith, section_more files f lt, section_upto files (f + 1) (length files) (omega arith))

pub section_most : (files : List File) (f : ℕ) → f ≤ length files → first_section files f ≤ section_total files
section_most files f le = section_upto files f (length files) le
