-- Lists with one element for each symbol, or for each section, of all files by its number; and the files as their heads alone say them.
use Rattle.std.proofs.Common.{◌≡◌, ℕ, zero, suc, ◌+◌, ◌<◌, ◌≤◌, List, Option, None, if◌then◌else◌, [], ◌∷◌, ◌++◌, length, map, take, sum, refl, sym, ap, ◌∙◌, subst, arith, get_or}
use Rattle.std.specs.Prelude.{flat_map, slice_index_or}
use Rattle.std.specs.List.{range_with_len}
use Rattle.std.proofs.lemmas.List.{length-map, take-map}
use Rattle.std.proofs.lemmas.List.Concat.{get_or-flat_map}
use Rattle.std.proofs.lemmas.List.FromFn.{length-range_with_len, get_or-range_with_len, get_or-map-range_with_len, length-map-range_with_len, fill_by_all}
use Rattle.lk_base.proofs.Loops.{count_step, flat_step}
use Rattle.lk_base.proofs.Ranges.{same_range, take_range}
use Rattle.lk_tables.specs.declared.objects.Object.{Object}
use Rattle.lk_tables.specs.Files.{File, file_at, no_file, symbol_at, symbol_name, first_section, first_symbol, section_count, section_no, section_total, symbol_no, symbol_total, by_section, by_symbol}
use Rattle.lk_tables.specs.Gathering.{with_object, with_objects}
use Rattle.lk_tables.specs.NameNumbers.{headed_file, heads_alone, Named, is_named, name_at, names_in, names, number_of, name_number}
use Rattle.lk_tables.proofs.FirstNumbers.{first_more, first_all, section_more}

-- rows put one after the other: row f begins at `starts f`
rows_upto : {X : Type 0} (row : ℕ → List X) (starts : ℕ → ℕ) (n : ℕ) → starts 0 ≡ 0 → ((f : ℕ) → f < n → starts (f + 1) ≡ starts f + length (row f)) →
    (f : ℕ) → f ≤ n → length (flat_map row (range_with_len 0 f)) ≡ starts f
rows_upto row starts n first more zero le = sym first
rows_upto row starts n first more (suc f) le =
    let P : ℕ → Type 0 = λ k. length (flat_map row (range_with_len 0 k)) ≡ starts k in
    let one : f + 1 ≡ suc f = omega arith in
    subst P one (count_step row f ∙ ap (λ k. k + length (row f)) (rows_upto row starts n first more f (omega arith)) ∙ sym (more f (omega arith)))

read_rows : {X : Type 0} (row : ℕ → List X) (starts : ℕ → ℕ) (n : ℕ) → starts 0 ≡ 0 → ((f : ℕ) → f < n → starts (f + 1) ≡ starts f + length (row f)) →
    (f i : ℕ) (d : X) → f < n → i < length (row f) → get_or (flat_map row (range_with_len 0 n)) (starts f + i) d ≡ get_or (row f) i d
read_rows row starts n first more f i d lt less =
    let range = range_with_len 0 n in
    let own : get_or range f f ≡ f = let at = get_or-range_with_len 0 n f f lt in omega arith in
    let start : length (flat_map row (take f range)) ≡ starts f =
    ap (λ l. length (flat_map row l)) (take_range n f (omega arith)) ∙ rows_upto row starts n first more f (omega arith) in
    ap (λ k. get_or (flat_map row range) (k + i) d) (sym start)
    ∙ get_or-flat_map row range f i f d (omega (arith, length-range_with_len 0 n)) (omega (arith, ap (λ k. length (row k)) own))
    ∙ ap (λ k. get_or (row k) i d) own

-- the row of a file: an element for each of its symbols, or of its sections
abbrev pub symbol_row : {X : Type 0} → List File → (ℕ → ℕ → X) → ℕ → List X
symbol_row files give f = map (give f) (range_with_len 0 (length (file_at files f).head.symbols))

abbrev pub section_row : {X : Type 0} → List File → (ℕ → ℕ → X) → ℕ → List X
section_row files give f = map (give f) (range_with_len 0 (section_count (file_at files f)))

-- the rows of the first n files
abbrev pub symbol_rows : {X : Type 0} → List File → (ℕ → ℕ → X) → ℕ → List X
symbol_rows files give n = flat_map (symbol_row files give) (range_with_len 0 n)

abbrev pub section_rows : {X : Type 0} → List File → (ℕ → ℕ → X) → ℕ → List X
section_rows files give n = flat_map (section_row files give) (range_with_len 0 n)

symbol_steps : {X : Type 0} (files : List File) (give : ℕ → ℕ → X) (f : ℕ) → f < length files → first_symbol files (f + 1) ≡ first_symbol files f + length (symbol_row files give f)
symbol_steps files give f lt =
    first_more files f lt ∙ ap (λ k. first_symbol files f + k) (sym (length-map-range_with_len (give f) 0 (length (file_at files f).head.symbols)))

section_steps : {X : Type 0} (files : List File) (give : ℕ → ℕ → X) (f : ℕ) → f < length files → first_section files (f + 1) ≡ first_section files f + length (section_row files give f)
section_steps files give f lt =
    section_more files f lt ∙ ap (λ k. first_section files f + k) (sym (length-map-range_with_len (give f) 0 (section_count (file_at files f))))

-- a loop that pushes file by file: one file more, and all
pub section_rows_step : {X : Type 0} (files : List File) (give : ℕ → ℕ → X) (f : ℕ) (old new : List X) →
    old ≡ section_rows files give f → new ≡ old ++ section_row files give f → new ≡ section_rows files give (f + 1)
section_rows_step files give f old new held is = flat_step (section_row files give) f old new held is

pub symbol_rows_all : {X : Type 0} (files : List File) (give : ℕ → ℕ → X) (n : ℕ) → n ≡ length files → symbol_rows files give n ≡ by_symbol files give
unfolding by_symbol
symbol_rows_all files give n e = ap (symbol_rows files give) e

pub section_rows_all : {X : Type 0} (files : List File) (give : ℕ → ℕ → X) (n : ℕ) → n ≡ length files → section_rows files give n ≡ by_section files give
unfolding by_section
section_rows_all files give n e = ap (section_rows files give) e

pub length_symbol_rows : {X : Type 0} (files : List File) (give : ℕ → ℕ → X) (f : ℕ) → f ≤ length files → length (symbol_rows files give f) ≡ first_symbol files f
length_symbol_rows files give f le = rows_upto (symbol_row files give) (first_symbol files) (length files) refl (symbol_steps files give) f le

pub length_section_rows : {X : Type 0} (files : List File) (give : ℕ → ℕ → X) (f : ℕ) → f ≤ length files → length (section_rows files give f) ≡ first_section files f
length_section_rows files give f le = rows_upto (section_row files give) (first_section files) (length files) refl (section_steps files give) f le

-- how many elements there are
pub length_by_symbol : {X : Type 0} (files : List File) (give : ℕ → ℕ → X) → length (by_symbol files give) ≡ symbol_total files
length_by_symbol files give =
    ap length (sym (symbol_rows_all files give (length files) refl))
    ∙ length_symbol_rows files give (length files) (omega arith) ∙ first_all files (length files) refl

pub length_by_section : {X : Type 0} (files : List File) (give : ℕ → ℕ → X) → length (by_section files give) ≡ section_total files
length_by_section files give =
    ap length (sym (section_rows_all files give (length files) refl)) ∙ length_section_rows files give (length files) (omega arith)

-- the element of a symbol, and of a section
pub read_by_symbol : {X : Type 0} (files : List File) (give : ℕ → ℕ → X) (f i : ℕ) (d : X) → f < length files → i < length (file_at files f).head.symbols →
    slice_index_or (by_symbol files give) (symbol_no files f i) d ≡ give f i
read_by_symbol files give f i d lt less =
    let count = length (file_at files f).head.symbols in
    ap (λ l. get_or l (symbol_no files f i) d) (sym (symbol_rows_all files give (length files) refl))
    ∙ read_rows (symbol_row files give) (first_symbol files) (length files) refl (symbol_steps files give) f i d lt (omega (arith, length-map-range_with_len (give f) 0 count))
    ∙ get_or-map-range_with_len (give f) 0 count i i d less (omega arith)

pub read_by_section : {X : Type 0} (files : List File) (give : ℕ → ℕ → X) (f k : ℕ) (d : X) → f < length files → k < section_count (file_at files f) →
    slice_index_or (by_section files give) (section_no files f k) d ≡ give f k
read_by_section files give f k d lt less =
    let count = section_count (file_at files f) in
    ap (λ l. get_or l (section_no files f k) d) (sym (section_rows_all files give (length files) refl))
    ∙ read_rows (section_row files give) (first_section files) (length files) refl (section_steps files give) f k d lt (omega (arith, length-map-range_with_len (give f) 0 count))
    ∙ get_or-map-range_with_len (give f) 0 count k k d less (omega arith)

-- the files as their heads alone say them
pub file_at_heads : (files : List File) (f : ℕ) → file_at (heads_alone files) f ≡ headed_file (file_at files f)
file_at_heads [] f = refl
file_at_heads (x ∷ xs) zero = refl
file_at_heads (x ∷ xs) (suc f) = file_at_heads xs f

pub head_alone : (files : List File) (f : ℕ) → (file_at (heads_alone files) f).head ≡ (file_at files f).head
head_alone files f = ap (λ (x : File). x.head) (file_at_heads files f)

pub length_heads : (files : List File) → length (heads_alone files) ≡ length files
length_heads files = length-map files headed_file

counts_alone : (files : List File) → map (λ (file : File). length file.head.symbols) (map headed_file files) ≡ map (λ (file : File). length file.head.symbols) files
counts_alone [] = refl
counts_alone (x ∷ xs) = ap (λ l. length x.head.symbols ∷ l) (counts_alone xs)

pub first_symbol_alone : (files : List File) (f : ℕ) → first_symbol (heads_alone files) f ≡ first_symbol files f
first_symbol_alone files f =
    ap (λ (l : List File). sum (map (λ (file : File). length file.head.symbols) l)) (take-map headed_file f files) ∙ ap sum (counts_alone (take f files))

pub symbol_no_alone : (files : List File) (f i : ℕ) → symbol_no (heads_alone files) f i ≡ symbol_no files f i
symbol_no_alone files f i = ap (λ k. k + i) (first_symbol_alone files f)

pub symbol_total_alone : (files : List File) → symbol_total (heads_alone files) ≡ symbol_total files
symbol_total_alone files = ap sum (counts_alone files)

-- the bodies change nothing of the heads
headed_list : (files : List File) → heads_alone files ≡ map (λ f. headed_file (file_at files f)) (range_with_len 0 (length files))
headed_list files = fill_by_all (λ f. headed_file (file_at files f)) (heads_alone files) (length files) no_file (length_heads files) (λ f lt. file_at_heads files f)

pub length_with_objects : (files : List File) (objects : List (Option Object)) → length (with_objects files objects) ≡ length files
length_with_objects files objects =
    length-map-range_with_len (λ f. with_object (file_at files f) (slice_index_or objects f None)) 0 (length files)

pub file_at_with_objects : (files : List File) (objects : List (Option Object)) (f : ℕ) → f < length files →
    file_at (with_objects files objects) f ≡ with_object (file_at files f) (slice_index_or objects f None)
file_at_with_objects files objects f lt =
    get_or-map-range_with_len (λ f. with_object (file_at files f) (slice_index_or objects f None)) 0 (length files) f f no_file lt (omega arith)

pub heads_with_objects : (files : List File) (objects : List (Option Object)) → heads_alone (with_objects files objects) ≡ heads_alone files
heads_with_objects files objects =
    fill_by_all (λ f. headed_file (file_at files f)) (heads_alone (with_objects files objects)) (length files) no_file
    (length_heads (with_objects files objects) ∙ length_with_objects files objects)
    (λ f lt. file_at_heads (with_objects files objects) f ∙ ap headed_file (file_at_with_objects files objects f lt))
    ∙ sym (headed_list files)

pub symbol_total_with_objects : (files : List File) (objects : List (Option Object)) → symbol_total (with_objects files objects) ≡ symbol_total files
symbol_total_with_objects files objects =
    sym (symbol_total_alone (with_objects files objects)) ∙ ap symbol_total (heads_with_objects files objects) ∙ symbol_total_alone files

-- lists of which the elements are the same, one by one
map_same : {X : Type 0} (g h : ℕ → X) (a n : ℕ) → ((k : ℕ) → a ≤ k → k < a + n → g k ≡ h k) → map g (range_with_len a n) ≡ map h (range_with_len a n)
map_same g h a zero each = refl
map_same g h a (suc n) each =
    ap (λ x. x ∷ map g (range_with_len (a + 1) n)) (each a (omega arith) (omega arith))
    ∙ ap (λ l. h a ∷ l) (map_same g h (a + 1) n (λ k low high. each k (omega arith) (omega arith)))

pub by_symbol_same : {X : Type 0} (files : List File) (give other : ℕ → ℕ → X) →
    ((f i : ℕ) → f < length files → i < length (file_at files f).head.symbols → give f i ≡ other f i) → by_symbol files give ≡ by_symbol files other
unfolding by_symbol
by_symbol_same files give other each =
    same_range (symbol_row files give) (symbol_row files other) 0 (length files)
    (λ f low high. map_same (give f) (other f) 0 (length (file_at files f).head.symbols) (λ i from below. each f i (omega arith) (omega arith)))

pub by_section_same : {X : Type 0} (files : List File) (give other : ℕ → ℕ → X) →
    ((f k : ℕ) → f < length files → k < section_count (file_at files f) → give f k ≡ other f k) → by_section files give ≡ by_section files other
unfolding by_section
by_section_same files give other each =
    same_range (section_row files give) (section_row files other) 0 (length files)
    (λ f low high. map_same (give f) (other f) 0 (section_count (file_at files f)) (λ k from below. each f k (omega arith) (omega arith)))

-- symbols, names and their numbers are the heads' alone
pub by_symbol_alone : {X : Type 0} (files : List File) (give : ℕ → ℕ → X) → by_symbol (heads_alone files) give ≡ by_symbol files give
unfolding by_symbol
by_symbol_alone files give =
    ap (λ n. flat_map (symbol_row (heads_alone files) give) (range_with_len 0 n)) (length_heads files)
    ∙ same_range (symbol_row (heads_alone files) give) (symbol_row files give) 0 (length files)
    (λ f low high. ap (λ (x : File). map (give f) (range_with_len 0 (length x.head.symbols))) (file_at_heads files f))

pub name_at_alone : (files : List File) (f i : ℕ) → name_at (heads_alone files) f i ≡ name_at files f i
unfolding name_at
name_at_alone files f i =
    let P : File → ℕ → List Named = λ x k. if is_named (symbol_at x i) then record { text = symbol_name x i; at = k } ∷ [] else [] in
    ap (λ x. P x (symbol_no (heads_alone files) f i)) (file_at_heads files f) ∙ ap (λ k. P (file_at files f) k) (symbol_no_alone files f i)

pub names_in_alone : (files : List File) (f : ℕ) → names_in (heads_alone files) f ≡ names_in files f
unfolding names_in
names_in_alone files f =
    ap (λ (x : File). flat_map (name_at (heads_alone files) f) (range_with_len 0 (length x.head.symbols))) (file_at_heads files f)
    ∙ same_range (name_at (heads_alone files) f) (name_at files f) 0 (length (file_at files f).head.symbols) (λ i low high. name_at_alone files f i)

pub names_alone : (files : List File) → names (heads_alone files) ≡ names files
unfolding names
names_alone files =
    ap (λ n. flat_map (names_in (heads_alone files)) (range_with_len 0 n)) (length_heads files)
    ∙ same_range (names_in (heads_alone files)) (names_in files) 0 (length files) (λ f low high. names_in_alone files f)

pub name_number_alone : (files : List File) (f i : ℕ) → name_number (heads_alone files) f i ≡ name_number files f i
unfolding name_number
name_number_alone files f i =
    let P : File → List Named → ℕ = λ x l. if is_named (symbol_at x i) then number_of l (symbol_name x i) else 0 in
    ap (λ x. P x (names (heads_alone files))) (file_at_heads files f) ∙ ap (P (file_at files f)) (names_alone files)
