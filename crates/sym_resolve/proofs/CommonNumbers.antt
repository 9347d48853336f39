-- The COMMON symbols of a file by number; if there are none, nothing is asked for.
use Rattle.std.proofs.Common.{◌≡◌, ℕ, zero, suc, ◌+◌, ◌-◌, ◌<◌, ◌≤◌, Bool, true, false, if◌then◌else◌, List, [], length, refl, sym, ap, ◌∙◌, ⊎_elim, arith}
use Rattle.std.specs.Prelude.{flat_map}
use Rattle.std.specs.List.{range_with_len}
use Rattle.std.proofs.lemmas.Bool.{cond-true, cond-false, cases_Bool}
use Rattle.std.proofs.lemmas.List.Sums.{count_by_more_no, count_by_more_yes}
use Rattle.lk_tables.specs.declared.heads.Symbol.{Symbol}
use Rattle.lk_tables.specs.Symbols.{is_common}
use Rattle.lk_tables.specs.Files.{File, common_no, commons_before, file_at, first_section, no_symbol, section_count, section_total, symbol_at}
use Rattle.lk_tables.proofs.BoundWithin.{common_below as before_most}
use Rattle.lk_tables.proofs.FirstNumbers.{section_within}
use Rattle.sym_resolve.specs.Symbols.{common_count, in_file}
use Rattle.sym_resolve.proofs.Walks.{none_range}

abbrev is_one : Symbol → Bool
is_one s = is_common s.place

pub one_more : (file : File) (i : ℕ) → i < length file.head.symbols → is_common (symbol_at file i).place ≡ true → commons_before file (i + 1) ≡ commons_before file i + 1
one_more file i lt is = count_by_more_yes is_one file.head.symbols i no_symbol lt is

pub none_more : (file : File) (i : ℕ) → i < length file.head.symbols → is_common (symbol_at file i).place ≡ false → commons_before file (i + 1) ≡ commons_before file i
none_more file i lt is = count_by_more_no is_one file.head.symbols i no_symbol lt is

count_rises : (file : File) (i n : ℕ) → i + n ≤ length file.head.symbols → commons_before file i ≤ commons_before file (i + n)
count_rises file i zero le = let e : i ≡ i + 0 = omega arith in omega (arith, ap (commons_before file) e)
count_rises file i (suc n) le =
    let e : i + n + 1 ≡ i + suc n = omega arith in
    let later = count_rises file i n (omega arith) in
    ⊎_elim
    (λ (is : is_common (symbol_at file (i + n)).place ≡ true). omega (arith, one_more file (i + n) (omega arith) is, ap (commons_before file) e))
    (λ (not_one : is_common (symbol_at file (i + n)).place ≡ false). omega (arith, none_more file (i + n) (omega arith) not_one, ap (commons_before file) e))
    (cases_Bool (is_common (symbol_at file (i + n)).place))

pub before_rises : (file : File) (i j : ℕ) → i ≤ j → j ≤ length file.head.symbols → commons_before file i ≤ commons_before file j
before_rises file i j le within =
    let e : i + (j - i) ≡ j = omega arith in
    omega (arith, count_rises file i (j - i) (omega arith), ap (commons_before file) e)

no_symbol_common : (file : File) (i : ℕ) → commons_before file (length file.head.symbols) ≡ 0 → i < length file.head.symbols → is_common (symbol_at file i).place ≡ false
no_symbol_common file i none lt = ⊎_elim
    (λ (is : is_common (symbol_at file i).place ≡ true). let some = before_most file i lt is in absurd (omega arith))
    (λ (not_one : is_common (symbol_at file i).place ≡ false). not_one)
    (cases_Bool (is_common (symbol_at file i).place))

none_if : {X : Type 0} (b : Bool) (xs : List X) → (b ≡ true → xs ≡ []) → (if b then xs else []) ≡ []
none_if true xs none = none refl
none_if false xs none = refl

-- a file that has no COMMON symbol gives nothing that COMMON symbols alone give
pub none_common : {X : Type 0} (files : List File) (give : ℕ → ℕ → List X) (f : ℕ) → ((i : ℕ) → is_common (symbol_at (file_at files f) i).place ≡ false → give f i ≡ []) → common_count (file_at files f) ≡ 0 → in_file files give f ≡ []
none_common files give f each none =
    let file = file_at files f in
    none_if file.live (flat_map (give f) (range_with_len 0 (length file.head.symbols)))
    (λ live.
    let count : commons_before file (length file.head.symbols) ≡ 0 = sym (cond-true file.live (commons_before file (length file.head.symbols)) 0 live) ∙ none in
    none_range (give f) 0 (length file.head.symbols) (λ i low high. each i (no_symbol_common file i count (omega arith))))

-- a file with COMMON symbols takes part
pub common_live : (file : File) → (common_count file ≡ 0 → ⊥) → file.live ≡ true
common_live file some = ⊎_elim
    (λ (live : file.live ≡ true). live)
    (λ (dead : file.live ≡ false). absurd (some (cond-false file.live (commons_before file (length file.head.symbols)) 0 dead)))
    (cases_Bool file.live)

-- the numbers of its COMMON symbols, one symbol further
pub numbered_more : (files : List File) (f i : ℕ) → i < length (file_at files f).head.symbols → is_common (symbol_at (file_at files f) i).place ≡ true → common_no files f (i + 1) ≡ common_no files f i + 1
numbered_more files f i lt is = omega (arith, one_more (file_at files f) i lt is)

pub no_more : (files : List File) (f i : ℕ) → i < length (file_at files f).head.symbols → is_common (symbol_at (file_at files f) i).place ≡ false → common_no files f (i + 1) ≡ common_no files f i
no_more files f i lt is = omega (arith, none_more (file_at files f) i lt is)

-- they are numbers of sections
pub section_below : (files : List File) (f : ℕ) → f < length files → (file_at files f).live ≡ true → first_section files f + length (file_at files f).head.sections ≤ section_total files
section_below files f lt live =
    let file = file_at files f in
    let count : section_count file ≡ length file.head.sections + commons_before file (length file.head.symbols) = cond-true file.live (length file.head.sections + commons_before file (length file.head.symbols)) 0 live in
    omega (arith, section_within files f lt)

pub common_below : (files : List File) (f i : ℕ) → f < length files → (file_at files f).live ≡ true → i < length (file_at files f).head.symbols → is_common (symbol_at (file_at files f) i).place ≡ true → common_no files f i < section_total files
common_below files f i lt live inside is =
    let file = file_at files f in
    let count : section_count file ≡ length file.head.sections + commons_before file (length file.head.symbols) = cond-true file.live (length file.head.sections + commons_before file (length file.head.symbols)) 0 live in
    omega (arith, section_within files f lt, before_most file i inside is)
