-- The numbers of names as words: each name has one of its own, below the number of symbols.
use Rattle.std.proofs.Common.{◌≡◌, ℕ, ◌<◌, true, List, length, map, Contains, sym, ap, ◌∙◌, subst, arith}
use Rattle.std.proofs.lemmas.Bool.{cond-true}
use Rattle.lk_tables.specs.Files.{File, file_at, symbol_at, symbol_name, symbol_no, symbol_total}
use Rattle.lk_tables.specs.declared.numbering.NameNumbers.{NameNumbers}
use Rattle.lk_tables.specs.Heads.{HeadView}
use Rattle.lk_tables.specs.NameNumbers.{Named, is_named, names, number_of, name_number, NumbersNames, heads_alone}
use Rattle.lk_tables.proofs.ByNumber.{head_alone, length_heads, length_by_symbol, name_number_alone, symbol_total_alone}
use Rattle.lk_tables.proofs.FirstNumbers.{first_within}
use Rattle.name_numbers.proofs.Runs.{in_map, map_back}
use Rattle.name_numbers.proofs.NameOrder.{HasNumber, has_number, name_is, name_has}
use Rattle.name_numbers.proofs.Numbered.{one_file, one_symbol}

-- one of the names of the files, and its word
abbrev pub IsName : List File → List ℕ → Type 0
IsName files text = Contains (map (λ n. n.text) (names files)) text

unfoldable pub word_of : List File → List ℕ → ℕ
word_of files text = number_of (names files) text

pub word_named : (files : List File) (f i : ℕ) → is_named (symbol_at (file_at files f) i) ≡ true → name_number files f i ≡ word_of files (symbol_name (file_at files f) i)
unfolding name_number word_of
word_named files f i counts = cond-true (is_named (symbol_at (file_at files f) i)) (number_of (names files) (symbol_name (file_at files f) i)) 0 counts

pub is_name_of_symbol : (files : List File) (f i : ℕ) → f < length files → i < length (file_at files f).head.symbols → is_named (symbol_at (file_at files f) i) ≡ true → IsName files (symbol_name (file_at files f) i)
is_name_of_symbol files f i within inside counts =
    let text : Named → List ℕ = λ n. n.text in
    in_map text (names files) _ (name_has files f i within inside counts)

numbered : (files : List File) (text : List ℕ) → IsName files text → HasNumber files text (word_of files text)
unfolding word_of
numbered files text is =
    let text_of : Named → List ℕ = λ n. n.text in
    let b = map_back text_of (names files) text is in
    let s = name_is files b.0 b.1.0 in
    let P : List ℕ → Type 0 = λ t. HasNumber files t (number_of (names files) t) in
    subst P (s.same ∙ b.1.1) (has_number files s.file s.symbol s.within s.inside s.named)

pub word_below : (files : List File) (text : List ℕ) → IsName files text → word_of files text < symbol_total files
word_below files text is =
    let first = (numbered files text is).first in
    let at = first.is in
    let inside = first.inside in
    omega (arith, first_within files first.file first.within)

pub words_apart : (files : List File) (s t : List ℕ) → IsName files s → IsName files t → word_of files s ≡ word_of files t → s ≡ t
words_apart files s t is also e =
    let a = (numbered files s is).first in
    let b = (numbered files t also).first in
    let at : symbol_no files a.file a.symbol ≡ symbol_no files b.file b.symbol = a.is ∙ e ∙ sym b.is in
    let file = one_file files a.file b.file a.symbol b.symbol a.within b.within a.inside b.inside at in
    let symbol = one_symbol files a.file b.file a.symbol b.symbol file at in
    sym a.same ∙ ap (λ f. symbol_name (file_at files f) a.symbol) file ∙ ap (symbol_name (file_at files b.file)) symbol ∙ b.same

-- a number that was read in the table of the heads
pub word_read : (files : List File) (n : NameNumbers) (f i word : ℕ) → ((fs : List File) → NumbersNames fs n → f < length fs → i < length (file_at fs f).head.symbols → word ≡ name_number fs f i) → NumbersNames (heads_alone files) n → f < length files → i < length (file_at files f).head.symbols → word ≡ name_number files f i
word_read files n f i word read is lt inside =
    let few : i < length (file_at (heads_alone files) f).head.symbols = omega (arith, ap (λ (h : HeadView). length h.symbols) (head_alone files f)) in
    read (heads_alone files) is (omega (arith, length_heads files)) few ∙ name_number_alone files f i

pub words_count : (files : List File) (n : NameNumbers) → NumbersNames (heads_alone files) n → length n.numbers.items ≡ symbol_total files
words_count files n is = ap length is.numbers ∙ length_by_symbol (heads_alone files) (name_number (heads_alone files)) ∙ symbol_total_alone files
