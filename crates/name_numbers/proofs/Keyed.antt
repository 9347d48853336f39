-- Keys in order, and the symbols that have them.
use Rattle.std.proofs.Common.{◌≡◌, ◌≢◌, ℕ, ◌+◌, ◌-◌, ◌<◌, ◌^◌, ◌==◌, ◌&&◌, ◌||◌, not, ⊎_elim, true, false, List, [], length, map, get_or, Contains, refl, sym, ap, ◌∙◌, subst, arith}
use Rattle.std.specs.Prelude.{flat_map}
use Rattle.std.specs.List.{range_with_len}
use Rattle.std.specs.declared.cmp.Ordering.{Ordering}
use Rattle.std.specs.declared.cmp.Ordering.TheVariants.{Less, Equal, Greater}
use Rattle.std.specs.Ordering.{nat_cmp, ordering_then, ordering_reverse, is_lt, is_eq}
use Rattle.std.specs.Cmp.{IsTotalOrder, nat_cmp_is}
use Rattle.std.specs.Cmp.Lexicographic.{slice_cmp}
use Rattle.std.specs.List.Sorted.{IsSorted}
use Rattle.std.proofs.lemmas.Cmp.{then_total, on_total, nat_cmp_total, nat_list_cmp_total}
use Rattle.std.proofs.lemmas.List.{get_or-map, get_or_default, length-map}
use Rattle.std.proofs.lemmas.List.FromFn.{length-map-range_with_len, get_or-map-range_with_len}
use Rattle.std.proofs.lemmas.List.Elements.{All-contains, Contains-get_or}
use Rattle.std.proofs.lemmas.Map.Text.{is_eq-slice_cmp}
use Rattle.std.proofs.lemmas.Slice.Eq.{bytes_eq-Decides}
use Rattle.std.proofs.lemmas.Bool.{cond-true, cond-false, and_parts, and_from, or_cases, or_parts, not-true, not-false, eqb-true, eqb-false, eq-eqb, both_ways}
use Rattle.std.specs.Str.{bytes_eq}
use Rattle.lk_tables.specs.declared.heads.Symbol.{Symbol}
use Rattle.lk_tables.specs.declared.files.File.{File as LentFile}
use Rattle.lk_tables.specs.FileView.{file_view, file_views}
use Rattle.lk_tables.proofs.ByNumber.{symbol_row}
use Rattle.lk_tables.proofs.FirstNumbers.{file_read, first_within}
use Rattle.lk_tables.specs.Files.{File, file_at, symbol_at, symbol_name, first_symbol, symbol_no, symbol_total}
use Rattle.lk_tables.specs.Names.{text_of}
use Rattle.lk_tables.specs.NameNumbers.{is_named}
use Rattle.lk_tables.proofs.BoundHas.{one_if}
use Rattle.name_numbers.specs.declared.sorting.Key.{Key}
use Rattle.name_numbers.specs.Keys.{KeyView, key_view, key_views, key_of, key_in, keys_in, keys, first_in, first_no, no_key, key_cmp, key_text, text_of_key, place_of_key, HaveHashes}
use Rattle.name_numbers.specs.Marks.{Marks}
use Rattle.name_numbers.specs.Spans.{symbol_in, first_span, first_or_none}
use Rattle.intern_race.specs.Hash.{hash_of}
use Rattle.name_numbers.proofs.Runs.{Runs, Marked, marks_all, marks_viewed, runs_by, runs_sorted, Exact, same_number, then_second, first_tie}
use Rattle.name_numbers.proofs.Walks.{all_range, in_range, in_if}

abbrev pub view_of : (hash : ℕ) (text : List ℕ) (at : ℕ) → KeyView
view_of hash text at = record { hash = hash; text = text; at = at }

-- a hash with a text, in order
pub record HashText : Type 0 where
  pub hash : ℕ
  pub text : List ℕ

abbrev hash_text : (hash : ℕ) → List ℕ → HashText
hash_text hash text = record { hash = hash; text = text }

abbrev hash_text_cmp : HashText → HashText → Ordering
hash_text_cmp x y = ordering_then (nat_cmp x.hash y.hash) (slice_cmp nat_cmp x.text y.text)

hash_text_total : IsTotalOrder hash_text_cmp
hash_text_total = then_total (on_total (λ (x : HashText). x.hash) nat_cmp_total) (on_total (λ (x : HashText). x.text) nat_list_cmp_total)

tied : (o p : Ordering) → p ≡ ordering_reverse o → is_lt o ≡ false → is_lt p ≡ false → is_eq o ≡ true
tied Less p back not_less also = absurd cc
tied Equal p back not_less also = refl
tied Greater p back not_less also = absurd (let less : is_lt p ≡ true = ap is_lt back in cc)

same_text : Exact (slice_cmp nat_cmp)
same_text s t not_less also =
    let antisymm = nat_list_cmp_total.antisymm t s in
    let d = bytes_eq-Decides s t in
    d.0 (sym (is_eq-slice_cmp s t) ∙ tied (slice_cmp nat_cmp s t) (slice_cmp nat_cmp t s) antisymm not_less also)

equal_if : (o : Ordering) → is_eq o ≡ true → o ≡ Equal
equal_if Less e = absurd cc
equal_if Equal e = refl
equal_if Greater e = absurd cc

hash_text_exact : Exact hash_text_cmp
hash_text_exact x y a b =
    let same : is_lt (nat_cmp x.hash y.hash) ≡ false → is_lt (nat_cmp y.hash x.hash) ≡ false → x.hash ≡ y.hash = same_number x.hash y.hash in
    let t = first_tie (nat_cmp x.hash y.hash) (slice_cmp nat_cmp x.text y.text) (nat_cmp y.hash x.hash) (slice_cmp nat_cmp y.text x.text) a b
    (λ p q. sym (nat_cmp_is x.hash y.hash Equal (same p q))) (λ p q. sym (nat_cmp_is y.hash x.hash Equal (sym (same p q)))) in
    let P : Ordering → Type 0 = λ o. is_lt o ≡ false in
    let hash : x.hash ≡ y.hash = same (subst P (sym t.0) refl) (subst P (sym t.1) refl) in
    let text : x.text ≡ y.text = same_text x.text y.text (then_second (nat_cmp x.hash y.hash) _ t.0 a) (then_second (nat_cmp y.hash x.hash) _ t.1 b) in
    ap (λ k. hash_text k x.text) hash ∙ ap (hash_text y.hash) text

hash_text_ties : (x y : HashText) → x ≡ y → hash_text_cmp x y ≡ Equal
hash_text_ties x y e =
    let d = bytes_eq-Decides x.text x.text in
    let second : slice_cmp nat_cmp x.text x.text ≡ Equal = equal_if (slice_cmp nat_cmp x.text x.text) (is_eq-slice_cmp x.text x.text ∙ d.1 refl) in
    let own : hash_text_cmp x x ≡ Equal = ap (λ o. ordering_then o (slice_cmp nat_cmp x.text x.text)) (sym (nat_cmp_is x.hash x.hash Equal refl)) ∙ second in
    let P : HashText → Type 0 = λ z. hash_text_cmp x z ≡ Equal in
    subst P e own

abbrev pub no_view : KeyView
no_view = record { hash = 0; text = []; at = 0 }

-- by position, of the keys themselves and of their views
pub view_at : (list : List Key) (k : ℕ) → k < length list → get_or (key_views list) k no_view ≡ key_view (get_or list k no_key)
view_at list k lt = get_or-map key_view list k no_key no_view lt

pub view_in : (list : List Key) (k : ℕ) → k < length list → Contains (key_views list) (key_view (get_or list k no_key))
view_in list k lt =
    let P : KeyView → Type 0 = Contains (key_views list) in
    subst P (view_at list k lt) (Contains-get_or (key_views list) k no_view (omega (arith, length-map list key_view)))

own_hash_at : (list : List Key) → HaveHashes (key_views list) → (k : ℕ) → k < length list → (get_or list k no_key).name.hash ≡ hash_of (get_or list k no_key).name.text.now
own_hash_at list right_hashes k lt = All-contains (λ (v : KeyView). v.hash ≡ hash_of v.text) (key_views list) (key_view (get_or list k no_key)) right_hashes (view_in list k lt)

abbrev hash_text_of : Key → HashText
hash_text_of key = hash_text key.name.hash key.name.text.now

pub keys_run : (list : List Key) → IsSorted key_cmp list → HaveHashes (key_views list) → ((v w : KeyView) → Contains (key_views list) v → Contains (key_views list) w → v.at ≡ w.at → v.text ≡ w.text) → Runs (λ j. (get_or list j no_key).name.text.now) (λ j. (get_or list j no_key).at) (length list)
keys_run list up right_hashes once =
    let place : Key → ℕ = λ key. key.at in
    let own_hash : (k : ℕ) → k < length list → (get_or list k no_key).name.hash ≡ hash_of (get_or list k no_key).name.text.now = own_hash_at list right_hashes in
    let same : (i j : ℕ) → i < length list → j < length list → (get_or list i no_key).name.text.now ≡ (get_or list j no_key).name.text.now → hash_text_of (get_or list i no_key) ≡ hash_text_of (get_or list j no_key) = λ i j lt less e.
    ap (λ t. hash_text t (get_or list i no_key).name.text.now) (own_hash i lt ∙ ap hash_of e ∙ sym (own_hash j less)) ∙ ap (hash_text (get_or list j no_key).name.hash) e in
    let view : (x : Key) → Contains list x → (k : ℕ) × ((k < length list) × (get_or list k no_key ≡ x)) = λ x has. (has.0, (has.1, get_or_default list has.0 no_key x has.1 ∙ has.2)) in
    runs_by (λ j. hash_text_of (get_or list j no_key)) (λ j. (get_or list j no_key).name.text.now) (λ j. (get_or list j no_key).at) (length list)
    (λ i j lt less e. ap (λ (x : HashText). x.text) e) same
    (runs_sorted hash_text_of place hash_text_cmp hash_text_total hash_text_exact hash_text_ties list no_key up (λ x y has also e.
    let a = view x has in
    let b = view y also in
    let i : ℕ = a.0 in
    let j : ℕ = b.0 in
    let ats : (get_or list i no_key).at ≡ (get_or list j no_key).at = ap place a.1.1 ∙ e ∙ sym (ap place b.1.1) in
    sym (ap hash_text_of a.1.1) ∙ same i j a.1.0 b.1.0 (once (key_view (get_or list i no_key)) (key_view (get_or list j no_key)) (view_in list i a.1.0) (view_in list j b.1.0) ats) ∙ ap hash_text_of b.1.1))

-- a key of the list, and the key of a symbol
pub record IsKey (files : List File) (v : KeyView) : Type 0 where
  pub file : ℕ
  pub symbol : ℕ
  pub within : file < length files
  pub inside : symbol < length (file_at files file).head.symbols
  pub named : is_named (symbol_at (file_at files file) symbol) ≡ true
  pub first : first_span (file_at files file).head.symbols symbol ≡ symbol
  pub is : v ≡ key_of (symbol_name (file_at files file) symbol) (symbol_no files file symbol)

pub key_is : (files : List File) (v : KeyView) → Contains (keys files) v → IsKey files v
unfolding keys keys_in key_in
key_is files v has =
    All-contains (IsKey files) (keys files) v
    (all_range (IsKey files) (keys_in files) 0 (length files) (λ f low high.
    let symbols = (file_at files f).head.symbols in
    all_range (IsKey files) (key_in (file_at files f).bytes symbols (first_symbol files f)) 0 (length symbols) (λ i low2 high2.
    one_if (IsKey files) (is_named (symbol_in symbols i) && first_span symbols i == i) (key_of (text_of (file_at files f).bytes (symbol_in symbols i).name) (first_symbol files f + i)) (λ both.
    let parts = and_parts (is_named (symbol_in symbols i)) (first_span symbols i == i) both in
    record { file = f; symbol = i; within = omega arith; inside = omega arith; named = parts.0; first = eqb-true (first_span symbols i) i parts.1; is = refl }))))
    has

pub key_has : (files : List File) (f i : ℕ) → f < length files → i < length (file_at files f).head.symbols → is_named (symbol_at (file_at files f) i) ≡ true → first_span (file_at files f).head.symbols i ≡ i
    → Contains (keys files) (key_of (symbol_name (file_at files f) i) (symbol_no files f i))
unfolding keys keys_in key_in
key_has files f i lt inside named own =
    let symbols = (file_at files f).head.symbols in
    let v = key_of (symbol_name (file_at files f) i) (symbol_no files f i) in
    in_range (keys_in files) 0 (length files) f v (omega arith) (omega arith)
    (in_range (key_in (file_at files f).bytes symbols (first_symbol files f)) 0 (length symbols) i v (omega arith) (omega arith)
    (in_if (is_named (symbol_in symbols i) && first_span symbols i == i) v (and_from (is_named (symbol_in symbols i)) (first_span symbols i == i) named (eq-eqb (first_span symbols i) i own))))

-- the first symbols of a file's spans, as they were marked
pub length_firsts_of : (symbols : List Symbol) (firsts : List ℕ) → firsts ≡ map (first_or_none symbols) (range_with_len 0 (length symbols)) → length firsts ≡ length symbols
length_firsts_of symbols firsts is = ap length is ∙ length-map-range_with_len (first_or_none symbols) 0 (length symbols)

pub first_read : (symbols : List Symbol) (firsts : List ℕ) (i : ℕ) → firsts ≡ map (first_or_none symbols) (range_with_len 0 (length symbols)) → i < length symbols → is_named (symbol_in symbols i) ≡ true → get_or firsts i 0 ≡ first_span symbols i
unfolding first_or_none
first_read symbols firsts i is lt named =
    ap (λ l. get_or l i 0) is ∙ get_or-map-range_with_len (first_or_none symbols) 0 (length symbols) i i 0 lt (omega arith)
    ∙ cond-true (is_named (symbol_in symbols i)) (first_span symbols i) 0 named

pub first_named : (symbols : List Symbol) (firsts : List ℕ) (start i : ℕ) → firsts ≡ map (first_or_none symbols) (range_with_len 0 (length symbols)) → i < length symbols → is_named (symbol_in symbols i) ≡ true → start + get_or firsts i 0 ≡ first_in symbols start i
unfolding first_in
first_named symbols firsts start i is lt named =
    ap (λ k. start + k) (first_read symbols firsts i is lt named) ∙ sym (cond-true (is_named (symbol_in symbols i)) (start + first_span symbols i) 0 named)

pub first_not_named : (symbols : List Symbol) (start i : ℕ) → is_named (symbol_in symbols i) ≡ false → 0 ≡ first_in symbols start i
unfolding first_in
first_not_named symbols start i not_named = sym (cond-false (is_named (symbol_in symbols i)) (start + first_span symbols i) 0 not_named)

-- whether a name is not the one before it
pub new_name : (list : List Key) (k : ℕ) → (k == 0 || not (bytes_eq (key_text list (k - 1)) (key_text list k))) ≡ true → (j : ℕ) → j + 1 ≡ k → key_text list j ≢ key_text list k
new_name list k is j next same =
    let before : k - 1 ≡ j = omega arith in
    let d = bytes_eq-Decides (key_text list j) (key_text list k) in
    ⊎_elim
    (λ (zero_is : (k == 0) ≡ true). let e = eqb-true k 0 zero_is in absurd (omega arith))
    (λ (other : not (bytes_eq (key_text list (k - 1)) (key_text list k)) ≡ true). both_ways (bytes_eq (key_text list (k - 1)) (key_text list k)) (not-true _ other) (ap (λ i. bytes_eq (key_text list i) (key_text list k)) before ∙ d.1 same))
    (or_cases (k == 0) (not (bytes_eq (key_text list (k - 1)) (key_text list k))) is)

pub old_name : (list : List Key) (k : ℕ) → (k == 0 || not (bytes_eq (key_text list (k - 1)) (key_text list k))) ≡ false → (k - 1 + 1 ≡ k) × (key_text list (k - 1) ≡ key_text list k)
old_name list k is =
    let parts = or_parts (k == 0) (not (bytes_eq (key_text list (k - 1)) (key_text list k))) is in
    let some : k ≡ 0 → ⊥ = eqb-false k 0 parts.0 in
    let d = bytes_eq-Decides (key_text list (k - 1)) (key_text list k) in
    (omega arith, d.0 (not-false _ parts.1))

-- all are marked
pub keys_marked : (list : List Key) (old ns : List ℕ) (first n : ℕ) → n ≡ length list → Marked (key_text list) (λ j. (get_or list j no_key).at) (length list) old ns first n → Marks text_of_key place_of_key (key_views list) old ns
keys_marked list old ns first n all m =
    marks_viewed key_view text_of_key place_of_key list old ns (marks_all (λ (key : Key). key.name.text.now) (λ (key : Key). key.at) list no_key old ns first n all m)

-- the same of the files that the code has
module _ (lent : List LentFile) (starts : List ℕ) (is : starts ≡ map (first_symbol (file_views lent)) (range_with_len 0 (length lent + 1))) where
  pub length_starts : length starts ≡ length lent + 1
  length_starts = ap length is ∙ length-map-range_with_len (first_symbol (file_views lent)) 0 (length lent + 1)

  start_at : (f : ℕ) → f < length lent → get_or starts f 0 ≡ first_symbol (file_views lent) f
  start_at f lt = ap (λ l. get_or l f 0) is ∙ get_or-map-range_with_len (first_symbol (file_views lent)) 0 (length lent + 1) f f 0 (omega arith) (omega arith)

  pub file_few : (f : ℕ) (x : LentFile) → f < length lent → x ≡ get_or lent f x → symbol_total (file_views lent) < 2 ^ 31 → get_or starts f 0 + length (file_view x).head.symbols < 2 ^ 31
  file_few f x lt read few =
      let e : length (file_view x).head.symbols ≡ length (file_at (file_views lent) f).head.symbols = ap (λ (y : File). length y.head.symbols) (file_read lent f x lt read) in
      omega (arith, first_within (file_views lent) f (omega (arith, length-map lent file_view)), start_at f lt)

  pub keys_read : (f : ℕ) (x : LentFile) → f < length lent → x ≡ get_or lent f x → flat_map (key_in (file_view x).bytes (file_view x).head.symbols (get_or starts f 0)) (range_with_len 0 (length (file_view x).head.symbols)) ≡ keys_in (file_views lent) f
  unfolding keys_in
  keys_read f x lt read =
      ap (λ (y : File). flat_map (key_in y.bytes y.head.symbols (get_or starts f 0)) (range_with_len 0 (length y.head.symbols))) (file_read lent f x lt read)
      ∙ ap (λ s. flat_map (key_in (file_at (file_views lent) f).bytes (file_at (file_views lent) f).head.symbols s) (range_with_len 0 (length (file_at (file_views lent) f).head.symbols))) (start_at f lt)

  pub firsts_read : (f : ℕ) (x : LentFile) → f < length lent → x ≡ get_or lent f x → map (first_in (file_view x).head.symbols (get_or starts f 0)) (range_with_len 0 (length (file_view x).head.symbols)) ≡ symbol_row (file_views lent) (first_no (file_views lent)) f
  firsts_read f x lt read =
      ap (λ (y : File). map (first_in y.head.symbols (get_or starts f 0)) (range_with_len 0 (length y.head.symbols))) (file_read lent f x lt read)
      ∙ ap (λ s. map (first_in (file_at (file_views lent) f).head.symbols s) (range_with_len 0 (length (file_at (file_views lent) f).head.symbols))) (start_at f lt)

-- all keys have their tags
pub keys_hashed : (files : List File) → HaveHashes (keys files)
unfolding keys keys_in key_in
keys_hashed files =
    let P : KeyView → Type 0 = λ v. v.hash ≡ hash_of v.text in
    all_range P (keys_in files) 0 (length files) (λ f low high.
    all_range P (key_in (file_at files f).bytes (file_at files f).head.symbols (first_symbol files f)) 0 (length (file_at files f).head.symbols) (λ i low2 high2.
    one_if P _ (key_of (text_of (file_at files f).bytes (symbol_in (file_at files f).head.symbols i).name) (first_symbol files f + i)) (λ both. refl)))
