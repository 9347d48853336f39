-- Keys as lists of their texts and their places, as loops list them.
use Rattle.std.proofs.Common.{◌≡◌, ℕ, ◌+◌, ◌-◌, ◌<◌, ◌≤◌, ◌==◌, ◌&&◌, Bool, true, false, List, [], ◌∷◌, ◌++◌, length, map, get_or, refl, sym, ap, ◌∙◌, subst, arith}
use Rattle.std.specs.Prelude.{flat_map}
use Rattle.std.specs.Borrow.{Bor}
use Rattle.std.specs.List.{range_with_len}
use Rattle.std.proofs.lemmas.List.{append-nil, get_or-map, map_push}
use Rattle.std.proofs.lemmas.Bool.{and_parts, cond-false, cond-true}
use Rattle.lk_base.proofs.Ranges.{two_parts}
use Rattle.lk_tables.proofs.ByNumber.{symbol_rows_all}
use Rattle.lk_tables.specs.declared.heads.Symbol.{Symbol}
use Rattle.lk_tables.specs.Files.{File}
use Rattle.lk_tables.specs.NameNumbers.{is_named}
use Rattle.lk_tables.specs.Names.{text_of}
use Rattle.name_numbers.specs.declared.keys.Keys.{Keys}
use Rattle.name_numbers.specs.declared.keys.Listed.{Listed}
use Rattle.name_numbers.specs.Columns.{Appends, AreKeys, HasKeys, IsEmpty}
use Rattle.name_numbers.specs.Keys.{KeyView, first_no, firsts, firsts_in, key_in, key_of, keys, keys_in, place_of_key, text_of_key}
use Rattle.name_numbers.specs.Spans.{first_span, symbol_in}
use Rattle.name_numbers.specs.Texts.{lent_texts, text_at}
use Rattle.name_numbers.proofs.Keyed.{no_view}
use Rattle.name_numbers.proofs.Walks.{walk_more}

-- one key, none, and those of one number more
pub appends_one : (text : Bor (List ℕ)) (symbol : ℕ) (old new : Keys) →
    new.texts.items ≡ old.texts.items ++ text ∷ [] → new.symbols.items ≡ old.symbols.items ++ symbol ∷ [] → Appends (key_of text.now symbol ∷ []) old new
appends_one text symbol old new texts symbols list are =
    let key = key_of text.now symbol in
    record {
      texts = ap lent_texts texts ∙ map_push (λ (t : Bor (List ℕ)). t.now) old.texts.items text ∙ ap (λ l. l ++ text.now ∷ []) are.texts ∙ sym (map_push text_of_key list key);
      symbols = symbols ∙ ap (λ l. l ++ symbol ∷ []) are.symbols ∙ sym (map_push place_of_key list key);
    }

pub appends_none : (keys : Keys) → Appends [] keys keys
appends_none keys list are = let P : List KeyView → Type 0 = λ l. AreKeys l keys in subst P (sym (append-nil list)) are

pub appends_more : (g : ℕ → List KeyView) (i : ℕ) (more : List KeyView) (first old new : Keys) → more ≡ g i → Appends (flat_map g (range_with_len 0 i)) first old → Appends more old new →
    Appends (flat_map g (range_with_len 0 (i + 1))) first new
appends_more g i more first old new is before next list are =
    let P : List KeyView → Type 0 = λ l. AreKeys l new in
    let held = list ++ flat_map g (range_with_len 0 i) in
    subst P (walk_more g list held (held ++ more) i refl (ap (λ l. held ++ l) is)) (next held (before list are))

-- a list over a run of numbers, one number on
run_next : {X : Type 0} (g : ℕ → List X) (a n : ℕ) → a ≤ n → flat_map g (range_with_len a ((n + 1) - a)) ≡ flat_map g (range_with_len a (n - a)) ++ g n
run_next g a n le =
    let one : (n + 1) - n ≡ 1 = omega arith in
    two_parts g a n (n + 1) le (omega arith) ∙ ap (λ l. flat_map g (range_with_len a (n - a)) ++ l) (ap (λ k. flat_map g (range_with_len n k)) one ∙ append-nil (g n))

-- what is listed of a run of files: of none, of one more, and of all files
pub listed_none : (files : List File) (a : ℕ) (listed : Listed) → IsEmpty listed → HasKeys files a a listed
listed_none files a listed none =
    let e : a - a ≡ 0 = omega arith in
    let P : ℕ → Type 0 = λ n. AreKeys (flat_map (keys_in files) (range_with_len a n)) listed.keys in
    let own : P 0 = record { texts = none.texts; symbols = none.symbols } in
    record { own = subst P (sym e) own; firsts = none.firsts ∙ ap (λ n. flat_map (firsts_in files) (range_with_len a n)) (sym e) }

pub listed_next : (files : List File) (a f : ℕ) (more : List KeyView) (row : List ℕ) (old new : Listed) → a ≤ f → more ≡ keys_in files f → row ≡ firsts_in files f → Appends more old.keys new.keys → new.firsts.items ≡ old.firsts.items ++ row →
    HasKeys files a f old → HasKeys files a (f + 1) new
listed_next files a f more row old new le is are keys firsts held =
    let P : List KeyView → Type 0 = λ l. AreKeys l new.keys in
    let so_far = flat_map (keys_in files) (range_with_len a (f - a)) in
    record {
      own = subst P (ap (λ l. so_far ++ l) is ∙ sym (run_next (keys_in files) a f le)) (keys so_far held.own);
      firsts = firsts ∙ ap (λ l. l ++ row) held.firsts ∙ ap (λ l. flat_map (firsts_in files) (range_with_len a (f - a)) ++ l) are ∙ sym (run_next (firsts_in files) a f le);
    }

pub keys_all : (files : List File) (n : ℕ) (listed : Listed) → n ≡ length files → HasKeys files 0 n listed → AreKeys (keys files) listed.keys
unfolding keys
keys_all files n listed all held =
    let e : n - 0 ≡ length files = omega (arith, all) in
    let P : ℕ → Type 0 = λ k. AreKeys (flat_map (keys_in files) (range_with_len 0 k)) listed.keys in
    subst P e held.own

pub firsts_all : (files : List File) (n : ℕ) (listed : Listed) → n ≡ length files → HasKeys files 0 n listed → listed.firsts.items ≡ firsts files
unfolding firsts
firsts_all files n listed all held =
    let e : n - 0 ≡ n = omega arith in
    held.firsts ∙ ap (λ k. flat_map (firsts_in files) (range_with_len 0 k)) e ∙ symbol_rows_all files (first_no files) n all

-- by position
module _ (list : List KeyView) (k : ℕ) (lt : k < length list) where
  pub text_column : (texts : List (List ℕ)) → texts ≡ map text_of_key list → text_at texts k ≡ text_of_key (get_or list k no_view)
  text_column texts is = ap (λ l. get_or l k []) is ∙ get_or-map text_of_key list k no_view [] lt

  pub place_column : (places : List ℕ) → places ≡ map place_of_key list → get_or places k 0 ≡ place_of_key (get_or list k no_view)
  place_column places is = ap (λ l. get_or l k 0) is ∙ get_or-map place_of_key list k no_view 0 lt

-- a loop that lists keys
pub key_next : (b : List ℕ) (symbols : List Symbol) (start i first : ℕ) (text : List ℕ) (initial old new : Keys) → (is_named (symbol_in symbols i) ≡ true → first ≡ first_span symbols i) →
    (is_named (symbol_in symbols i) && first == i) ≡ true → text ≡ text_of b (symbol_in symbols i).name → Appends (key_of text (start + i) ∷ []) old new →
    Appends (flat_map (key_in b symbols start) (range_with_len 0 i)) initial old → Appends (flat_map (key_in b symbols start) (range_with_len 0 (i + 1))) initial new
unfolding key_in
key_next b symbols start i first text initial old new is has own push before =
    let test = ap (λ q. is_named (symbol_in symbols i) && q == i) (sym (is (and_parts (is_named (symbol_in symbols i)) (first == i) has).0)) ∙ has in
    appends_more (key_in b symbols start) i (key_of text (start + i) ∷ []) initial old new
    (ap (λ t. key_of t (start + i) ∷ []) own ∙ sym (cond-true (is_named (symbol_in symbols i) && first_span symbols i == i) (key_of (text_of b (symbol_in symbols i).name) (start + i) ∷ []) [] test))
    before push

pub key_skip : (b : List ℕ) (symbols : List Symbol) (start i first : ℕ) (initial old : Keys) → (is_named (symbol_in symbols i) ≡ true → first ≡ first_span symbols i) →
    (is_named (symbol_in symbols i) && first == i) ≡ false →
    Appends (flat_map (key_in b symbols start) (range_with_len 0 i)) initial old → Appends (flat_map (key_in b symbols start) (range_with_len 0 (i + 1))) initial old
unfolding key_in
key_skip b symbols start i first initial old is not_so before =
    appends_more (key_in b symbols start) i [] initial old old
    (sym (cond-false (is_named (symbol_in symbols i) && first_span symbols i == i) (key_of (text_of b (symbol_in symbols i).name) (start + i) ∷ []) [] (no_key_here (is_named (symbol_in symbols i)) first (first_span symbols i) i is not_so)))
    before (appends_none old)
  where
    no_key_here : (named : Bool) (first q i : ℕ) → (named ≡ true → first ≡ q) → (named && first == i) ≡ false → (named && q == i) ≡ false
    no_key_here true first q i is not_so = ap (λ k. k == i) (sym (is refl)) ∙ not_so
    no_key_here false first q i is not_so = refl
