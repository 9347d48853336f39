-- The keys of a link: one for each span that is a name, with the number of the first symbol of this span.
use Rattle.std.specs.Prelude.{◌≡◌, ℕ, ◌+◌, ◌==◌, ◌&&◌, if◌then◌else◌, List, [], ◌∷◌, length, map, flat_map, slice_index, slice_index_or, All}
use Rattle.std.specs.List.{range_with_len}
use Rattle.std.specs.declared.cmp.Ordering.{Ordering}
use Rattle.std.specs.Ordering.{nat_cmp, ordering_then}
use Rattle.std.specs.Cmp.Lexicographic.{slice_cmp}
use Rattle.intern_race.specs.Hash.{hash_of}
use Rattle.lk_tables.specs.declared.heads.Symbol.{Symbol}
use Rattle.lk_tables.specs.Files.{File, file_at, first_symbol, by_symbol}
use Rattle.lk_tables.specs.Names.{text_of}
use Rattle.lk_tables.specs.NameNumbers.{is_named}
use Rattle.name_numbers.specs.declared.sorting.Key.{Key}
use Rattle.name_numbers.specs.declared.sorting.HashedText.{HashedText}
use Rattle.name_numbers.specs.Spans.{symbol_in, first_span}

-- a key as a plain record
pub record KeyView : Type 0 where
  pub hash : ℕ
  pub text : List ℕ
  pub at : ℕ

abbrev pub key_view : Key → KeyView
key_view key = record { hash = key.name.hash; text = key.name.text.now; at = key.at }

abbrev pub key_views : List Key → List KeyView
key_views list = map key_view list

abbrev pub text_of_key : KeyView → List ℕ
text_of_key v = v.text

abbrev pub place_of_key : KeyView → ℕ
place_of_key v = v.at

abbrev pub HaveHashes : List KeyView → Type 0
HaveHashes list = All (λ v. v.hash ≡ hash_of v.text) list

-- the key of symbol i of a file, whose first symbol has the number `start`: if its name counts, and it is the first of its span
abbrev pub key_of : (text : List ℕ) (at : ℕ) → KeyView
key_of text at = record { hash = hash_of text; text = text; at = at }

unfoldable pub key_in : (b : List ℕ) → List Symbol → (start i : ℕ) → List KeyView
key_in b symbols start i = if is_named (symbol_in symbols i) && first_span symbols i == i
    then key_of (text_of b (symbol_in symbols i).name) (start + i) ∷ [] else []

-- the number of the first symbol of symbol i's span
unfoldable pub first_in : List Symbol → (start i : ℕ) → ℕ
first_in symbols start i = if is_named (symbol_in symbols i) then start + first_span symbols i else 0

-- the keys of a file of a link and of all files, and for each symbol the first of its span, in order of file and symbol
unfoldable pub keys_in : List File → ℕ → List KeyView
keys_in files f = flat_map (key_in (file_at files f).bytes (file_at files f).head.symbols (first_symbol files f)) (range_with_len 0 (length (file_at files f).head.symbols))

unfoldable pub keys : List File → List KeyView
keys files = flat_map (keys_in files) (range_with_len 0 (length files))

abbrev pub first_no : List File → (f i : ℕ) → ℕ
first_no files f i = first_in (file_at files f).head.symbols (first_symbol files f) i

abbrev pub firsts_in : List File → ℕ → List ℕ
firsts_in files f = map (first_no files f) (range_with_len 0 (length (file_at files f).head.symbols))

unfoldable pub firsts : List File → List ℕ
firsts files = by_symbol files (first_no files)

-- by the hash, then by the name, then by the place
abbrev pub name_cmp : HashedText → HashedText → Ordering
name_cmp x y = ordering_then (nat_cmp x.hash y.hash) (slice_cmp nat_cmp x.text.now y.text.now)

abbrev pub key_cmp : Key → Key → Ordering
key_cmp x y = ordering_then (name_cmp x.name y.name) (nat_cmp x.at y.at)

abbrev pub no_key : Key
no_key = record { name = record { hash = 0; text = record { ref_ptr = (0, 0); now = [] } }; at = 0 }

abbrev pub key_text : List Key → ℕ → List ℕ
key_text list k = (slice_index_or list k no_key).name.text.now

-- at each place what stands at the place that stands there
abbrev pub followed : List ℕ → List ℕ
followed firsts = map (λ s. slice_index firsts (slice_index firsts s)) (range_with_len 0 (length firsts))
