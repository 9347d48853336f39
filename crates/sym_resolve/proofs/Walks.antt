-- Lists over ranges, and over the symbols of the live files.
use Rattle.std.proofs.Common.{◌≡◌, ℕ, zero, suc, ◌+◌, ◌<◌, ◌≤◌, Bool, true, false, if◌then◌else◌, List, [], ◌++◌, length, All, Contains, refl, sym, ap, ◌∙◌, ⊎_elim, arith}
use Rattle.std.specs.Prelude.{flat_map}
use Rattle.std.specs.List.{range_with_len}
use Rattle.std.proofs.lemmas.List.{get_or_past}
use Rattle.std.proofs.lemmas.Bool.{cases_lt, cond-true}
use Rattle.lk_base.proofs.Ranges.{same_range}
use Rattle.lk_tables.specs.Files.{File, file_at, no_file}
use Rattle.lk_tables.proofs.BoundHas.{each_if}
use Rattle.name_numbers.proofs.Walks.{all_range, in_range}
use Rattle.sym_resolve.specs.Symbols.{in_file, over_symbols}

-- what goes through lists piece by piece
pub record Splits {X Y : Type 0} (h : List X → List Y) : Type 0 where
  pub none : h [] ≡ []
  pub both : (xs ys : List X) → h (xs ++ ys) ≡ h xs ++ h ys

pub through_range : {X Y : Type 0} (h : List X → List Y) (s : Splits h) (g : ℕ → List X) (a n : ℕ) → h (flat_map g (range_with_len a n)) ≡ flat_map (λ k. h (g k)) (range_with_len a n)
through_range h s g a zero = s.none
through_range h s g a (suc n) = s.both (g a) (flat_map g (range_with_len (a + 1) n)) ∙ ap (λ xs. h (g a) ++ xs) (through_range h s g (a + 1) n)

pub none_range : {X : Type 0} (g : ℕ → List X) (a n : ℕ) → ((j : ℕ) → a ≤ j → j < a + n → g j ≡ []) → flat_map g (range_with_len a n) ≡ []
none_range g a zero each = refl
none_range g a (suc n) each =
    ap (λ xs. xs ++ flat_map g (range_with_len (a + 1) n)) (each a (omega arith) (omega arith)) ∙ none_range g (a + 1) n (λ j low high. each j (omega arith) (omega arith))

-- a live file is one of the table's
pub live_within : (files : List File) (f : ℕ) → (file_at files f).live ≡ true → f < length files
live_within files f live = ⊎_elim
    (λ (lt : f < length files). lt)
    (λ (past : length files ≤ f). let none : (file_at files f).live ≡ false = ap (λ (x : File). x.live) (get_or_past files f no_file past) in absurd cc)
    (cases_lt f (length files))

if_through : {X Y : Type 0} (h : List X → List Y) → h [] ≡ [] → (b : Bool) (xs : List X) → h (if b then xs else []) ≡ (if b then h xs else [])
if_through h none true xs = refl
if_through h none false xs = none

pub through_symbols : {X Y : Type 0} (h : List X → List Y) (s : Splits h) (files : List File) (g : ℕ → ℕ → List X) → h (over_symbols files g) ≡ over_symbols files (λ f i. h (g f i))
through_symbols h s files g =
    through_range h s (in_file files g) 0 (length files)
    ∙ same_range (λ f. h (in_file files g f)) (in_file files (λ f i. h (g f i))) 0 (length files)
    (λ f low high. if_through h s.none (file_at files f).live (flat_map (g f) (range_with_len 0 (length (file_at files f).head.symbols)))
    ∙ ap (λ xs. if (file_at files f).live then xs else []) (through_range h s (g f) 0 (length (file_at files f).head.symbols)))

if_same : {X : Type 0} (b : Bool) (xs ys : List X) → (b ≡ true → xs ≡ ys) → (if b then xs else []) ≡ (if b then ys else [])
if_same true xs ys same = same refl
if_same false xs ys same = refl

pub same_in_file : {X : Type 0} (files : List File) (g k : ℕ → ℕ → List X) (f : ℕ) → ((i : ℕ) → (file_at files f).live ≡ true → i < length (file_at files f).head.symbols → g f i ≡ k f i) → in_file files g f ≡ in_file files k f
same_in_file files g k f each =
    if_same (file_at files f).live _ _ (λ live. same_range (g f) (k f) 0 (length (file_at files f).head.symbols) (λ i low high. each i live (omega arith)))

pub same_symbols : {X : Type 0} (files : List File) (g k : ℕ → ℕ → List X) → ((f i : ℕ) → (file_at files f).live ≡ true → i < length (file_at files f).head.symbols → g f i ≡ k f i) → over_symbols files g ≡ over_symbols files k
same_symbols files g k each =
    same_range (in_file files g) (in_file files k) 0 (length files) (λ f low high. same_in_file files g k f (each f))

pub all_in_file : {X : Type 0} (P : X → Type 0) (files : List File) (g : ℕ → ℕ → List X) (f : ℕ) → ((i : ℕ) → (file_at files f).live ≡ true → i < length (file_at files f).head.symbols → All P (g f i)) → All P (in_file files g f)
all_in_file P files g f each =
    each_if P (file_at files f).live _ (λ live. all_range P (g f) 0 (length (file_at files f).head.symbols) (λ i low high. each i live (omega arith)))

pub all_symbols : {X : Type 0} (P : X → Type 0) (files : List File) (g : ℕ → ℕ → List X) → ((f i : ℕ) → (file_at files f).live ≡ true → i < length (file_at files f).head.symbols → All P (g f i)) → All P (over_symbols files g)
all_symbols P files g each =
    all_range P (in_file files g) 0 (length files)
    (λ f low high. all_in_file P files g f (each f))

if_in : {X : Type 0} (x : X) (b : Bool) (xs : List X) → b ≡ true → Contains xs x → Contains (if b then xs else []) x
if_in x true xs is has = has
if_in x false xs is has = absurd cc

pub in_own_file : {X : Type 0} (files : List File) (g : ℕ → ℕ → List X) (f i : ℕ) (x : X) → (file_at files f).live ≡ true → i < length (file_at files f).head.symbols → Contains (g f i) x → Contains (in_file files g f) x
in_own_file files g f i x live lt has =
    if_in x (file_at files f).live _ live (in_range (g f) 0 (length (file_at files f).head.symbols) i x (omega arith) (omega arith) has)

pub in_symbols : {X : Type 0} (files : List File) (g : ℕ → ℕ → List X) (f i : ℕ) (x : X) → (file_at files f).live ≡ true → i < length (file_at files f).head.symbols → Contains (g f i) x → Contains (over_symbols files g) x
in_symbols files g f i x live lt has =
    in_range (in_file files g) 0 (length files) f x (omega arith) (let within : f < length files = live_within files f live in omega arith)
    (in_own_file files g f i x live lt has)

pub live_in_file : {X : Type 0} (files : List File) (g : ℕ → ℕ → List X) (f n : ℕ) → (file_at files f).live ≡ true → n ≡ length (file_at files f).head.symbols → flat_map (g f) (range_with_len 0 n) ≡ in_file files g f
live_in_file files g f n live all =
    ap (λ k. flat_map (g f) (range_with_len 0 k)) all
    ∙ sym (cond-true (file_at files f).live (flat_map (g f) (range_with_len 0 (length (file_at files f).head.symbols))) [] live)
