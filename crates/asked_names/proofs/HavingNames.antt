-- A symbol that has a name, as it is looked for.
use Rattle.std.proofs.Common.{◌≡◌, ℕ, ◌+◌, ◌<◌, ◌≤◌, ◌^◌, false, List, ◌++◌, length, drop, flat_map, inl, inr, sym, ap, ◌∙◌, subst, arith}
use Rattle.std.specs.Global.{Vec}
use Rattle.std.proofs.lemmas.Bool.{and_right, cases_lt}
use Rattle.std.proofs.lemmas.List.{append-nil, drop_all}
use Rattle.lk_tables.specs.Files.{AreFew, File, file_at}
use Rattle.lk_tables.proofs.FirstNumbers.{first_within}
use Rattle.asked_names.specs.AskedNames.{has_name, is_named_so, lists_of}

-- no symbol has it of a file of which each was looked at
pub none_in : (file : File) (name : List ℕ) (n : ℕ) → length file.head.symbols ≡ n → ((k : ℕ) → k < n → is_named_so file k name ≡ false) →
    (i : ℕ) → i < length file.head.symbols → has_name file i name ≡ false
none_in file name n all each i lt = and_right file.live (is_named_so file i name) (each i (omega (arith, lt, all)))

-- a symbol's index is a number of 32 bits
pub index_few : (files : List File) (f i : ℕ) → AreFew files → f < length files → i < length (file_at files f).head.symbols → i < 2 ^ 31
index_few files f i few lt below = omega (arith, below, few.symbol_count, first_within files f lt)

-- a walk over names, at its end
pub collected : (give : List ℕ → List ℕ) (names : List (Vec ℕ)) (i : ℕ) (list whole : List ℕ) → length names ≤ i →
    list ++ flat_map give (lists_of (drop i names)) ≡ whole → list ≡ whole
collected give names i list whole past held =
    sym (append-nil list) ∙ sym (ap (λ ns. list ++ flat_map give (lists_of ns)) (drop_all i names past)) ∙ held
