-- Runs of the numbers of symbols, whatever file the symbols are of, and a walk over files that lists what is given for such a run.
use Rattle.std.proofs.Common.{◌≡◌, ℕ, zero, suc, ◌+◌, ◌-◌, ◌<◌, ◌≤◌, List, [], ◌∷◌, ◌++◌, length, map, flat_map, get_or, min, max, append_assoc, refl, sym, ap, ◌∙◌, arith}
use Rattle.std.specs.List.{range_with_len}
use Rattle.std.proofs.lemmas.List.Concat.{flat_map_single}
use Rattle.std.proofs.lemmas.List.FromFn.{fill_by_all}
use Rattle.lk_base.proofs.Loops.{range_at}
use Rattle.lk_base.proofs.Ranges.{two_parts}
use Rattle.lk_tables.specs.Files.{File, by_symbol, file_at, first_symbol, symbol_no, symbol_total}
use Rattle.lk_tables.proofs.ByNumber.{length_by_symbol, read_by_symbol}
use Rattle.lk_tables.proofs.FirstNumbers.{first_all, first_more, first_upto}

-- what is given for the numbers from i on and below n, put after a list: one number on
pub push_step : {X : Type 0} (give : ℕ → X) (i n : ℕ) (old new whole : List X) (x : X) → i < n → old ++ map give (range_with_len i (n - i)) ≡ whole → new ≡ old ++ x ∷ [] →
    x ≡ give i → new ++ map give (range_with_len (i + 1) (n - (i + 1))) ≡ whole
push_step give i n old new whole x lt held is own =
    let rest = map give (range_with_len (i + 1) (n - (i + 1))) in
    ap (λ l. l ++ rest) is ∙ append_assoc old (x ∷ []) rest ∙ ap (λ y. old ++ y ∷ rest) own ∙ ap (λ l. old ++ map give l) (sym (range_at i n lt)) ∙ held

module _ {X : Type 0} (files : List File) (give : ℕ → ℕ → X) (d : X) where
  -- what is given for the symbol of a number, as a list of one
  abbrev pub at_number : ℕ → List X
  at_number n = get_or (by_symbol files give) n d ∷ []

  -- for the numbers from a on and below b
  abbrev pub run : (a b : ℕ) → List X
  run a b = flat_map at_number (range_with_len a (b - a))

  -- the symbols of file f from x on
  part : (f x k : ℕ) → f < length files → ((j : ℕ) → x ≤ j → j < x + k → j < length (file_at files f).head.symbols) →
      map (give f) (range_with_len x k) ≡ flat_map at_number (range_with_len (symbol_no files f x) k)
  part f x zero lt within = refl
  part f x (suc k) lt within =
      let e : symbol_no files f (x + 1) ≡ symbol_no files f x + 1 = omega arith in
      ap (λ y. y ∷ map (give f) (range_with_len (x + 1) k)) (sym (read_by_symbol files give f x d lt (within x (omega arith) (omega arith))))
      ∙ ap (λ l. at_number (symbol_no files f x) ++ l) (part f (x + 1) k lt (λ j le less. within j (omega (arith, le)) (omega (arith, less))))
      ∙ ap (λ i. at_number (symbol_no files f x) ++ flat_map at_number (range_with_len i k)) e

  -- the first number from a on and before b that is not of a file before f
  abbrev next : (a b f : ℕ) → ℕ
  next a b f = max a (min b (first_symbol files f))

  -- what is listed before file f, for the numbers from a on and below b
  abbrev pub AreBefore : (a b f : ℕ) → List X → Type 0
  AreBefore a b f found = found ≡ run a (next a b f)

  -- a walk over files: one more; the next begins at b or past it; there is no other
  pub walk_next : (a b f x y : ℕ) (old new : List X) → f < length files → first_symbol files f < b → x ≡ a - first_symbol files f →
      y ≡ min (b - first_symbol files f) (length (file_at files f).head.symbols) → AreBefore a b f old → new ≡ old ++ map (give f) (range_with_len x (y - x)) → AreBefore a b (f + 1) new
  walk_next a b f x y old new lt low from to held is =
      let now = next a b f in
      let later = next a b (f + 1) in
      let more = first_more files f lt in
      let at : symbol_no files f x ≡ now = omega (arith, low, from) in
      let size : y - x ≡ later - now = omega (arith, low, from, to, more) in
      is ∙ ap (λ l. l ++ map (give f) (range_with_len x (y - x))) held
      ∙ ap (λ l. run a now ++ l) (part f x (y - x) lt (λ j le less. omega (arith, le, less, to)))
      ∙ ap (λ i. run a now ++ flat_map at_number (range_with_len i (y - x))) at
      ∙ ap (λ k. run a now ++ flat_map at_number (range_with_len now k)) size
      ∙ sym (two_parts at_number a now later (omega arith) (omega (arith, more)))

  walk_end : (a b f : ℕ) (found : List X) → b ≤ first_symbol files f → AreBefore a b f found → found ≡ run a b
  walk_end a b f found past held =
      let e : next a b f - a ≡ b - a = omega (arith, past) in
      held ∙ ap (λ k. flat_map at_number (range_with_len a k)) e

  pub walk_done : (a b f : ℕ) (found : List X) → length files ≤ f → b ≤ symbol_total files → AreBefore a b f found → found ≡ run a b
  walk_done a b f found past within held =
      walk_end a b f found (omega (arith, within, first_all files (length files) refl, first_upto files (length files) f past)) held

  -- for all numbers
  pub all_numbers : flat_map at_number (range_with_len 0 (symbol_total files)) ≡ by_symbol files give
  all_numbers =
      flat_map_single (λ n. get_or (by_symbol files give) n d) (range_with_len 0 (symbol_total files))
      ∙ sym (fill_by_all (λ n. get_or (by_symbol files give) n d) (by_symbol files give) (symbol_total files) d (length_by_symbol files give) (λ k lt. refl))
