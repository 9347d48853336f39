-- A hash of which some bytes are taken in, and lists of hashes.
use Rattle.std.proofs.Common.{◌≡◌, ℕ, ◌+◌, List, [], ◌∷◌, ◌++◌, map, drop, sym, ap, ◌∙◌, arith, append_assoc}
use Rattle.std.specs.List.{range_with_len}
use Rattle.std.proofs.lemmas.List.{append-nil, map-append}
use Rattle.std.proofs.lemmas.List.FromFn.{map-range_with_len_more}
use Rattle.rayon.specs.Shown.{run-append}
use Rattle.intern_race.specs.Hash.{hash_from}

-- the bytes before one are taken in, if what is left makes the whole hash of them
abbrev pub IsHashing : (whole : ℕ) → (text : List ℕ) → (k hash : ℕ) → Type 0
IsHashing whole text k hash = hash_from hash (drop k text) ≡ whole

-- a run of numbers' values more, after a list, and one more
pub run_joined : (f : ℕ → ℕ) (start n m : ℕ) (old now new : List ℕ) → now ≡ old ++ map f (range_with_len start n) → new ≡ now ++ map f (range_with_len (start + n) m) →
    new ≡ old ++ map f (range_with_len start (n + m))
run_joined f start n m old now new held more =
    more ∙ ap (λ l. l ++ map f (range_with_len (start + n) m)) held
    ∙ append_assoc old (map f (range_with_len start n)) (map f (range_with_len (start + n) m))
    ∙ ap (λ l. old ++ l) (sym (map-append f (range_with_len start n) (range_with_len (start + n) m)) ∙ ap (map f) (run-append start n m))

pub run_pushed : (f : ℕ → ℕ) (start n j : ℕ) (old now new : List ℕ) (x : ℕ) → start + n ≡ j → now ≡ old ++ map f (range_with_len start n) → new ≡ now ++ x ∷ [] → x ≡ f j →
    new ≡ old ++ map f (range_with_len start (n + 1))
run_pushed f start n j old now new x at held push is =
    push ∙ ap (λ l. l ++ x ∷ []) held ∙ append_assoc old (map f (range_with_len start n)) (x ∷ [])
    ∙ ap (λ l. old ++ l) (ap (λ y. map f (range_with_len start n) ++ y ∷ []) is ∙ sym (map-range_with_len_more f start n j at))

pub run_none : (f : ℕ → ℕ) (start : ℕ) (old : List ℕ) → old ≡ old ++ map f (range_with_len start 0)
run_none f start old = sym (append-nil old)
