-- Lists of pieces laid over a block one after the other; those that are away from the block change nothing in it.
use Rattle.std.proofs.Common.{◌≡◌, ◌⊎◌, inl, inr, ℕ, zero, suc, ◌+◌, ◌-◌, ◌<◌, ◌≤◌, List, [], ◌∷◌, ◌++◌, length, take, drop, flat_map, get_or, slice_index, refl, sym, ap, ◌∙◌, arith, subst}
use Rattle.std.proofs.lemmas.Grind.{flat_map-append}
use Rattle.std.proofs.lemmas.List.{append-nil, take_more, take-append-drop}
use Rattle.reloc_apply.specs.Image.{Piece, ShowsFrom, byte_over, over, piece}
use Rattle.reloc_apply.proofs.Placing.{past, under}

pub byte_append : (u : ℕ) (ps qs : List Piece) (q : ℕ) → byte_over u (ps ++ qs) q ≡ byte_over (byte_over u ps q) qs q
byte_append u [] qs q = refl
byte_append u (p ∷ ps) qs q = byte_append (over p u q) ps qs q

pub shows_both : (from : ℕ) (old mid new : List ℕ) (ps qs : List Piece) → ShowsFrom from old mid ps → ShowsFrom from mid new qs → ShowsFrom from old new (ps ++ qs)
shows_both from old mid new ps qs one two = (
  two.0 ∙ one.0,
  λ i lt. two.1 i (omega (arith, lt, one.0)) ∙ ap (λ u. byte_over u qs (from + i)) (one.1 i lt) ∙ sym (byte_append (slice_index old i) ps qs (from + i)),
)

-- pieces that change nothing among so many bytes
abbrev pub AreAway : (from len : ℕ) → List Piece → Type 0
AreAway from len ps = (u q : ℕ) → from ≤ q → q < from + len → byte_over u ps q ≡ u

-- each of so many bytes stands before a range or after it
abbrev pub IsBeside : (from len start end : ℕ) → Type 0
IsBeside from len start end = (q : ℕ) → from ≤ q → q < from + len → (q < start) ⊎ (end ≤ q)

pub piece_away : (from len at : ℕ) (bytes : List ℕ) → IsBeside from len at (at + length bytes) → AreAway from len (piece at bytes ∷ [])
piece_away from len at bytes away = λ u q le lt. elim (away q le lt) [
  | inl low ↦ under at q (at + length bytes) (slice_index bytes (q - at)) u low
  | inr high ↦ past at q (at + length bytes) (slice_index bytes (q - at)) u high
]

away_append : (from len : ℕ) (ps qs : List Piece) → AreAway from len ps → AreAway from len qs → AreAway from len (ps ++ qs)
away_append from len ps qs one two = λ u q le lt. byte_append u ps qs q ∙ two (byte_over u ps q) q le lt ∙ one u q le lt

module _ {X : Type 0} (f : X → List Piece) (d : X) where
  away_taken : (from len : ℕ) (xs : List X) (k : ℕ) → k ≤ length xs → ((j : ℕ) → j < k → AreAway from len (f (get_or xs j d))) →
      AreAway from len (flat_map f (take k xs))
  away_taken from len xs zero le each = λ u q low high. refl
  away_taken from len [] (suc k) le each = absurd (omega (arith, le))
  away_taken from len (x ∷ xs) (suc k) le each =
      away_append from len (f x) (flat_map f (take k xs)) (each 0 (omega arith))
      (away_taken from len xs k (omega (arith, le)) (λ j lt. each (suc j) (omega arith)))

  pub away_all : (from len : ℕ) (xs : List X) → ((j : ℕ) → j < length xs → AreAway from len (f (get_or xs j d))) → AreAway from len (flat_map f xs)
  away_all from len [] each = λ u q low high. refl
  away_all from len (x ∷ xs) each =
      away_append from len (f x) (flat_map f xs) (each 0 (omega arith)) (away_all from len xs (λ j lt. each (suc j) (omega arith)))

  away_dropped : (from len : ℕ) (xs : List X) (k : ℕ) → ((j : ℕ) → k ≤ j → j < length xs → AreAway from len (f (get_or xs j d))) →
      AreAway from len (flat_map f (drop k xs))
  away_dropped from len xs zero each = away_all from len xs (λ j lt. each j (omega arith) lt)
  away_dropped from len [] (suc k) each = λ u q low high. refl
  away_dropped from len (x ∷ xs) (suc k) each = away_dropped from len xs k (λ j le lt. each (suc j) (omega arith) (omega arith))

  -- the first pieces are away from the block; one element more; the last ones are away from it
  pub walk_start : (xs : List X) (from k : ℕ) (block : List ℕ) → k ≤ length xs → ((j : ℕ) → j < k → AreAway from (length block) (f (get_or xs j d))) →
      ShowsFrom from block block (flat_map f (take k xs))
  walk_start xs from k block le before =
      let away = away_taken from (length block) xs k le before in
      (refl, λ i lt. sym (away (slice_index block i) (from + i) (omega arith) (omega arith)))

  pub walk_next : (xs : List X) (from k : ℕ) (before block block2 : List ℕ) → k < length xs → ShowsFrom from before block (flat_map f (take k xs)) →
      ShowsFrom from block block2 (f (get_or xs k d)) → ShowsFrom from before block2 (flat_map f (take (k + 1) xs))
  walk_next xs from k before block block2 lt held here =
      let P : List Piece → Type 0 = λ ps. ShowsFrom from before block2 ps in
      let x = get_or xs k d in
      let one : flat_map f (take (k + 1) xs) ≡ flat_map f (take k xs) ++ f x =
      ap (flat_map f) (take_more xs k d lt) ∙ flat_map-append f (take k xs) (x ∷ [])
      ∙ ap (λ ps. flat_map f (take k xs) ++ ps) (append-nil (f x)) in
      subst P (sym one) (shows_both from before block block2 (flat_map f (take k xs)) (f x) held here)

  pub walk_end : (xs : List X) (from k : ℕ) (before block : List ℕ) → ((j : ℕ) → k ≤ j → j < length xs → AreAway from (length before) (f (get_or xs j d))) →
      ShowsFrom from before block (flat_map f (take k xs)) → ShowsFrom from before block (flat_map f xs)
  walk_end xs from k before block after held =
      let P : List Piece → Type 0 = λ ps. ShowsFrom from before block ps in
      let whole : flat_map f xs ≡ flat_map f (take k xs) ++ flat_map f (drop k xs) =
      ap (flat_map f) (sym (take-append-drop k xs)) ∙ flat_map-append f (take k xs) (drop k xs) in
      let away = away_dropped from (length before) xs k after in
      subst P (sym whole) (
        held.0,
        λ i lt.
            held.1 i lt
            ∙ sym (byte_append (slice_index before i) (flat_map f (take k xs)) (flat_map f (drop k xs)) (from + i)
            ∙ away (byte_over (slice_index before i) (flat_map f (take k xs)) (from + i)) (from + i) (omega arith) (omega arith)),
      )
