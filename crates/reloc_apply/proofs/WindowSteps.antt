-- One relocation done in a window that holds what stands at its place, and its place written into a block.
use Rattle.std.proofs.Common.{◌≡◌, ℕ, ◌+◌, ◌-◌, ◌<◌, ◌≤◌, List, ◌++◌, length, take, drop, get_or, slice_index, sym, ap, ◌∙◌, arith, inl, inr, pos}
use Rattle.std.proofs.Math.Seq.{get_or-append_right}
use Rattle.std.proofs.lemmas.Bool.{cases_lt}
use Rattle.std.proofs.lemmas.List.{ext_get_or, get_or_append_left, get_or-take, get_or-drop, length-take-le, length-drop}
use Rattle.lk_base.specs.RelocKinds.{is_uleb}
use Rattle.lk_tables.specs.declared.objects.Reloc.{Reloc}
use Rattle.lk_tables.specs.Binding.{Bindings}
use Rattle.lk_tables.specs.Files.{File}
use Rattle.link_sections.specs.LaidOut.{LaidOut}
use Rattle.std.specs.Prelude.{Option}
use Rattle.rv_code.specs.Places.{number_of}
use Rattle.reloc_apply.specs.Image.{over, piece}
use Rattle.reloc_apply.specs.Relocated.{put}
use Rattle.reloc_apply.proofs.Placing.{inside, past, under}
use Rattle.reloc_apply.proofs.States.{Fits, at_of, fill, filled_length, kind_at, put_after, put_before, put_length, put_within, width_of}

-- what a window holds of a place is what stands there
pub window_held : (window state : List ℕ) (p w : ℕ) → w ≤ 10 → length window ≡ 10 → p + w ≤ length state →
    ((j : ℕ) → j < 10 → slice_index window j ≡ slice_index state (p + j)) → take w window ≡ take w (drop p state)
window_held window state p w few long fits shows =
    let left : length (take w window) ≡ w = length-take-le w window (omega (arith, long, few)) in
    let right : length (take w (drop p state)) ≡ w = length-take-le w (drop p state) (omega (arith, length-drop p state, fits)) in
    ext_get_or 0 (take w window) (take w (drop p state)) (left ∙ sym right) (λ j lt.
    let less : j < w = omega (arith, lt, left) in
    get_or-take w window j 0 less ∙ shows j (omega (arith, less, few)) ∙ sym (get_or-take w (drop p state) j 0 less ∙ get_or-drop p state j 0))

-- bytes that stand in two lists of one length alike are seen alike
pub over_same : (at : ℕ) (xs ys : List ℕ) (u q : ℕ) → length xs ≡ length ys → (at ≤ q → slice_index xs (q - at) ≡ slice_index ys (q - at)) →
    over (piece at xs) u q ≡ over (piece at ys) u q
over_same at xs ys u q long same = elim (cases_lt q at) [
  | inl lt ↦
      under at q (at + length xs) (slice_index xs (q - at)) u lt ∙ sym (under at q (at + length ys) (slice_index ys (q - at)) u lt)
  | inr le ↦ elim (cases_lt q (at + length xs)) [
    | inl lt ↦
        inside at q (at + length xs) (slice_index xs (q - at)) u le lt ∙ same le
        ∙ sym (inside at q (at + length ys) (slice_index ys (q - at)) u le (omega (arith, lt, long)))
    | inr more ↦
        past at q (at + length xs) (slice_index xs (q - at)) u more
        ∙ sym (past at q (at + length ys) (slice_index ys (q - at)) u (omega (arith, more, long)))
  ]
]

-- bytes that are laid over bytes of the same length
pub over_twice : (at : ℕ) (xs ys : List ℕ) (u q : ℕ) → length xs ≡ length ys → over (piece at ys) (over (piece at xs) u q) q ≡ over (piece at ys) u q
over_twice at xs ys u q long = elim (cases_lt q at) [
  | inl lt ↦
      under at q (at + length ys) (slice_index ys (q - at)) (over (piece at xs) u q) lt
      ∙ under at q (at + length xs) (slice_index xs (q - at)) u lt
      ∙ sym (under at q (at + length ys) (slice_index ys (q - at)) u lt)
  | inr le ↦ elim (cases_lt q (at + length ys)) [
    | inl lt ↦
        inside at q (at + length ys) (slice_index ys (q - at)) (over (piece at xs) u q) le lt
        ∙ sym (inside at q (at + length ys) (slice_index ys (q - at)) u le lt)
    | inr more ↦
        past at q (at + length ys) (slice_index ys (q - at)) (over (piece at xs) u q) more
        ∙ past at q (at + length xs) (slice_index xs (q - at)) u (omega (arith, more, long))
        ∙ sym (past at q (at + length ys) (slice_index ys (q - at)) u more)
  ]
]

-- new bytes of a place over the bytes of the whole
pub over_part : (at p : ℕ) (part state new : List ℕ) (u q : ℕ) → p + length part ≤ length state → length new ≡ length state →
    ((s : ℕ) → s < p → slice_index new s ≡ slice_index state s) →
    ((s : ℕ) → p ≤ s → s < p + length part → slice_index new s ≡ slice_index part (s - p)) →
    ((s : ℕ) → p + length part ≤ s → slice_index new s ≡ slice_index state s) →
    over (piece (at + p) part) (over (piece at state) u q) q ≡ over (piece at new) u q
over_part at p part state new u q fits long before within after = elim (cases_lt q (at + p)) [
  | inl lt ↦
      under (at + p) q (at + p + length part) (slice_index part (q - (at + p))) (over (piece at state) u q) lt
      ∙ over_same at state new u q (sym long) (λ le. sym (before (q - at) (omega (arith, lt, le))))
  | inr le ↦ elim (cases_lt q (at + p + length part)) [
    | inl lt ↦
        let e : q - at - p ≡ q - (at + p) = omega arith in
        inside (at + p) q (at + p + length part) (slice_index part (q - (at + p))) (over (piece at state) u q) le lt
        ∙ ap (slice_index part) (sym e)
        ∙ sym (within (q - at) (omega (arith, le)) (omega (arith, lt, le)))
        ∙ sym (inside at q (at + length new) (slice_index new (q - at)) u (omega (arith, le)) (omega (arith, lt, fits, long)))
    | inr more ↦
        past (at + p) q (at + p + length part) (slice_index part (q - (at + p))) (over (piece at state) u q) more
        ∙ over_same at state new u q (sym long) (λ least. sym (after (q - at) (omega (arith, more))))
  ]
]

module _ (files : List File) (b : Bindings) (leaders : List (Option ℕ)) (laid : LaidOut) (n : ℕ) where
  -- the bytes that a window gets are those that stand there then
  pub window_put : (before r : Reloc) (state window new : List ℕ) → width_of files b leaders laid n r ≤ 10 → length window ≡ 10 → Fits files b leaders laid n state r →
      ((j : ℕ) → j < 10 → slice_index window j ≡ slice_index state (at_of files b leaders laid n r + j)) →
      new ≡ fill files b leaders laid n before r (pos (number_of (take (width_of files b leaders laid n r) window))) (take (width_of files b leaders laid n r) window)
      ++ drop (width_of files b leaders laid n r) window →
      (j : ℕ) → j < 10 → slice_index new j ≡ slice_index (put files b leaders laid n before r state) (at_of files b leaders laid n r + j)
  window_put before r state window new few long fits shows is j lt =
      let p = at_of files b leaders laid n r in
      let w = width_of files b leaders laid n r in
      let held : take w window ≡ take w (drop p state) = window_held window state p w few long fits shows in
      let give : List ℕ → List ℕ = λ place. fill files b leaders laid n before r (pos (number_of place)) place in
      let part : List ℕ = give (take w (drop p state)) in
      let size : length part ≡ w = filled_length (is_uleb r.kind) (kind_at files b leaders laid n r) _ (take w (drop p state)) ∙ length-take-le w (drop p state) (omega (arith, length-drop p state, fits)) in
      let same : new ≡ part ++ drop w window = is ∙ ap (λ place. give place ++ drop w window) held in
      elim (cases_lt j w) [
        | inl less ↦
            let e : p + j - p ≡ j = omega arith in
            ap (λ xs. get_or xs j 0) same ∙ get_or_append_left part (drop w window) 0 j (omega (arith, less, size))
            ∙ sym (put_within files b leaders laid n before r state (p + j) fits (omega arith) (omega (arith, less)) ∙ ap (slice_index part) e)
        | inr more ↦
            let e : w + (j - w) ≡ j = omega (arith, more) in
            ap (λ xs. get_or xs j 0) same ∙ get_or-append_right part (drop w window) j 0 (omega (arith, more, size))
            ∙ ap (λ k. get_or (drop w window) (j - k) 0) size ∙ get_or-drop w window (j - w) 0 ∙ ap (λ k. get_or window k 0) e ∙ shows j lt
            ∙ sym (put_after files b leaders laid n before r state (p + j) fits (omega (arith, more)))
      ]

  -- its place over the section's bytes
  pub over_put : (before r : Reloc) (state new : List ℕ) (at u q : ℕ) → width_of files b leaders laid n r ≤ 10 → length new ≡ 10 → Fits files b leaders laid n state r →
      ((j : ℕ) → j < length new → slice_index new j ≡ slice_index (put files b leaders laid n before r state) (at_of files b leaders laid n r + j)) →
      over (piece (at + at_of files b leaders laid n r) (take (width_of files b leaders laid n r) new)) (over (piece at state) u q) q
      ≡ over (piece at (put files b leaders laid n before r state)) u q
  over_put before r state new at u q few long fits shows =
      let p = at_of files b leaders laid n r in
      let w = width_of files b leaders laid n r in
      let size : length (take w new) ≡ w = length-take-le w new (omega (arith, few, long)) in
      over_part at p (take w new) state (put files b leaders laid n before r state) u q (omega (arith, fits, size)) (put_length files b leaders laid n before r state)
      (λ s lt. put_before files b leaders laid n before r state s fits lt)
      (λ s le lt.
      let e : p + (s - p) ≡ s = omega (arith, le) in
      ap (slice_index (put files b leaders laid n before r state)) (sym e) ∙ sym (shows (s - p) (omega (arith, le, lt, size, few, long)))
      ∙ sym (get_or-take w new (s - p) 0 (omega (arith, le, lt, size))))
      (λ s le. put_after files b leaders laid n before r state s fits (omega (arith, le, size)))
