-- Bytes written into a block, place by place.
use Rattle.std.proofs.Common.{◌≡◌, ℕ, ◌+◌, ◌-◌, ◌<◌, ◌≤◌, List, ◌++◌, length, take, drop, get_or, slice_index, nat_le, nat_lt, ◌&&◌, arith, inl, inr, refl, ap, sym, ◌∙◌, min, max}
use Rattle.std.specs.Prelude.{if◌then◌else◌}
use borrow.Rule.Slice.PartMut.{put_mid}
use Rattle.std.proofs.lemmas.Slice.{put_mid-paste}
use Rattle.std.proofs.lemmas.List.Edits.{paste_all}
use Rattle.std.proofs.lemmas.List.{get_or_append_left, get_or-take, get_or-drop, length-take-le, length-drop}
use Rattle.std.proofs.Math.Seq.{get_or-append_right}
use Rattle.std.proofs.lemmas.Bool.{cases_lt}
use Rattle.std.proofs.lemmas.Bool.Decides.{nat_tests}
use Rattle.reloc_apply.specs.Image.{piece, over}

pub inside : (a i b u v : ℕ) → a ≤ i → i < b → (if nat_le a i && nat_lt i b then u else v) ≡ u
inside a i b u v p q = grind (arith, nat_tests)

pub under : (a i b u v : ℕ) → i < a → (if nat_le a i && nat_lt i b then u else v) ≡ v
under a i b u v p = grind (arith, nat_tests)

pub past : (a i b u v : ℕ) → b ≤ i → (if nat_le a i && nat_lt i b then u else v) ≡ v
past a i b u v p = grind (arith, nat_tests)

-- ys written over xs from a on
pub placed : (xs ys : List ℕ) (a n i : ℕ) → n ≡ length ys → a + n ≤ length xs
    → get_or (take a xs ++ (ys ++ drop (a + n) xs)) i 0 ≡ (if nat_le a i && nat_lt i (a + n) then get_or ys (i - a) 0 else get_or xs i 0)
placed xs ys a n i size room =
    let front : length (take a xs) ≡ a = length-take-le a xs (omega arith) in
    elim (cases_lt i a) [
      | inl lt ↦
          get_or_append_left (take a xs) (ys ++ drop (a + n) xs) 0 i (omega arith) ∙ get_or-take a xs i 0 lt
          ∙ sym (under a i (a + n) (get_or ys (i - a) 0) (get_or xs i 0) lt)
      | inr le ↦
          let skip : get_or (take a xs ++ (ys ++ drop (a + n) xs)) i 0 ≡ get_or (ys ++ drop (a + n) xs) (i - a) 0 =
          get_or-append_right (take a xs) (ys ++ drop (a + n) xs) i 0 (omega arith) ∙ ap (λ k. get_or (ys ++ drop (a + n) xs) (i - k) 0) front in
          elim (cases_lt i (a + n)) [
            | inl lt ↦
                skip ∙ get_or_append_left ys (drop (a + n) xs) 0 (i - a) (omega arith)
                ∙ sym (inside a i (a + n) (get_or ys (i - a) 0) (get_or xs i 0) le lt)
            | inr more ↦
                let at : a + n + (i - a - length ys) ≡ i = omega arith in
                skip ∙ get_or-append_right ys (drop (a + n) xs) (i - a) 0 (omega arith)
                ∙ get_or-drop (a + n) xs (i - a - length ys) 0 ∙ ap (λ k. get_or xs k 0) at
                ∙ sym (past a i (a + n) (get_or ys (i - a) 0) (get_or xs i 0) more)
          ]
    ]

-- what a piece has in a block was copied there
pub copied : (block bytes new : List ℕ) (from at start end i : ℕ)
    → start ≡ max from at → end ≡ min (from + length block) (at + length bytes) → start < end → i < length block
    → new ≡ take (end - at - (start - at)) (drop (start - at) bytes)
    → get_or (put_mid (start - from) (end - from - (start - from)) block new) i 0 ≡ over (piece at bytes) (get_or block i 0) (from + i)
copied block bytes new from at start end i start_is end_is some lt new_is =
    let a = start - from in
    let n = end - start in
    let count : end - at - (start - at) ≡ n = omega arith in
    let width : end - from - (start - from) ≡ n = omega arith in
    let held : end - at - (start - at) ≤ length (drop (start - at) bytes) = omega (arith, length-drop (start - at) bytes) in
    let size : n ≡ length new = sym (ap length new_is ∙ length-take-le _ (drop (start - at) bytes) held ∙ count) in
    let room : a + n ≤ length block = omega arith in
    let written : put_mid a (end - from - (start - from)) block new ≡ take a block ++ (new ++ drop (a + n) block) =
    put_mid-paste a (end - from - (start - from)) block new new n refl (sym width) size
    ∙ paste_all block a new n size in
    let shown : get_or (put_mid a (end - from - (start - from)) block new) i 0
    ≡ (if nat_le a i && nat_lt i (a + n) then get_or new (i - a) 0 else get_or block i 0) =
    ap (λ xs. get_or xs i 0) written ∙ placed block new a n i size room in
    elim (cases_lt (from + i) at) [
      | inl before ↦
          shown ∙ under a i (a + n) (get_or new (i - a) 0) (get_or block i 0) (omega arith)
          ∙ sym (under at (from + i) (at + length bytes) (slice_index bytes (from + i - at)) (get_or block i 0) before)
      | inr le ↦ elim (cases_lt (from + i) (at + length bytes)) [
        | inl within ↦
            let place : start - at + (i - a) ≡ from + i - at = omega arith in
            let copy : get_or new (i - a) 0 ≡ get_or bytes (from + i - at) 0 =
            ap (λ xs. get_or xs (i - a) 0) new_is
            ∙ get_or-take (end - at - (start - at)) (drop (start - at) bytes) (i - a) 0 (omega arith)
            ∙ get_or-drop (start - at) bytes (i - a) 0 ∙ ap (λ k. get_or bytes k 0) place in
            shown ∙ inside a i (a + n) (get_or new (i - a) 0) (get_or block i 0) (omega arith) (omega arith) ∙ copy
            ∙ sym (inside at (from + i) (at + length bytes) (slice_index bytes (from + i - at)) (get_or block i 0) le within)
        | inr more ↦
            shown ∙ past a i (a + n) (get_or new (i - a) 0) (get_or block i 0) (omega arith)
            ∙ sym (past at (from + i) (at + length bytes) (slice_index bytes (from + i - at)) (get_or block i 0) more)
      ]
    ]
