-- The bytes of a section that stay, laid over a block cut by cut.
use Rattle.std.proofs.Common.{◌≡◌, ℕ, ◌+◌, ◌-◌, ◌<◌, ◌≤◌, List, ◌++◌, suc, length, drop, take, get_or, refl, sym, append_assoc, ap, ◌∙◌, arith, inl, inr}
use Rattle.std.specs.Prelude.{slice_index}
use Rattle.std.proofs.lemmas.Bool.{cases_lt}
use Rattle.std.proofs.lemmas.List.{drop_all, get_or_append_left, length-append, length-drop, length-map, take_all}
use Rattle.std.proofs.Math.Seq.{get_or-append_right}
use Rattle.link_sections.specs.declared.cuts.Cut.{Cut as HeldCut}
use Rattle.link_sections.specs.Cuts.{Cut, new_offset}
use Rattle.link_sections.specs.CutsView.{AreCuts, cut_view, cut_views}
use Rattle.reloc_apply.specs.Image.{over, piece}
use Rattle.reloc_apply.specs.Staying.{kept_bytes, new_before, no_cut, old_before, staying}
use Rattle.reloc_apply.proofs.Placing.{inside, past, under}
use Rattle.reloc_apply.specs.Sites.{no_held}
use Rattle.reloc_apply.proofs.CutViews.{cut_is, viewed}
use Rattle.reloc_apply.proofs.StayingSizes.{AreIn, Split, at_cut, part_size, split, split_next}

-- a place at which no byte of a piece stands
pub outside : (xs : List ℕ) (at u p : ℕ) → at + length xs ≤ p → over (piece at xs) u p ≡ u
outside xs at u p le = past at p (at + length xs) (get_or xs (p - at) 0) u le

-- a piece laid after another is one with it
pub over_more : (xs ys : List ℕ) (at u p : ℕ) → over (piece (at + length xs) ys) (over (piece at xs) u p) p ≡ over (piece at (xs ++ ys)) u p
over_more xs ys at u p =
    let both = length-append xs ys in
    let last : ℕ = at + length (xs ++ ys) in
    elim (cases_lt p at) [
      | inl low ↦
          under (at + length xs) p (at + length xs + length ys) (get_or ys (p - (at + length xs)) 0) (over (piece at xs) u p) (omega arith)
          ∙ under at p (at + length xs) (get_or xs (p - at) 0) u low ∙ sym (under at p last (get_or (xs ++ ys) (p - at) 0) u low)
      | inr from ↦ elim (cases_lt p (at + length xs)) [
        | inl first ↦
            under (at + length xs) p (at + length xs + length ys) (get_or ys (p - (at + length xs)) 0) (over (piece at xs) u p) first
            ∙ inside at p (at + length xs) (get_or xs (p - at) 0) u from first
            ∙ sym (get_or_append_left xs ys 0 (p - at) (omega arith))
            ∙ sym (inside at p last (get_or (xs ++ ys) (p - at) 0) u from (omega (arith, both)))
        | inr second ↦ elim (cases_lt p (at + length xs + length ys)) [
          | inl in_it ↦
              let e : p - (at + length xs) ≡ p - at - length xs = omega arith in
              inside (at + length xs) p (at + length xs + length ys) (get_or ys (p - (at + length xs)) 0) (over (piece at xs) u p) second in_it
              ∙ ap (λ k. get_or ys k 0) e ∙ sym (get_or-append_right xs ys (p - at) 0 (omega arith))
              ∙ sym (inside at p last (get_or (xs ++ ys) (p - at) 0) u from (omega (arith, both)))
          | inr after ↦
              past (at + length xs) p (at + length xs + length ys) (get_or ys (p - (at + length xs)) 0) (over (piece at xs) u p) after
              ∙ past at p (at + length xs) (get_or xs (p - at) 0) u second
              ∙ sym (past at p last (get_or (xs ++ ys) (p - at) 0) u (omega (arith, both)))
        ]
      ]
    ]

-- before its end the first part of a piece is the whole
pub over_first : (xs ys : List ℕ) (at u p : ℕ) → p < at + length xs → over (piece at xs) u p ≡ over (piece at (xs ++ ys)) u p
over_first xs ys at u p lt = sym (under (at + length xs) p (at + length xs + length ys) (get_or ys (p - (at + length xs)) 0) (over (piece at xs) u p) lt) ∙ over_more xs ys at u p

-- the bytes before cut k are laid over the block
pub record IsFilled (cuts : List HeldCut) (raw first block : List ℕ) (from at k old new : ℕ) : Type 0 where
  pub split : Split (cut_views cuts) raw k
  pub old_is : old ≡ old_before (cut_views cuts) k
  pub new_is : new ≡ new_before (cut_views cuts) k
  pub within : k ≤ length cuts
  pub same : length block ≡ length first
  pub shown : (i : ℕ) → i < length first → slice_index block i ≡ over (piece at split.pre) (slice_index first i) (from + i)

-- what a turn of the loop rests on
pub record IsTurn (cuts : List HeldCut) (raw : List ℕ) (k old new : ℕ) : Type 0 where
  pub order : old ≤ (get_or cuts k no_held).at
  pub lies : (get_or cuts k no_held).at + (get_or cuts k no_held).whole ≤ length raw
  pub most : (get_or cuts k no_held).kept ≤ (get_or cuts k no_held).whole
  pub place : (get_or cuts k no_held).new_at ≡ new + ((get_or cuts k no_held).at - old)
  pub low : new ≤ old

pub turn : (cuts : List HeldCut) (raw first block : List ℕ) (from at k old new : ℕ) → AreCuts cuts → AreIn (length raw) (cut_views cuts) → k < length cuts →
    IsFilled cuts raw first block from at k old new → IsTurn cuts raw k old new
turn cuts raw first block from at k old new are lie lt filled =
    let views = cut_views cuts in
    let lt2 : k < length views = omega (arith, length-map cuts cut_view) in
    let cut = cut_is cuts k are lt in
    let a = cut.at in
    let w = cut.whole in
    let m = cut.most in
    let n = cut.new in
    let both = at_cut views k are.apart lt2 in
    let low = both.0 in
    let at_is = both.1 in
    let own_new = ap (new_offset views) a in
    let o = filled.old_is in
    let e = filled.new_is in
    let less = filled.split.most in
    let in_raw = lie k no_cut lt2 in
    record {
      order = omega (arith, low, a, o);
      lies = omega (arith, in_raw, a, w);
      most = m;
      place = omega (arith, n, own_new, at_is, a, o, e);
      low = omega (arith, o, e, less);
    }

-- where the loop begins: what stands before the block is no part of it
pub start : (cuts : List HeldCut) (raw first : List ℕ) (from at k old new : ℕ) → AreCuts cuts → AreIn (length raw) (cut_views cuts) → k ≤ length cuts →
    ((d : HeldCut) → 0 < k → (get_or cuts k d).new_at ≤ from - at) → (0 < k → k < length cuts) →
    old ≡ old_before (cut_views cuts) k → new ≡ new_before (cut_views cuts) k → IsFilled cuts raw first first from at k old new
start cuts raw first from at k old new are lie le before some old_is new_is =
    let views = cut_views cuts in
    let s = split views raw k are.apart lie (omega (arith, length-map cuts cut_view)) in
    let size = s.size in
    let short : length s.pre ≤ from - at = elim (cases_lt 0 k) [
      | inl pos ↦
          let lt = some pos in
          let lt2 : k < length views = omega (arith, length-map cuts cut_view) in
          let cut = cut_is cuts k are lt in
          let n = cut.new in
          let at_is = (at_cut views k are.apart lt2).1 in
          let own_new = ap (new_offset views) cut.at in
          let high = before no_held pos in
          omega (arith, n, at_is, own_new, high, size)
      | inr none ↦
          let zero_is : k ≡ 0 = omega arith in
          let z : new_before views k ≡ 0 = ap (new_before views) zero_is in
          omega (arith, size, z)
    ] in
    record {
      split = s;
      old_is = old_is;
      new_is = new_is;
      within = le;
      same = refl;
      shown = λ i lt. sym (elim (cases_lt (from + i) at) [
        | inl low ↦ under at (from + i) (at + length s.pre) (get_or s.pre (from + i - at) 0) (slice_index first i) low
        | inr from_at ↦ outside s.pre at (slice_index first i) (from + i) (omega (arith, short))
      ]);
    }

-- a turn: the bytes up to a cut, and what it keeps
pub next : (cuts : List HeldCut) (raw first block one two : List ℕ) (from at k old new : ℕ) → AreCuts cuts → AreIn (length raw) (cut_views cuts) → k < length cuts →
    IsFilled cuts raw first block from at k old new →
    ((i : ℕ) → i < length block → slice_index one i ≡ over (piece (at + new) (take ((get_or cuts k no_held).at - old) (drop old raw))) (slice_index block i) (from + i)) →
    length one ≡ length block →
    ((i : ℕ) → i < length one → slice_index two i ≡ over (piece (at + (get_or cuts k no_held).new_at) (kept_bytes (cut_view (get_or cuts k no_held)) raw)) (slice_index one i) (from + i)) →
    length two ≡ length one →
    IsFilled cuts raw first two from at (k + 1) ((get_or cuts k no_held).at + (get_or cuts k no_held).whole) ((get_or cuts k no_held).new_at + (get_or cuts k no_held).kept)
next cuts raw first block one two from at k old new are lie lt filled parts size_one keeps size_two =
    let views = cut_views cuts in
    let lt2 : k < length views = omega (arith, length-map cuts cut_view) in
    let t = turn cuts raw first block from at k old new are lie lt filled in
    let cut = cut_is cuts k are lt in
    let c : HeldCut = get_or cuts k no_held in
    let s = filled.split in
    let more = split_next views raw k are.apart lie lt2 s in
    let part = take (c.at - old) (drop old raw) in
    let kept = kept_bytes (cut_view c) raw in
    let view_is : get_or views k no_cut ≡ cut_view c = viewed cuts k lt in
    let Q : Cut → List ℕ = λ v. s.pre ++ (take (v.at - old_before views k) (drop (old_before views k) raw) ++ kept_bytes v raw) in
    let pre_is : more.0.pre ≡ s.pre ++ (part ++ kept) =
    more.1 ∙ ap Q view_is ∙ ap (λ o. s.pre ++ (take (c.at - o) (drop o raw) ++ kept)) (sym filled.old_is) in
    let new_size : length s.pre ≡ new = s.size ∙ sym filled.new_is in
    let part_len : length part ≡ c.at - old = part_size old c.at raw t.order (omega (arith, t.lies)) in
    let e : suc k ≡ k + 1 = omega arith in
    let old_next : old_before views (k + 1) ≡ c.at + c.whole =
    ap (old_before views) (sym e) ∙ ap (λ (v : Cut). v.at + v.whole) view_is in
    let new_next : new_before views (k + 1) ≡ c.new_at + c.kept =
    ap (new_before views) (sym e) ∙ ap (λ (v : Cut). new_offset views v.at + v.kept) view_is ∙ ap (λ n. n + c.kept) (sym cut.new) in
    record {
      split = more.0;
      old_is = sym old_next;
      new_is = sym new_next;
      within = omega arith;
      same = size_two ∙ size_one ∙ filled.same;
      shown = λ i less.
          let u : ℕ = slice_index first i in
          let p : ℕ = from + i in
          let in_block : i < length block = omega (arith, filled.same) in
          let in_one : i < length one = omega (arith, size_one) in
          let at_part : at + new ≡ at + length s.pre = ap (λ n. at + n) (sym new_size) in
          let at_kept : at + c.new_at ≡ at + length (s.pre ++ part) = omega (arith, length-append s.pre part, new_size, part_len, t.place) in
          keeps i in_one
          ∙ ap (λ x. over (piece (at + c.new_at) kept) x p) (parts i in_block)
          ∙ ap (λ x. over (piece (at + c.new_at) kept) (over (piece (at + new) part) x p) p) (filled.shown i less)
          ∙ ap (λ a. over (piece (at + c.new_at) kept) (over (piece a part) (over (piece at s.pre) u p) p) p) at_part
          ∙ ap (λ x. over (piece (at + c.new_at) kept) x p) (over_more s.pre part at u p)
          ∙ ap (λ a. over (piece a kept) (over (piece at (s.pre ++ part)) u p) p) at_kept
          ∙ over_more (s.pre ++ part) kept at u p
          ∙ ap (λ l. over (piece at l) u p) (append_assoc s.pre part kept ∙ sym pre_is);
    }

-- a block that ends before what is left of them
pub ended : (cuts : List HeldCut) (raw first block : List ℕ) (from at k old new i : ℕ) → IsFilled cuts raw first block from at k old new →
    from + length first ≤ at + new → i < length first →
    slice_index block i ≡ over (piece at (staying (cut_views cuts) 0 raw)) (slice_index first i) (from + i)
ended cuts raw first block from at k old new i filled end less =
    let s = filled.split in
    let size = s.size in
    let e = filled.new_is in
    filled.shown i less ∙ over_first s.pre (staying (drop k (cut_views cuts)) (old_before (cut_views cuts) k) raw) at (slice_index first i) (from + i) (omega (arith, size, e))
    ∙ ap (λ l. over (piece at l) (slice_index first i) (from + i)) (sym s.whole)

-- all cuts are done, and the rest is laid after them
pub finished : (cuts : List HeldCut) (raw first block last : List ℕ) (from at k old new i : ℕ) → IsFilled cuts raw first block from at k old new → length cuts ≤ k →
    ((j : ℕ) → j < length block → slice_index last j ≡ over (piece (at + new) (take (length raw - old) (drop old raw))) (slice_index block j) (from + j)) → i < length first →
    slice_index last i ≡ over (piece at (staying (cut_views cuts) 0 raw)) (slice_index first i) (from + i)
finished cuts raw first block last from at k old new i filled all fills less =
    let s = filled.split in
    let views = cut_views cuts in
    let size = s.size in
    let e = filled.new_is in
    let o = filled.old_is in
    let u : ℕ = slice_index first i in
    let p : ℕ = from + i in
    let at_is : at + new ≡ at + length s.pre = omega (arith, size, e) in
    let rest : staying (drop k views) (old_before views k) raw ≡ drop old raw =
    ap (λ cs. staying cs (old_before views k) raw) (drop_all k views (omega (arith, length-map cuts cut_view))) ∙ ap (λ n. drop n raw) (sym o) in
    let whole : take (length raw - old) (drop old raw) ≡ drop old raw = take_all (length raw - old) (drop old raw) (omega (arith, length-drop old raw)) in
    fills i (omega (arith, filled.same))
    ∙ ap (λ l. over (piece (at + new) l) (slice_index block i) p) whole
    ∙ ap (λ x. over (piece (at + new) (drop old raw)) x p) (filled.shown i less)
    ∙ ap (λ a. over (piece a (drop old raw)) (over (piece at s.pre) u p) p) at_is
    ∙ over_more s.pre (drop old raw) at u p
    ∙ ap (λ l. over (piece at l) u p) (ap (λ l. s.pre ++ l) (sym rest) ∙ sym s.whole)
