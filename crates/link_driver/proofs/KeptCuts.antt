-- The bytes that a cut keeps, in what stays of its section; and that those of an alignment are nops.
use Rattle.std.proofs.Common.{◌≡◌, ℕ, ◌+◌, ◌-◌, ◌<◌, ◌≤◌, List, ◌++◌, length, take, drop, get_or, sym, ap, ◌∙◌, arith, append_assoc}
use Rattle.std.proofs.Math.Seq.{drop-append_seam, take-append_seam}
use Rattle.std.proofs.lemmas.List.{length-append}
use Rattle.std.proofs.lemmas.List.FromFn.{get_or-map-range_with_len, length-map-range_with_len}
use Rattle.link_sections.specs.Cuts.{AreApart, Cut, new_offset}
use Rattle.link_sections.proofs.CutSums.{by_cut}
use Rattle.rv_code.specs.Instructions.{AreNops, nop_byte}
use Rattle.rv_code.proofs.NopWords.{nops_are}
use Rattle.reloc_apply.specs.Staying.{kept_bytes, no_cut, nops, old_before, staying}
use Rattle.reloc_apply.proofs.StayingSizes.{AreIn, at_cut, part_size, split, split_next}

-- the part of a list between two others
part_of : (at n : ℕ) (before part rest : List ℕ) → length before ≡ at → length part ≡ n → take n (drop at (before ++ (part ++ rest))) ≡ part
part_of at n before part rest long wide =
    ap (λ k. take n (drop k (before ++ (part ++ rest)))) (sym long)
    ∙ ap (take n) (drop-append_seam before (part ++ rest))
    ∙ ap (λ k. take k (part ++ rest)) (sym wide)
    ∙ take-append_seam part rest

pub kept_at_cut : (cuts : List Cut) (raw : List ℕ) (i : ℕ) → AreApart cuts → AreIn (length raw) cuts → i < length cuts
    → length (kept_bytes (get_or cuts i no_cut) raw) ≡ (get_or cuts i no_cut).kept
    → take (get_or cuts i no_cut).kept (drop (new_offset cuts (get_or cuts i no_cut).at) (staying cuts 0 raw)) ≡ kept_bytes (get_or cuts i no_cut) raw
kept_at_cut cuts raw i apart lie lt size =
    let c : Cut = get_or cuts i no_cut in
    let old = old_before cuts i in
    let at = at_cut cuts i apart lt in
    let low = at.0 in
    let new = at.1 in
    let in_raw : c.at + c.whole ≤ length raw = lie i no_cut lt in
    let s = split cuts raw i apart lie (omega (arith, lt)) in
    let next = split_next cuts raw i apart lie lt s in
    let part : List ℕ = take (c.at - old) (drop old raw) in
    let kept : List ℕ = kept_bytes c raw in
    let tail : List ℕ = staying (drop (i + 1) cuts) (old_before cuts (i + 1)) raw in
    let long : length (s.pre ++ part) ≡ new_offset cuts c.at = length-append s.pre part ∙ omega (arith, s.size, part_size old c.at raw low (omega (arith, in_raw)), new) in
    let whole : staying cuts 0 raw ≡ (s.pre ++ part) ++ (kept ++ tail) =
    next.0.whole ∙ ap (λ l. l ++ tail) next.1 ∙ append_assoc s.pre (part ++ kept) tail ∙ ap (λ l. s.pre ++ l) (append_assoc part kept tail) ∙ sym (append_assoc s.pre part (kept ++ tail)) in
    ap (λ l. take c.kept (drop (new_offset cuts c.at) l)) whole ∙ part_of (new_offset cuts c.at) c.kept (s.pre ++ part) kept tail long size

-- what a cut keeps ends where its bytes end
pub kept_end : (cuts : List Cut) (i : ℕ) → AreApart cuts → i < length cuts → 0 < (get_or cuts i no_cut).whole
    → new_offset cuts (get_or cuts i no_cut).at + (get_or cuts i no_cut).kept ≤ new_offset cuts ((get_or cuts i no_cut).at + (get_or cuts i no_cut).whole)
kept_end cuts i apart lt some =
    let c : Cut = get_or cuts i no_cut in
    let most : c.kept ≤ c.whole = apart.kept i no_cut lt in
    let both = by_cut cuts i (c.at + c.whole) no_cut apart lt (omega (arith, some)) (λ more. apart.order i no_cut more) in
    let sum = both.0 in
    omega (arith, sum, most)

-- so many bytes of nops
pub are_nops : (count : ℕ) → AreNops (nops count)
are_nops count =
    nops_are count (nops count) (length-map-range_with_len (nop_byte count) 0 count) (λ k lt. get_or-map-range_with_len (nop_byte count) 0 count k k 0 lt (omega arith))
