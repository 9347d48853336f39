-- How many sections are merged of the files and sections so far.
use Rattle.std.proofs.Common.{◌≡◌, ℕ, ◌+◌, Bool, true, false, None, List, [], ◌∷◌, length, refl, ap, ◌∙◌, arith}
use Rattle.std.specs.Prelude.{flat_map, if◌then◌else◌, slice_get}
use Rattle.std.specs.List.{range_with_len}
use Rattle.lk_base.proofs.Loops.{count_step}
use Rattle.lk_tables.specs.Files.{File, file_at, section_count}
use Rattle.link_sections.specs.declared.pieces.Merged.{Merged}
use Rattle.link_sections.specs.Merging.{is_merge, site, site_at, sites_in}
use Rattle.str_merge.specs.Spreading.{answer_in, sites_before, sites_upto}

one_or_none : {X : Type 0} (b : Bool) (x : X) → length (if b then x ∷ [] else []) ≡ (if b then 1 else 0)
one_or_none true x = refl
one_or_none false x = refl

pub before_none : (files : List File) (kept : List Bool) → sites_before files kept 0 ≡ 0
unfolding sites_before
before_none files kept = refl

pub upto_none : (files : List File) (kept : List Bool) (f : ℕ) → sites_upto files kept f 0 ≡ sites_before files kept f
unfolding sites_upto
upto_none files kept f = omega arith

pub upto_more : (files : List File) (kept : List Bool) (f k : ℕ) → sites_upto files kept f (k + 1) ≡ sites_upto files kept f k + (if is_merge files kept f k then 1 else 0)
unfolding sites_upto site_at
upto_more files kept f k =
    let own = one_or_none (is_merge files kept f k) (site files kept f k) in
    let step = count_step (site_at files kept f) k in
    omega (arith, own, step)

pub upto_all : (files : List File) (kept : List Bool) (f n : ℕ) → n ≡ section_count (file_at files f) → sites_upto files kept f n ≡ sites_before files kept (f + 1)
unfolding sites_upto sites_before sites_in
upto_all files kept f n e =
    let step = count_step (sites_in files kept) f in
    let same = ap (λ m. length (flat_map (site_at files kept f) (range_with_len 0 m))) e in
    omega (arith, step, same)

pub answer_is : (files : List File) (kept : List Bool) (answers : List Merged) (f k next : ℕ) (merges : Bool) → merges ≡ is_merge files kept f k → next ≡ sites_upto files kept f k →
    (if merges then slice_get answers next else None) ≡ answer_in files kept answers f k
unfolding answer_in
answer_is files kept answers f k next merges is at =
    ap (λ b. if b then slice_get answers next else None) is ∙ ap (λ n. if is_merge files kept f k then slice_get answers n else None) at
