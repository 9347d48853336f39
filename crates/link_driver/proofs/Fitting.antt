-- A link whose leaders are kept sections that are their own leaders, and whose sections lose bytes only where they may, can be laid out.
use Rattle.std.proofs.Common.{◌≡◌, ℕ, ◌+◌, ◌<◌, Bool, true, List, length, map, filter, get_or, sym, ◌∙◌, subst, arith}
use Rattle.std.specs.List.{All, range_with_len}
use Rattle.std.proofs.lemmas.Bool.{and_parts}
use Rattle.std.proofs.lemmas.List.Elements.{All-filter, All-map}
use Rattle.std.proofs.lemmas.List.FromFn.{get_or-range_with_len, length-range_with_len}
use Rattle.output_sections.specs.Items.{HaveFirsts, IsStaying}
use Rattle.layout.specs.Layout.{FitSizes}
use Rattle.lk_tables.specs.Binding.{Bindings}
use Rattle.lk_tables.specs.Files.{File, file_at, section_count, section_no}
use Rattle.lk_tables.proofs.BoundHas.{each_flat, one_if}
use Rattle.link_sections.specs.Cuts.{Cut}
use Rattle.link_sections.specs.Distinct.{distinct, element, is_first}
use Rattle.link_sections.specs.Leaders.{is_kept}
use Rattle.link_sections.specs.MergeSections.{is_mergeable}
use Rattle.link_sections.specs.Merging.{Site, is_merge, no_site, pool_of, pool_site, pool_sites, pools_of, same_pool, site, site_at, sites, sites_in}
use Rattle.link_sections.specs.declared.pools.Pool.{Pool}
use Rattle.link_sections.specs.PoolViews.{PoolView, pool_head, pool_heads}
use Rattle.link_passes.specs.Tables.{MayStay}
use Rattle.relax.specs.Sizes.{FitSections}
use Rattle.link_passes.proofs.Leading.{kept_stays}

pub sizes_fit : (files : List File) (b : Bindings) (sizes : List (List Cut)) → FitSections files sizes → FitSizes files b sizes
sizes_fit files b sizes fit = record { count = fit.count; some = fit.some; within = fit.within b; clear = fit.clear }

-- sections that are merged are kept
sites_kept : (files : List File) (kept : List Bool) → All (λ (s : Site). is_kept kept s.section ≡ true) (sites files kept)
unfolding sites sites_in site_at is_merge
sites_kept files kept =
    let P : Site → Type 0 = λ s. is_kept kept s.section ≡ true in
    each_flat P (sites_in files kept) 0 (length files) (λ f lt.
    each_flat P (site_at files kept f) 0 (section_count (file_at files f)) (λ k below.
    one_if P (is_merge files kept f k) (site files kept f k)
    (λ on. (and_parts (is_kept kept (section_no files f k)) (is_mergeable (file_at files f) k) on).0)))

-- what holds of each number below another
below_each : (Q : ℕ → Type 0) (n : ℕ) → ((i : ℕ) → i < n → Q i) → All Q (range_with_len 0 n)
below_each Q n each = λ i d lt.
    let low : i < n = omega (arith, lt, length-range_with_len 0 n) in
    let plain : 0 + i ≡ i = omega arith in
    let is : get_or (range_with_len 0 n) i d ≡ i = get_or-range_with_len 0 n i d low ∙ plain in
    subst Q (sym is) (each i low)

-- what holds of each element holds of the distinct ones
each_distinct : {X : Type 0} (P : X → Type 0) (same : X → X → Bool) (d : X) (xs : List X) → All P xs → All P (distinct same d xs)
unfolding distinct
each_distinct P same d xs all =
    All-map P (element same d xs) (filter (is_first same d xs) (range_with_len 0 (length xs)))
    (All-filter (is_first same d xs) (λ i. P (element same d xs i)) (range_with_len 0 (length xs))
    (below_each (λ i. P (element same d xs i)) (length xs) (λ i lt. all i d lt)))

-- so is the first section of each pool
firsts_kept : (files : List File) (kept : List Bool) → All (λ (s : Site). is_kept kept s.section ≡ true) (pool_sites files kept)
unfolding pool_sites
firsts_kept files kept =
    let P : Site → Type 0 = λ s. is_kept kept s.section ≡ true in
    each_distinct P (same_pool files) no_site (sites files kept) (sites_kept files kept)

pub firsts_stay : (files : List File) (b : Bindings) (kept : List Bool) → MayStay files b kept → HaveFirsts files b (pool_heads (pools_of files kept))
unfolding pool_heads pools_of pool_of
firsts_stay files b kept stay =
    let P : Pool → Type 0 = λ p. IsStaying files b p.first in
    let Q : PoolView → Type 0 = λ v. IsStaying files b v.first in
    let count = length (pool_sites files kept) in
    All-map P pool_head (map (pool_of files kept) (range_with_len 0 count))
    (All-map Q (pool_of files kept) (range_with_len 0 count)
    (below_each (λ p. Q (pool_of files kept p)) count (λ p lt. kept_stays files b kept (pool_site files kept p).section stay (firsts_kept files kept p no_site lt))))
