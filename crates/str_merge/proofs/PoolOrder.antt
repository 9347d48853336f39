-- The pools of the sections that are merged, by the numbers of their keys.
use Rattle.std.proofs.Common.{◌≡◌, ℕ, zero, suc, ◌+◌, ◌<◌, ◌^◌, ◌==◌, Bool, not, cond, Option, Some, None, List, [], ◌∷◌, length, map, get_or, refl, sym, ap, ◌∙◌, subst, arith, inl, inr}
use Rattle.std.specs.Prelude.{All, if◌then◌else◌, option_map, slice_get}
use Rattle.std.specs.List.{filter, range_with_len, position_or_len}
use Rattle.std.specs.List.Sorted.{IsStrictlyIncreasing}
use Rattle.std.specs.Global.{Vec}
use Rattle.std.proofs.lemmas.Bool.{cases_Bool}
use Rattle.std.proofs.lemmas.List.{get_or-map, length-map, map-id}
use Rattle.std.proofs.lemmas.Simd.{map-map}
use Rattle.lk_base.proofs.Loops.{flat_same, map_flat}
use Rattle.lk_base.proofs.Ranges.{filter_same}
use Rattle.lk_tables.specs.Files.{File, first_section, by_section, file_at, section_count}
use Rattle.lk_tables.specs.TablesView.{files_of}
use Rattle.lk_tables.proofs.ByNumber.{by_section_same}
use Rattle.link_sections.specs.declared.pieces.Piece.{Piece}
use Rattle.link_sections.specs.declared.pools.Pool.{Pool}
use Rattle.link_sections.specs.Distinct.{distinct, first_same}
use Rattle.link_sections.specs.MergeSections.{PoolKey, same_key}
use Rattle.link_sections.specs.Merging.{Site, is_merge, merged_in, merged_of, no_site, pool_number, pool_of, pool_site, pool_sites, pools_of, same_pool, site, site_key, site_pieces, sites}
use Rattle.link_sections.specs.PoolViews.{Merged, PoolView, merged_by, merged_view, pool_views}
use Rattle.link_sections.specs.Pools.{AreRising}
use Rattle.str_merge.specs.declared.filling.Filled.{Filled}
use Rattle.str_merge.specs.declared.pooling.Work.{Work}
use Rattle.str_merge.specs.Filling.{IsFilledTo, no_merged}
use Rattle.str_merge.specs.Keys.{HeldKey, eq_keys, key_numbers, key_view, key_views}
use Rattle.str_merge.specs.Members.{AreMembers, having}
use Rattle.str_merge.specs.Orders.{IsFirstOf, firsts, ranks}
use Rattle.str_merge.specs.Placing.{chosen}
use Rattle.str_merge.specs.Sites.{IsIn, cut_views, site_views}
use Rattle.str_merge.specs.Small.{AreSmall, IsNear}
use Rattle.str_merge.specs.Spreading.{answer_in, sites_upto, spread}
use Rattle.str_merge.specs.Works.{IsWork, members_at, nth_site}
use Rattle.str_merge.proofs.KeyMaps.{eq_keys_is, same_by}
use Rattle.str_merge.proofs.ListSteps.{by_index}
use Rattle.str_merge.proofs.Ranking.{IsSame, distinct_is, first_alike, firsts_within, numbers, numbers_first, rank_is, rank_within, ranks_are}
use Rattle.str_merge.proofs.RankSteps.{owns_few}
use Rattle.str_merge.proofs.SiteRows.{filtered_rise, increasing, sites_rise, site_found, Rise}
use Rattle.str_merge.proofs.WorkFacts.{count_sites}

pub same_pool_is : (files : List File) → IsSame (same_pool files)
unfolding same_pool
same_pool_is files = same_by (site_key files)

-- the first that passes, through a view
position_map : {X Y : Type 0} (p : Y → Bool) (g : X → Y) (xs : List X) → position_or_len (λ x. p (g x)) xs ≡ position_or_len p (map g xs)
position_map p g [] = refl
position_map p g (x ∷ xs) = ap (λ n. cond (not (p (g x))) (1 + n) 0) (position_map p g xs)

map_by : {X Y : Type 0} (f g : X → Y) (xs : List X) → ((x : X) → f x ≡ g x) → map f xs ≡ map g xs
map_by f g [] each = refl
map_by f g (x ∷ xs) each = ap (λ y. y ∷ map f xs) (each x) ∙ ap (λ l. g x ∷ l) (map_by f g xs each)

-- the numbers of the keys are those of the sections
pub keys_numbered : (files : List File) (all : List Site) (keys : List HeldKey) → key_views keys ≡ map (site_key files) all →
    key_numbers keys ≡ numbers (same_pool files) no_site all (same_pool_is files)
unfolding key_numbers same_pool
keys_numbered files all keys is =
    let G : PoolKey → ℕ = λ v. position_or_len (λ u. same_key u v) (key_views keys) in
    let H : PoolKey → ℕ = λ v. position_or_len (λ t. same_key (site_key files t) v) all in
    map_by (λ k. position_or_len (λ known. eq_keys known k) keys) (λ k. G (key_view k)) keys
    (λ k. first_alike (λ known. eq_keys known k) (λ known. same_key (key_view known) (key_view k)) keys (λ known. eq_keys_is known k) ∙ position_map (λ u. same_key u (key_view k)) key_view keys)
    ∙ sym (map-map G key_view keys)
    ∙ ap (map G) is
    ∙ map_by G H (map (site_key files) all)
    (λ v. ap (position_or_len (λ u. same_key u v)) is ∙ sym (position_map (λ u. same_key u v) (site_key files) all))
    ∙ map-map H (site_key files) all

module _ (files : List File) (kept : List Bool) where
  abbrev pub site_numbers : List ℕ
  site_numbers = numbers (same_pool files) no_site (sites files kept) (same_pool_is files)

  pub site_numbers_first : length (sites files kept) < 2 ^ 31 → IsFirstOf site_numbers
  site_numbers_first few = numbers_first (same_pool files) no_site (sites files kept) (same_pool_is files) few

  pub site_firsts : chosen (sites files kept) no_site (firsts site_numbers) ≡ pool_sites files kept
  unfolding pool_sites
  site_firsts = sym (distinct_is (same_pool files) no_site (sites files kept) (same_pool_is files))

  pub site_firsts_within : All (λ i. i < length (sites files kept)) (firsts site_numbers)
  site_firsts_within = firsts_within (same_pool files) no_site (sites files kept) (same_pool_is files)

  pub site_ranks : map (pool_number files kept) (sites files kept) ≡ ranks site_numbers
  unfolding pool_number pool_sites
  site_ranks = ranks_are (same_pool files) no_site (sites files kept) (same_pool_is files)

  pub pool_within : (i : ℕ) → i < length (sites files kept) → pool_number files kept (nth_site files kept i) < length (firsts site_numbers)
  unfolding pool_number pool_sites
  pool_within i lt =
      let at = rank_is (same_pool files) no_site (sites files kept) (same_pool_is files) i lt in
      let low = rank_within (same_pool files) no_site (sites files kept) (same_pool_is files) i lt in
      omega (arith, at, low)

  pub count_firsts : length (firsts site_numbers) ≡ length (pool_sites files kept)
  count_firsts = sym (length-map (firsts site_numbers) (nth_site files kept)) ∙ ap length site_firsts

  pub few_firsts : length (sites files kept) < 2 ^ 31 → length (firsts site_numbers) < 2 ^ 31
  unfolding firsts
  few_firsts few =
      let most = owns_few site_numbers (length site_numbers) in
      omega (arith, most, length-map (sites files kept) (first_same (same_pool files) no_site (sites files kept)))

  pub ranks_within : All (λ n. n < length (firsts site_numbers)) (ranks site_numbers)
  ranks_within =
      let P : List ℕ → Type 0 = All (λ n. n < length (firsts site_numbers)) in
      subst P site_ranks (λ i d lt.
      let less : i < length (sites files kept) = omega (arith, length-map (sites files kept) (pool_number files kept)) in
      let low = pool_within i less in
      omega (arith, low, get_or-map (pool_number files kept) (sites files kept) i no_site d less))

  pub count_ranks : length (ranks site_numbers) ≡ length (sites files kept)
  count_ranks = sym (ap length site_ranks) ∙ length-map (sites files kept) (pool_number files kept)

  -- the sections of each pool
  pub site_members : (count p : ℕ) (d : Vec ℕ) (lists : List (Vec ℕ)) → AreMembers (ranks site_numbers) count (length (ranks site_numbers)) lists → p < count →
      (get_or lists p d).items ≡ members_at files kept p
  unfolding having members_at
  site_members count p d lists are lt =
      let all = sites files kept in
      are.each p d lt
      ∙ ap (λ n. filter (λ i. get_or (ranks site_numbers) i 0 == p) (range_with_len 0 n)) count_ranks
      ∙ filter_same (λ i. get_or (ranks site_numbers) i 0 == p) (λ i. pool_number files kept (nth_site files kept i) == p) 0 (length all)
      (λ i low less. ap (λ n. n == p) (ap (λ l. get_or l i 0) (sym site_ranks) ∙ get_or-map (pool_number files kept) all i no_site 0 (omega arith)))

  -- the first sections of pools stand in order
  pub pools_rise : IsStrictlyIncreasing (map (λ (s : Site). s.section) (pool_sites files kept))
  unfolding pool_sites distinct
  pools_rise =
      let all = sites files kept in
      let nth = nth_site files kept in
      let low = first_section files 0 in
      let high = first_section files (0 + length files) in
      let whole : all ≡ map nth (range_with_len 0 (length all)) = sym (by_index (λ (s : Site). s) all no_site (length all) refl ∙ map-id all) in
      let P : List Site → Type 0 = Rise low high in
      increasing low high (map nth (filter (λ i. first_same (same_pool files) no_site all (nth i) == i) (range_with_len 0 (length all))))
      (filtered_rise nth (λ i. first_same (same_pool files) no_site all (nth i) == i) low high (length all) (subst P whole (sites_rise files kept)))

  pub pool_section : (p : ℕ) → (pool_of files kept p).first ≡ (pool_site files kept p).section
  unfolding pool_of
  pool_section p = refl

pub views_first : (files : List File) (pools : List Pool) (rows : List (List Piece)) → length pools ≡ length rows →
    map (λ (p : Pool). p.first) pools ≡ map (λ (v : PoolView). v.first) (pool_views files pools rows)
views_first files [] [] same = refl
views_first files [] (r ∷ rows) same = absurd (omega (arith, same))
views_first files (p ∷ pools) [] same = absurd (omega (arith, same))
views_first files (p ∷ pools) (r ∷ rows) same = ap (λ l. p.first ∷ l) (views_first files pools rows (omega (arith, same)))

pub filled_rises : (w : Work) (filled : Filled) → IsWork w → IsFilledTo w (length w.firsts.now) filled → AreRising filled.pools.items
filled_rises w filled is held =
    let files = files_of w.tables.now in
    let kept = w.kept.now in
    let firsts_all = pool_sites files kept in
    let n = length w.firsts.now in
    let count : n ≡ length firsts_all = sym (length-map w.firsts.now (nth_site files kept)) ∙ ap length is.firsts_are in
    let sections : map (λ (p : Pool). p.first) filled.pools.items ≡ map (λ (s : Site). s.section) firsts_all =
    views_first files filled.pools.items filled.rows.pieces held.paired
    ∙ ap (map (λ (v : PoolView). v.first)) held.pools_are
    ∙ map-map (λ (v : PoolView). v.first) (pool_of files kept) (range_with_len 0 n)
    ∙ map_by (λ p. (pool_of files kept p).first) (λ p. (pool_site files kept p).section) (range_with_len 0 n) (pool_section files kept)
    ∙ by_index (λ (s : Site). s.section) firsts_all no_site n count in
    let P : List ℕ → Type 0 = IsStrictlyIncreasing in
    subst P (sym sections) (pools_rise files kept)

map_by_section : {X Y : Type 0} (g : X → Y) (files : List File) (give : ℕ → ℕ → X) → map g (by_section files give) ≡ by_section files (λ f k. g (give f k))
unfolding by_section
map_by_section g files give =
    map_flat g (λ f. map (give f) (range_with_len 0 (section_count (file_at files f)))) (range_with_len 0 (length files))
    ∙ flat_same (λ f. map g (map (give f) (range_with_len 0 (section_count (file_at files f))))) (λ f. map (λ k. g (give f k)) (range_with_len 0 (section_count (file_at files f)))) (range_with_len 0 (length files))
    (λ f. map-map g (give f) (range_with_len 0 (section_count (file_at files f))))

got : {X : Type 0} (xs : List X) (i : ℕ) (d : X) → i < length xs → slice_get xs i ≡ Some (get_or xs i d)
got [] i d lt = absurd (omega arith)
got (x ∷ xs) zero d lt = refl
got (x ∷ xs) (suc i) d lt = got xs i d (omega arith)

each_answer : (w : Work) (filled : Filled) (f k : ℕ) → IsWork w → IsFilledTo w (length w.firsts.now) filled → length w.firsts.now ≡ length (firsts (site_numbers (files_of w.tables.now) w.kept.now)) →
    f < length (files_of w.tables.now) → k < section_count (file_at (files_of w.tables.now) f) →
    option_map (merged_view filled.rows.parts) (answer_in (files_of w.tables.now) w.kept.now filled.answers.items f k) ≡ merged_in (files_of w.tables.now) w.kept.now f k
unfolding answer_in merged_in
each_answer w filled f k is held count less lt =
    let files = files_of w.tables.now in
    let kept = w.kept.now in
    let view = merged_view filled.rows.parts in
    let answers = filled.answers.items in
    let at = sites_upto files kept f k in
    elim (cases_Bool (is_merge files kept f k)) [
      | inl merges ↦
          let found = site_found files kept f k less lt merges in
          let here = found.0 in
          let within : at < length w.sites.now = omega (arith, here, count_sites w is) in
          let pool = pool_within files kept at here in
          let own = held.answered at within (omega (arith, pool, count)) in
          ap (λ b. option_map view (if b then slice_get answers at else None)) merges
          ∙ ap (option_map view) (got answers at no_merged (omega (arith, within, held.count)))
          ∙ ap (λ (m : Merged). Some m) (own.merged ∙ ap (merged_of files kept) found.1)
          ∙ ap (λ b. if b then Some (merged_of files kept (site files kept f k)) else None) (sym merges)
      | inr stays ↦
          ap (λ b. option_map view (if b then slice_get answers at else None)) stays
          ∙ ap (λ b. if b then Some (merged_of files kept (site files kept f k)) else None) (sym stays)
    ]

pub spread_is : (w : Work) (filled : Filled) → IsWork w → IsFilledTo w (length w.firsts.now) filled →
    merged_by filled.rows.parts (spread (files_of w.tables.now) w.kept.now filled.answers.items) ≡ by_section (files_of w.tables.now) (merged_in (files_of w.tables.now) w.kept.now)
unfolding merged_by spread
spread_is w filled is held =
    let files = files_of w.tables.now in
    let kept = w.kept.now in
    let count : length w.firsts.now ≡ length (firsts (site_numbers files kept)) =
    sym (length-map w.firsts.now (nth_site files kept)) ∙ ap length is.firsts_are ∙ sym (count_firsts files kept) in
    map_by_section (option_map (merged_view filled.rows.parts)) files (answer_in files kept filled.answers.items)
    ∙ by_section_same files (λ f k. option_map (merged_view filled.rows.parts) (answer_in files kept filled.answers.items f k)) (merged_in files kept)
    (λ f k less lt. each_answer w filled f k is held count less lt)

pub pools_are_of : (files : List File) (kept : List Bool) (pools : List PoolView) (merged : List (Option Merged)) (n : ℕ) → n ≡ length (pool_sites files kept) →
    pools ≡ map (pool_of files kept) (range_with_len 0 n) → merged ≡ by_section files (merged_in files kept) → record { pools = pools; merged = merged } ≡ pools_of files kept
unfolding pools_of
pools_are_of files kept pools merged n count first second =
    ap (λ l. record { pools = l; merged = merged }) (first ∙ ap (λ m. map (pool_of files kept) (range_with_len 0 m)) count)
    ∙ ap (λ l. record { pools = map (pool_of files kept) (range_with_len 0 (length (pool_sites files kept))); merged = l }) second

-- all that is known before the pools are filled
pub works : (w : Work) (ns rs : List ℕ) (count : ℕ) → site_views w.sites.now ≡ sites (files_of w.tables.now) w.kept.now →
    All (IsIn (files_of w.tables.now)) w.cuts.now → All IsNear w.cuts.now → cut_views w.cuts.now ≡ map (site_pieces (files_of w.tables.now)) (sites (files_of w.tables.now) w.kept.now) →
    key_views w.keys.now ≡ map (site_key (files_of w.tables.now)) (sites (files_of w.tables.now) w.kept.now) →
    ns ≡ site_numbers (files_of w.tables.now) w.kept.now → w.firsts.now ≡ firsts ns → rs ≡ ranks ns → AreMembers rs count (length rs) w.members.now →
    count ≡ length w.firsts.now → AreSmall (files_of w.tables.now) w.kept.now → IsWork w
works w ns rs count sited stands near cut keyed numbered first ranked members counted small =
    let files = files_of w.tables.now in
    let kept = w.kept.now in
    let all = sites files kept in
    let firsts_are : w.firsts.now ≡ firsts (site_numbers files kept) = first ∙ ap firsts numbered in
    let P : List ℕ → Type 0 = All (λ i. i < length all) in
    let Q : List ℕ → Type 0 = λ l. AreMembers l count (length l) w.members.now in
    let are : Q (ranks (site_numbers files kept)) = subst Q (ranked ∙ ap ranks numbered) members in
    let most = few_firsts files kept small.sections in
    record {
      sites_are = sited;
      cuts_in = stands;
      cuts_near = near;
      cuts_are = cut;
      keys_are = keyed;
      firsts_within = subst P (sym firsts_are) (site_firsts_within files kept);
      firsts_are = ap (chosen all no_site) firsts_are ∙ site_firsts files kept;
      few = omega (arith, most, ap length firsts_are);
      small = small;
      member_count = members.count_is ∙ counted;
      members_are = λ p d lt. site_members files kept count p d w.members.now are (omega (arith, counted));
    }
