-- What is known of the sections that are merged before the pools are filled.
use Rattle.std.specs.Prelude.{◌≡◌, ℕ, ◌<◌, ◌==◌, ◌^◌, Bool, List, length, map, slice_index_or, All}
use Rattle.std.specs.List.{filter, range_with_len}
use Rattle.std.specs.Global.{Vec}
use Rattle.lk_tables.specs.Files.{File}
use Rattle.lk_tables.specs.TablesView.{files_of}
use Rattle.link_sections.specs.Merging.{Site, no_site, pool_number, pool_sites, site_key, site_pieces, sites}
use Rattle.str_merge.specs.declared.pooling.Work.{Work}
use Rattle.str_merge.specs.Keys.{key_views}
use Rattle.str_merge.specs.Placing.{chosen}
use Rattle.str_merge.specs.Sites.{IsIn, cut_views, site_views}
use Rattle.str_merge.specs.Small.{AreSmall, IsNear}

module _ (files : List File) (kept : List Bool) where
  abbrev pub nth_site : (i : ℕ) → Site
  nth_site i = slice_index_or (sites files kept) i no_site

  -- the sections of a pool, by their places in the list
  unfoldable pub members_at : (pool : ℕ) → List ℕ
  members_at pool = filter (λ i. pool_number files kept (nth_site i) == pool) (range_with_len 0 (length (sites files kept)))

pub record IsWork (w : Work) : Type 0 where
  pub sites_are : site_views w.sites.now ≡ sites (files_of w.tables.now) w.kept.now
  pub cuts_in : All (IsIn (files_of w.tables.now)) w.cuts.now
  pub cuts_near : All IsNear w.cuts.now
  pub cuts_are : cut_views w.cuts.now ≡ map (site_pieces (files_of w.tables.now)) (sites (files_of w.tables.now) w.kept.now)
  pub keys_are : key_views w.keys.now ≡ map (site_key (files_of w.tables.now)) (sites (files_of w.tables.now) w.kept.now)
  pub firsts_within : All (λ i. i < length (sites (files_of w.tables.now) w.kept.now)) w.firsts.now
  pub firsts_are : chosen (sites (files_of w.tables.now) w.kept.now) no_site w.firsts.now ≡ pool_sites (files_of w.tables.now) w.kept.now
  pub few : length w.firsts.now < 2 ^ 31
  pub small : AreSmall (files_of w.tables.now) w.kept.now
  pub member_count : length w.members.now ≡ length w.firsts.now
  pub members_are : (p : ℕ) (d : Vec ℕ) → p < length w.firsts.now → (slice_index_or w.members.now p d).items ≡ members_at (files_of w.tables.now) w.kept.now p
