-- What is known of each section and of each pool before the pools are filled.
use Rattle.std.proofs.Common.{◌≡◌, ℕ, ◌<◌, ◌≤◌, ◌^◌, List, [], length, get_or, sym, ap, ◌∙◌, subst, arith}
use Rattle.std.specs.Prelude.{All}
use Rattle.std.proofs.lemmas.List.{get_or-map, length-map}
use Rattle.lk_tables.specs.TablesView.{files_of}
use Rattle.link_sections.specs.Merging.{Site, no_site, pool_site, site_key, site_pieces, sites}
use Rattle.str_merge.specs.declared.pooling.Work.{Work}
use Rattle.str_merge.specs.Keys.{key_view}
use Rattle.str_merge.specs.Sites.{cut_views, site_view}
use Rattle.str_merge.specs.Works.{IsWork, members_at, nth_site}
use Rattle.str_merge.proofs.KeyMaps.{no_key}
use Rattle.str_merge.proofs.PoolFacts.{members_within}
use Rattle.str_merge.proofs.SiteFacts.{no_held, site_read}

-- the first section of a pool
pub first_is : (w : Work) (pool : ℕ) → IsWork w → pool < length w.firsts.now →
    nth_site (files_of w.tables.now) w.kept.now (get_or w.firsts.now pool 0) ≡ pool_site (files_of w.tables.now) w.kept.now pool
first_is w pool is lt =
    let files = files_of w.tables.now in
    sym (get_or-map (nth_site files w.kept.now) w.firsts.now pool 0 no_site lt) ∙ ap (λ l. get_or l pool no_site) is.firsts_are

pub key_at : (w : Work) (pool : ℕ) → IsWork w → pool < length w.firsts.now →
    key_view (get_or w.keys.now (get_or w.firsts.now pool 0) no_key) ≡ site_key (files_of w.tables.now) (pool_site (files_of w.tables.now) w.kept.now pool)
key_at w pool is lt =
    let files = files_of w.tables.now in
    let all = sites files w.kept.now in
    let at = get_or w.firsts.now pool 0 in
    let within : at < length all = is.firsts_within pool 0 lt in
    let count : length w.keys.now ≡ length all = sym (length-map w.keys.now key_view) ∙ ap length is.keys_are ∙ length-map all (site_key files) in
    sym (get_or-map key_view w.keys.now at no_key (key_view no_key) (omega arith))
    ∙ ap (λ l. get_or l at (key_view no_key)) is.keys_are
    ∙ get_or-map (site_key files) all at no_site (key_view no_key) within
    ∙ ap (site_key files) (first_is w pool is lt)

pub count_sites : (w : Work) → IsWork w → length w.sites.now ≡ length (sites (files_of w.tables.now) w.kept.now)
count_sites w is = sym (length-map w.sites.now site_view) ∙ ap length is.sites_are

-- the section at a place of the list
pub site_of : (w : Work) (i : ℕ) → IsWork w → i < length w.sites.now → site_view (get_or w.sites.now i no_held) ≡ nth_site (files_of w.tables.now) w.kept.now i
site_of w i is lt = sym (site_read w.sites.now i lt) ∙ ap (λ l. get_or l i no_site) is.sites_are

-- the pieces of the section at a place of the list
pub pieces_at : (w : Work) (i : ℕ) → IsWork w → i < length (sites (files_of w.tables.now) w.kept.now) →
    get_or (cut_views w.cuts.now) i [] ≡ site_pieces (files_of w.tables.now) (nth_site (files_of w.tables.now) w.kept.now i)
pieces_at w i is lt =
    let files = files_of w.tables.now in
    ap (λ l. get_or l i []) is.cuts_are ∙ get_or-map (site_pieces files) (sites files w.kept.now) i no_site [] lt

-- its alignment is not too great
pub align_most : (w : Work) (pool : ℕ) → IsWork w → pool < length w.firsts.now → (site_key (files_of w.tables.now) (pool_site (files_of w.tables.now) w.kept.now pool)).align ≤ 2 ^ 20
align_most w pool is lt =
    let files = files_of w.tables.now in
    let P : Site → Type 0 = λ s. (site_key files s).align ≤ 2 ^ 20 in
    subst P (first_is w pool is lt) (is.small.aligned (get_or w.firsts.now pool 0) no_site (is.firsts_within pool 0 lt))

-- the sections of a pool are among them
pub members_below : (w : Work) (pool : ℕ) (members : List ℕ) (n : ℕ) → IsWork w → members ≡ members_at (files_of w.tables.now) w.kept.now pool → n ≡ length w.sites.now →
    All (λ m. m < n) members
members_below w pool members n is own count =
    let files = files_of w.tables.now in
    let P : ℕ → Type 0 = λ k. All (λ m. m < k) members in
    let Q : List ℕ → Type 0 = All (λ m. m < length (sites files w.kept.now)) in
    subst P (sym (count ∙ count_sites w is)) (subst Q (sym own) (members_within files w.kept.now pool))
