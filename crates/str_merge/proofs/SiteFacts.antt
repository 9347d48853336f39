-- Facts of the sections that are merged.
use Rattle.std.proofs.Common.{◌≡◌, ℕ, ◌<◌, Bool, List, length, map, get_or, sym, ap, ◌∙◌, subst, arith}
use Rattle.std.specs.Prelude.{All}
use Rattle.std.specs.List.{range_with_len}
use Rattle.std.proofs.lemmas.List.{get_or-map, length-map}
use Rattle.std.proofs.lemmas.Simd.{map-map}
use Rattle.lk_tables.specs.Files.{File}
use Rattle.link_sections.specs.Merging.{Site, no_site, sites}
use Rattle.str_merge.specs.declared.sites.Site.{Site as HeldSite}
use Rattle.str_merge.specs.Sites.{site_view, site_views}
use Rattle.str_merge.proofs.ListSteps.{by_index}
use Rattle.str_merge.proofs.SiteRows.{sites_of_files}

abbrev pub no_held : HeldSite
no_held = record { section = 0; file = 0; index = 0 }

pub sites_by_index : {Y : Type 0} (f : Site → Y) (held : List HeldSite) (n : ℕ) → n ≡ length held → map (λ i. f (site_view (get_or held i no_held))) (range_with_len 0 n) ≡ map f (site_views held)
sites_by_index f held n e = by_index (λ (s : HeldSite). f (site_view s)) held no_held n e ∙ sym (map-map f site_view held)

pub site_read : (held : List HeldSite) (i : ℕ) → i < length held → get_or (site_views held) i no_site ≡ site_view (get_or held i no_held)
site_read held i lt = get_or-map site_view held i no_held no_site lt

-- what holds of each section holds of each as it is held
pub held_all : (P : Site → Type 0) (all : List Site) (held : List HeldSite) → site_views held ≡ all → All P all → All (λ (s : HeldSite). P (site_view s)) held
held_all P all held is each = λ i d lt.
    let within : i < length all = omega (arith, lt, length-map held site_view, ap length is) in
    let same = sym (get_or-map site_view held i d (site_view d) lt) ∙ ap (λ l. get_or l i (site_view d)) is in
    subst P (sym same) (each i (site_view d) within)

-- each of them is of a file that is there
pub held_of_files : (files : List File) (kept : List Bool) (held : List HeldSite) → site_views held ≡ sites files kept → All (λ (s : HeldSite). s.file < length files) held
held_of_files files kept held is = λ i d lt.
    let within : i < length (sites files kept) = omega (arith, length-map held site_view, ap length is) in
    let own = sites_of_files files kept i (site_view d) within in
    let same = ap (λ (s : Site). s.file) (sym (get_or-map site_view held i d (site_view d) lt) ∙ ap (λ l. get_or l i (site_view d)) is) in
    omega (arith, own, same)
