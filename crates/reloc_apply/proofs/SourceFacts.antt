-- What is lent of a section that is a member of the layout, as its parts are read.
use Rattle.std.proofs.Common.{◌≡◌, ℕ, ◌+◌, ◌-◌, ◌≤◌, true, List, length, sym, ap, subst, arith}
use Rattle.std.specs.Prelude.{Option}
use Rattle.std.specs.List.{All}
use Rattle.std.specs.List.Sorted.{IsNonDecreasingBy}
use Rattle.lk_base.specs.declared.abi.TheConstants.{IMAGE_BASE}
use Rattle.lk_tables.specs.declared.objects.Reloc.{Reloc}
use Rattle.lk_tables.specs.Binding.{Bindings}
use Rattle.lk_tables.specs.Files.{File}
use Rattle.lk_tables.specs.Sites.{place_of, relocs_of}
use Rattle.link_sections.specs.Cuts.{Cut}
use Rattle.link_sections.specs.CutsView.{AreCuts, cut_views}
use Rattle.link_sections.specs.LaidOut.{LaidOut, cuts_at, start_at}
use Rattle.link_sections.specs.Sound.{IsSound}
use Rattle.reloc_apply.specs.declared.sources.Source.{Source}
use Rattle.reloc_apply.specs.Relocated.{contents_at, is_laid, staying_at, width_at}
use Rattle.reloc_apply.specs.Sites.{HasSymbol, IsSite, IsSource}
use Rattle.reloc_apply.specs.Values.{offset_of}
use Rattle.reloc_apply.proofs.LaidFacts.{known, places_rise, raw_short, raw_size, stay_size}
use Rattle.reloc_apply.proofs.SitePlaces.{live_site, site_ordered}
use Rattle.reloc_apply.proofs.SiteSymbols.{site_symbols}
use Rattle.reloc_apply.proofs.SoundLists.{AllSound}

pub source_is : (files : List File) (b : Bindings) (leaders : List (Option ℕ)) (laid : LaidOut) (s : Source) → IsSound files b leaders laid → AllSound files →
    is_laid files b leaders laid s.site.section ≡ true → IsSite files s.site → s.at ≡ start_at laid s.site.section - IMAGE_BASE →
    s.raw.now ≡ contents_at files b leaders laid s.site.section → cut_views s.cuts.now ≡ cuts_at laid s.site.section →
    s.relocs.now ≡ relocs_of files s.site.section → AreCuts s.cuts.now → IsSource files b leaders laid s
source_is files b leaders laid s sound all is site at raw cuts relocs are =
    let n = s.site.section in
    let k = known files b leaders laid n sound is in
    let own = all (place_of files n).file (live_site files s.site site) in
    let size = raw_size files b leaders laid n own k in
    let short = raw_short files b leaders laid n own k in
    let stay = stay_size files b leaders laid n sound own k in
    let long = ap length raw in
    let P : List Cut → Type 0 = λ cs. All (λ (c : Cut). c.at + c.whole ≤ length s.raw.now) cs in
    let Q : List Reloc → Type 0 = λ rs. All (λ (r : Reloc). offset_of files b leaders laid n r + width_at files b leaders laid n r ≤ length (staying_at files b leaders laid n)) rs in
    let R : List Reloc → Type 0 = λ rs. IsNonDecreasingBy (offset_of files b leaders laid n) rs in
    let S : List Reloc → Type 0 = λ rs. All (HasSymbol files s.site) rs in
    let high = k.high in
    let start = k.section.start in
    record {
      site = site;
      at = at;
      raw = raw;
      cuts = cuts;
      relocs = relocs;
      symbols = subst S (sym relocs) (site_symbols files s.site site all);
      sound = are;
      within = subst P (sym cuts) (λ i d lt. let within = k.section.cuts i d lt in omega (arith, within, long, size));
      low = omega (arith, at, high, start);
      short = omega (arith, long, size, short);
      places = subst Q (sym relocs) (λ i d lt. let within = k.section.relocs i d lt in omega (arith, within, stay));
      size = omega (arith, stay, high);
      rising = subst R (sym relocs) (places_rise files b leaders laid n (relocs_of files n) sound (site_ordered files s.site site all));
    }
