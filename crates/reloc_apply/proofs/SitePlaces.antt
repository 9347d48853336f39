-- A section's number, its place, and what its file says of it.
use Rattle.std.proofs.Common.{◌≡◌, ℕ, true, List, get_or, sym, ap, ◌∙◌}
use Rattle.std.specs.List.Sorted.{IsNonDecreasingBy}
use Rattle.lk_tables.specs.declared.objects.Reloc.{Reloc}
use Rattle.lk_tables.specs.declared.section_places.SectionPlace.{SectionPlace}
use Rattle.lk_tables.specs.Files.{File, by_section, file_at}
use Rattle.lk_tables.specs.Sites.{place_of, relocs_of}
use Rattle.lk_tables.proofs.ByNumber.{read_by_section}
pub use Rattle.link_sections.proofs.SymbolSums.{live_place}
use Rattle.reloc_apply.specs.declared.sites.Site.{Site}
use Rattle.reloc_apply.specs.Sites.{IsSite}
use Rattle.reloc_apply.proofs.SoundLists.{AllSound}
use Rattle.reloc_apply.proofs.UpperParts.{relocs_ordered}

pub live_site : (files : List File) (site : Site) → IsSite files site → (file_at files (place_of files site.section).file).live ≡ true
live_site files site is = ap (λ (p : SectionPlace). (file_at files p.file).live) (sym is.place) ∙ live_place files site.section site.place is.law

-- the relocations of a section stand in order of offset
pub site_ordered : (files : List File) (site : Site) → IsSite files site → AllSound files → IsNonDecreasingBy (λ (r : Reloc). r.offset) (relocs_of files site.section)
site_ordered files site is sound =
    relocs_ordered (file_at files (place_of files site.section).file) (place_of files site.section).index (sound (place_of files site.section).file (live_site files site is))

-- what is listed by number
pub listed_at : {X : Type 0} (files : List File) (give : ℕ → ℕ → X) (d : X) (site : Site) → IsSite files site →
    get_or (by_section files give) site.section d ≡ give (place_of files site.section).file (place_of files site.section).index
listed_at files give d site is =
    ap (λ n. get_or (by_section files give) n d) (sym is.law.number)
    ∙ read_by_section files give site.place.file site.place.index d is.law.file is.law.index
    ∙ ap (λ (p : SectionPlace). give p.file p.index) is.place
