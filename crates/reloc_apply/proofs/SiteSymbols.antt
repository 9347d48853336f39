-- The symbols of a section's relocations are those of its file.
use Rattle.std.proofs.Common.{◌<◌, List, Bool, true, false, [], ◌∷◌, find, length, get_or, sym, subst, Some}
use Rattle.std.specs.List.{All}
use Rattle.std.specs.Prelude.{if◌then◌else◌, IfSome}
use Rattle.std.proofs.lemmas.List.Elements.{All-head, All-tail}
use Rattle.lk_tables.specs.declared.section_places.SectionPlace.{SectionPlace}
use Rattle.lk_tables.specs.Files.{File, file_at}
use Rattle.lk_tables.specs.Sites.{place_of, relocs_of}
use Rattle.reloc_apply.specs.declared.sites.Site.{Site}
use Rattle.reloc_apply.specs.Sites.{HasSymbol, IsSite}
use Rattle.reloc_apply.proofs.SitePlaces.{live_site}
use Rattle.reloc_apply.proofs.SoundLists.{AllSound}
use Rattle.reloc_apply.proofs.ValuePlaces.{reloc_in}

pub site_symbols : (files : List File) (site : Site) → IsSite files site → AllSound files → All (HasSymbol files site) (relocs_of files site.section)
site_symbols files site is sound = λ k d lt.
    let file = file_at files (place_of files site.section).file in
    let own = reloc_in file (place_of files site.section).index k d (sound (place_of files site.section).file (live_site files site is)) lt in
    let P : SectionPlace → Type 0 = λ p. (get_or (relocs_of files site.section) k d).symbol < length (file_at files p.file).head.symbols in
    subst P (sym is.place) own.within.symbol

-- what is found is one of the list
pub found_has : {X : Type 0} (P : X → Type 0) (p : X → Bool) (xs : List X) → All P xs → IfSome (find p xs) P
found_has P p [] all = tt
found_has P p (x ∷ xs) all = by_test (p x) (All-head P x xs all) (found_has P p xs (All-tail P x xs all))
  where
    by_test : (b : Bool) → P x → IfSome (find p xs) P → IfSome (if b then Some x else find p xs) P
    by_test true own rest = own
    by_test false own rest = rest
