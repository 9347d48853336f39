use Rattle.std.proofs.Common.{◌≡◌, ◌<◌, ap, sym, subst, ◌∙◌, arith, length, get_or, List}
use Rattle.lk_tables.specs.declared.objects.Reloc.{Reloc}
use Rattle.lk_tables.specs.declared.section_places.SectionPlace.{SectionPlace}
use Rattle.lk_tables.specs.Files.{file_at, no_reloc, relocs_at}
use Rattle.lk_tables.specs.Sites.{place_of, relocs_of}
use Rattle.lk_tables.specs.TablesView.{files_of}
use Rattle.link_sections.specs.GotView.{entries_of}
use Rattle.got_tls.specs.GotList.{wanted_by}
use Rattle.got_tls.proofs.AllUses.{relocs_step}
use Rattle.got_tls.proofs.Keys.{symbol_within}
use Rattle.got_tls.proofs.listing.add_section.Goals as goal

pub add_reloc-requires-clause-symbol : goal.add_reloc-requires-clause-symbol
add_reloc-requires-clause-symbol c =
    let files = files_of c.args.tables.now in
    let n = c.args.section in
    let k = c.loop-k.k in
    let relocs = c.relocs-relocs.ensures in
    let place : c.place_of-place.result ≡ place_of files n = c.place_of-place.ensures.place in
    let same : c.relocs-relocs.result.now ≡ relocs_of files n = relocs ∙ ap (λ (p : SectionPlace). relocs_at (file_at files p.file) p.index) place in
    let less : k < length (relocs_of files n) = omega (arith, c.loop-k-test.true, ap length same) in
    let own = symbol_within c.args.tables.now n k no_reloc c.requires.section less in
    let P : List Reloc → SectionPlace → Type 0 = λ l p. (get_or l k no_reloc).symbol < length (file_at files p.file).head.symbols in
    subst (λ l. P l c.place_of-place.result) (sym same) (subst (λ p. P (relocs_of files n) p) (sym place) own)

pub loop-k-preserved : goal.loop-k-preserved
loop-k-preserved c =
    let f = wanted_by (files_of c.args.tables.now) c.place_of-place.result.file in
    relocs_step f c.relocs-relocs.result.now c.loop-k.k no_reloc (entries_of c.args.got.now) (entries_of c.loop-k.got) (entries_of c.add_reloc.new.got) c.loop-k-test.true
    c.loop-k.invariant c.in_ok-add_reloc.ensures
