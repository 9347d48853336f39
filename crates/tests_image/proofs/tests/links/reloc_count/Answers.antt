use Rattle.std.proofs.Common.{◌≡◌, length, ap, ◌∙◌}
use Rattle.lk_tables.specs.declared.section_places.SectionPlace.{SectionPlace}
use Rattle.lk_tables.specs.Files.{file_at, relocs_at}
use Rattle.lk_tables.specs.Sites.{relocs_of}
use Rattle.lk_tables.specs.TablesView.{files_of}
use Rattle.tests_image.proofs.tests.links.reloc_count.Goals as goal

pub returns : goal.returns
returns c =
    let files = files_of c.args.tables.now in
    let same : c.relocs.result.now ≡ relocs_of files c.args.section =
    c.relocs.ensures ∙ ap (λ (p : SectionPlace). relocs_at (file_at files p.file) p.index) c.place_of-place.ensures.place in
    ap length same
