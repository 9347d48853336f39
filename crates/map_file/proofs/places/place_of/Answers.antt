use Rattle.std.proofs.Common.{arith, sym, ◌≤◌}
use Rattle.lk_tables.specs.Files.{section_total}
use Rattle.lk_tables.specs.TablesView.{files_of}
use Rattle.link_sections.proofs.PastSections.{place_past}
use Rattle.map_file.proofs.places.place_of.Goals as goal

pub returns-clause-place : goal.returns-clause-place
returns-clause-place c =
    let past : section_total (files_of c.args.tables.now) ≤ c.args.section = omega (arith, c.section_count.ensures, c.if-section-section_count.false) in
    sym (place_past (files_of c.args.tables.now) c.args.section past)
