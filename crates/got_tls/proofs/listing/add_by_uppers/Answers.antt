use Rattle.std.proofs.Common.{◌<◌, length, sym, ap, arith}
use Rattle.lk_tables.specs.TablesView.{files_of}
use Rattle.lk_tables.specs.Uppers.{section_uppers, uppers_at}
use Rattle.lk_tables.proofs.ByNumber.{length_by_section}
use Rattle.link_sections.specs.GotView.{entries_of}
use Rattle.got_tls.specs.GotList.{all_added}
use Rattle.got_tls.proofs.NoUppers.{none_wanted}
use Rattle.got_tls.proofs.listing.add_by_uppers.Goals as goal

pub returns : goal.returns
returns c =
    let files = files_of c.args.tables.now in
    let below : c.args.section < length (section_uppers files) = omega (arith, c.requires.section, length_by_section files (uppers_at files)) in
    let none = c.has_uppers.ensures c.if-has_uppers.false (section_uppers files) c.requires.uppers below in
    sym (ap (all_added (entries_of c.args.got.now)) (none_wanted files c.args.leaders.now c.args.section c.requires.section none))
