use Rattle.std.proofs.Common.{[], arith}
use Rattle.lk_tables.specs.TablesView.{files_of}
use Rattle.link_sections.specs.GotView.{entries_of}
use Rattle.got_tls.specs.GotList.{wanted_in}
use Rattle.got_tls.proofs.AllUses.{all_sections, has_all, sections_step, table_is}
use Rattle.got_tls.proofs.listing.entries.Goals as goal

pub loop-section-preserved : goal.loop-section-preserved
loop-section-preserved c =
    sections_step (wanted_in (files_of c.args.tables.now) c.args.leaders.now) c.loop-section.section [] (entries_of c.loop-section.got) (entries_of c.add_by_uppers.new.got)
    c.loop-section.invariant c.in_ok-add_by_uppers.ensures

pub returns-clause-value : goal.returns-clause-value
returns-clause-value c =
    table_is (files_of c.args.tables.now) c.args.leaders.now (entries_of c.loop-section.got) (all_sections (files_of c.args.tables.now) c.args.leaders.now (entries_of c.loop-section.got) c.loop-section.section
    (omega (arith, c.section_count-section-end.ensures, c.prove_few.ensures.section_count_is, c.loop-section-test.false)) c.loop-section.invariant)

pub returns-clause-law : goal.returns-clause-law
returns-clause-law c =
    has_all (files_of c.args.tables.now) c.args.leaders.now (entries_of c.loop-section.got) (all_sections (files_of c.args.tables.now) c.args.leaders.now (entries_of c.loop-section.got) c.loop-section.section
    (omega (arith, c.section_count-section-end.ensures, c.prove_few.ensures.section_count_is, c.loop-section-test.false)) c.loop-section.invariant)
    c.loop-section.got.unlike
