use Rattle.std.proofs.Common.{ap, arith}
use Rattle.lk_tables.specs.Files.{section_count}
use Rattle.lk_tables.specs.TablesView.{files_of}
use Rattle.lk_tables.proofs.FirstNumbers.{section_within}
use Rattle.link_sections.specs.Merging as spec
use Rattle.str_merge.specs.Sites.{site_view, site_views}
use Rattle.str_merge.proofs.ListSteps.{rows_step}
use Rattle.str_merge.proofs.sites.push_sites.Goals as goal

pub overflow_cast-index : goal.overflow_cast-index
overflow_cast-index c =
    omega (
      arith,
      c.section_count-index-end.ensures,
      ap section_count c.file.ensures,
      c.prove_few.ensures.section_count_is,
      section_within (files_of c.args.tables.now) c.args.file c.requires,
    )

pub push_site-requires-clause-index : goal.push_site-requires-clause-index
push_site-requires-clause-index c = omega (arith, c.section_count-index-end.ensures, ap section_count c.file.ensures)

pub loop-index-preserved : goal.loop-index-preserved
loop-index-preserved c =
    rows_step site_view (spec.site_at (files_of c.args.tables.now) c.args.kept.now c.args.file) c.loop-index.index (site_views c.args.list.now.items)
    c.loop-index.list.items c.push_site.new.list.items c.loop-index.invariant c.in_ok-push_site.ensures
