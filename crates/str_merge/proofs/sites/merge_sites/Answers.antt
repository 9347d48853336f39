use Rattle.lk_base.proofs.Loops.{flat_step}
use Rattle.lk_tables.specs.TablesView.{files_of}
use Rattle.link_sections.specs.Merging as spec
use Rattle.str_merge.specs.Sites.{site_views}
use Rattle.str_merge.proofs.sites.merge_sites.Goals as goal

pub loop-file-preserved : goal.loop-file-preserved
loop-file-preserved c =
    flat_step (spec.sites_in (files_of c.args.tables.now) c.args.kept.now) c.loop-file.file
    (site_views c.loop-file.list.items) (site_views c.push_sites.new.list.items) c.loop-file.invariant c.in_ok-push_sites.ensures
