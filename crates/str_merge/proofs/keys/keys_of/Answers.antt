use Rattle.std.proofs.Common.{get_or, ap, ◌∙◌, arith}
use Rattle.lk_tables.specs.Files.{File}
use Rattle.lk_tables.specs.TablesView.{files_of}
use Rattle.link_sections.specs.MergeSections.{pool_key}
use Rattle.link_sections.specs.Merging.{site_key}
use Rattle.str_merge.specs.Keys.{key_view}
use Rattle.str_merge.specs.Sites.{site_view}
use Rattle.str_merge.proofs.ListSteps.{view_step}
use Rattle.str_merge.proofs.SiteFacts.{no_held, sites_by_index}
use Rattle.str_merge.proofs.keys.keys_of.Goals as goal

pub loop-i-preserved : goal.loop-i-preserved
loop-i-preserved c =
    let files = files_of c.args.tables.now in
    view_step key_view (λ i. site_key files (site_view (get_or c.args.sites.now i no_held))) c.loop-i.i c.loop-i.keys.items c.push.new.self.items c.pool_key.result
    c.loop-i.invariant c.in_ok-push.ensures.items (c.pool_key.ensures ∙ ap (λ (file : File). pool_key file (get_or c.args.sites.now c.loop-i.i no_held).index) c.file.ensures)

pub returns : goal.returns
returns c = c.loop-i.invariant ∙ sites_by_index (site_key (files_of c.args.tables.now)) c.args.sites.now c.loop-i.i (omega arith)
