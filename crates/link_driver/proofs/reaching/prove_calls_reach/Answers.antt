use Rattle.std.proofs.Common.{ap, subst, ◌∙◌}
use Rattle.lk_tables.specs.BindingView.{binding_view}
use Rattle.lk_tables.specs.TablesView.{files_of}
use Rattle.link_sections.specs.GotEntries.{word_count}
use Rattle.link_sections.specs.GotView.{entries_of}
use Rattle.link_sections.specs.LaidOut.{layout_view}
use Rattle.link_sections.specs.PoolViews.{merged_views, pools_view}
use Rattle.link_sections.specs.SizesView.{sizes_of}
use Rattle.output_sections.specs.Order.{Orders, members_in}
use Rattle.layout.specs.Layout.{frame_sizes}
use Rattle.relax.specs.CallSizes.{IsLeastSafe, cuts_of}
use Rattle.link_driver.proofs.Laid.{prove_calls_reach, own_cuts_of}
use Rattle.link_driver.proofs.reaching.prove_calls_reach.Goals as goal

pub returns : goal.returns
unfolding pools_view
returns c =
    let files = files_of c.args.tables.now in
    let b = binding_view c.args.binding.now in
    let merged = merged_views c.args.pools.now in
    let leaders = c.args.leaders.now in
    let S : Orders → Type 0 = λ o. IsLeastSafe files b merged leaders (members_in o) c.args.on in
    record {
      reach = prove_calls_reach c.args.tables.now b c.args.pools.now (word_count (entries_of c.args.got.now)) leaders (entries_of c.args.got.now) c.args.limits.now
          (sizes_of c.args.sizes.now) (frame_sizes c.args.frames.now) c.args.on (layout_view c.args.layout.now) c.prove_few.ensures c.requires.bound c.requires.leaders c.requires.alike c.requires.pools
          (c.requires.sizes ∙ ap (λ o. cuts_of files b merged leaders (members_in o) c.args.on) c.requires.order) (subst S c.requires.order c.requires.safe)
          c.requires.layout c.requires.sound c.requires.aligned c.requires.room;
      cuts = own_cuts_of c.args.tables.now b c.args.pools.now (word_count (entries_of c.args.got.now)) leaders (entries_of c.args.got.now) c.args.limits.now
          (sizes_of c.args.sizes.now) (frame_sizes c.args.frames.now) c.args.on (layout_view c.args.layout.now) c.prove_few.ensures c.requires.bound c.requires.leaders c.requires.alike c.requires.pools
          (c.requires.sizes ∙ ap (λ o. cuts_of files b merged leaders (members_in o) c.args.on) c.requires.order) (subst S c.requires.order c.requires.safe)
          c.requires.layout c.requires.sound c.requires.aligned c.requires.room;
    }
