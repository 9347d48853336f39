use Rattle.std.proofs.Common.{sym, subst, List, []}
use Rattle.lk_tables.specs.BindingView.{binding_view}
use Rattle.lk_tables.specs.Files.{File}
use Rattle.lk_tables.specs.TablesView.{files_of}
use Rattle.link_sections.specs.declared.got.GotEntry.{GotEntry}
use Rattle.link_sections.specs.GotView.{entries_of}
use Rattle.link_sections.specs.LaidOut.{layout_view, no_pools, with_contents}
use Rattle.link_sections.specs.PoolViews.{PoolsView, pools_view}
use Rattle.link_sections.specs.Sound.{IsSound}
use Rattle.tests_image.proofs.NoFiles.{none_pooled}
use Rattle.tests_image.proofs.tests.addresses.count_found.Goals as goal

pub find_addresses-requires-clause-sound : goal.find_addresses-requires-clause-sound
find_addresses-requires-clause-sound g c = λ κs within.
    let files = files_of c.in_ok-tables.tables in
    let b = binding_view c.no_names-binding.result in
    let laid = layout_view c.in_ok-layout.layout in
    let table = entries_of c.empty-got.result in
    let bare : IsSound [] b [] (with_contents laid no_pools []) = c.in_ok-layout.ensures b in
    let tabled : IsSound [] b [] (with_contents laid no_pools table) = subst (λ (es : List GotEntry). IsSound [] b [] (with_contents laid no_pools es)) (sym c.empty-got.ensures) bare in
    let pooled : IsSound [] b [] (with_contents laid (pools_view files c.none-pools.result) table) =
    subst (λ (pools : PoolsView). IsSound [] b [] (with_contents laid pools table)) (sym (none_pooled files c.none-pools.result c.none-pools.ensures.pools c.none-pools.ensures.merged)) tabled in
    subst (λ (fs : List File). IsSound fs b [] (with_contents laid (pools_view files c.none-pools.result) table)) (sym c.in_ok-tables.ensures) pooled
