use Rattle.std.proofs.Common.{ℕ, List, Option, subst}
use Rattle.link_sections.specs.GotUses.{HasAllUses}
use Rattle.link_sections.specs.GotView.{entries_of}
use Rattle.link_sections.specs.LaidOut.{LaidOut, layout_view, with_contents}
use Rattle.link_sections.specs.PoolViews.{pools_view}
use Rattle.link_sections.specs.Sound.{IsSound}
use Rattle.lk_tables.specs.BindingView.{binding_view}
use Rattle.lk_tables.specs.TablesView.{files_of}
use Rattle.link_driver.specs.Code.{HaveOwnCuts}
use Rattle.link_driver.specs.Reach.{CallsReach}
use Rattle.link_driver.specs.Symbols.{SymbolsStand}
use Rattle.link_driver.proofs.FewPieces.{kept_written}
use Rattle.link_driver.proofs.placing.find_placement.Goals as goal

pub find_pools-requires-clause-written : goal.find_pools-requires-clause-written
find_pools-requires-clause-written g c κs bound = kept_written (files_of c.args.tables.now) (binding_view c.args.binding.now) c.args.kept.now c.requires.stay

pub returns-clause-placed : goal.returns-clause-placed
returns-clause-placed g c =
    let files = files_of c.args.tables.now in
    let b = binding_view c.args.binding.now in
    let kept = c.args.kept.now in
    let got = c.in_ok-got.got in
    let laid : LaidOut = with_contents (layout_view c.in_ok-layout.layout) (pools_view files c.in_ok-pools.pools) (entries_of got) in
    let value = c.as_slice-lead.ensures.value in
    let S : List (Option ℕ) → Type 0 = λ l. IsSound files b l laid in
    let R : List (Option ℕ) → Type 0 = λ l. CallsReach files b l laid in
    let C : List (Option ℕ) → Type 0 = λ l. HaveOwnCuts files l laid in
    let U : List (Option ℕ) → Type 0 = λ l. HasAllUses files l (entries_of got) in
    let Y : List (Option ℕ) → Type 0 = λ l. SymbolsStand files b kept l laid in
    record {
      leaders = c.in_ok-leaders.ensures.leaders;
      lead = c.in_ok-leaders.ensures.stay;
      lists = c.in_ok-plan.ensures.lists;
      plan = c.in_ok-plan.ensures.plan;
      laid = c.in_ok-layout.ensures.laid;
      sound = subst S value c.in_ok-layout.ensures.sound;
      room = c.in_ok-layout.ensures.room;
      framed = c.in_ok-layout.ensures.framed;
      reach = subst R value c.in_ok-layout.ensures.reach;
      cuts = subst C value c.in_ok-layout.ensures.cuts;
      uses = subst U c.as_slice-lead.ensures.value c.in_ok-got.ensures.law;
      symbols = subst Y value c.in_ok-layout.ensures.symbols;
    }
