use Rattle.std.proofs.Common.{◌≡◌, ◌<◌, length, map, arith, ◌∙◌, sym, append-nil}
use Rattle.std.proofs.lemmas.Bool.Decides.{nat_tests}
use Rattle.std.proofs.lemmas.List.Elements.{All-drop}
use Rattle.link_sections.specs.LaidOut.{output_view, place_view}
use Rattle.link_sections.specs.SizesView.{sizes_of}
use Rattle.output_sections.specs.ItemViews.{items_view}
use Rattle.layout.specs.Walk.{IsReady}
use Rattle.layout.proofs.Splitting.{next_end, next_members, next_places, next_sections, next_stands, nothing_left, runs_is}
use Rattle.layout.proofs.Weights.{weight_split}
use Rattle.layout.proofs.walk.walk_class.Goals as goal

pub loop-rest-preserved : goal.loop-rest-preserved
loop-rest-preserved c =
    let some : 0 < length c.loop-rest.rest.now = grind (arith, nat_tests) in
    let sizes = sizes_of c.args.from.now.sizes.now in
    let e = runs_is c.loop-rest.rest.now c.split_at.result.0.now c.split_at.result.1.now c.run_len.result c.run_len.ensures.value
    c.split_at.ensures.front c.split_at.ensures.back in
    let w = weight_split c.loop-rest.rest.now c.split_at.result.0.now c.split_at.result.1.now c.run_len.result c.split_at.ensures.front c.split_at.ensures.back in
    let at = c.loop-rest.at in
    let end = c.in_ok-at.at in
    let inv = c.loop-rest.invariant in
    record {
      sections = c.in_ok-at.ensures.sections ∙ inv.sections;
      pools = c.in_ok-at.ensures.pools ∙ inv.pools;
      ready = rw (c.in_ok-at.ensures.sections, c.in_ok-at.ensures.pools, c.split_at.ensures.back)
          (All-drop (IsReady sizes (length c.loop-rest.places.starts.items) (length c.loop-rest.places.pools.items)) c.run_len.result c.loop-rest.rest.now inv.ready);
      extra = c.in_ok-at.ensures.extra;
      bound = omega (arith, c.in_ok-at.ensures.bound, w, inv.bound);
      end = next_end sizes at end _ _ _ e c.in_ok-at.ensures.end ∙ inv.end;
      those = next_sections sizes at end _ _ _ e c.in_ok-at.ensures.end (items_view c.args.from.now.items.now) c.args.class _ _ c.in_ok-at.ensures.outputs ∙ inv.those;
      follow = next_members sizes at end _ _ _ e c.in_ok-at.ensures.end _ _ c.in_ok-at.ensures.members ∙ inv.follow;
      stand = next_places sizes at end _ _ _ e c.in_ok-at.ensures.end (items_view c.args.from.now.items.now) c.args.class _ _ c.in_ok-at.ensures.extents ∙ inv.stand;
      all = next_stands sizes at end _ _ _ e c.in_ok-at.ensures.end _ _ c.in_ok-at.ensures.stands ∙ inv.all;
    }

pub returns-clause-end : goal.returns-clause-end
returns-clause-end c =
    let none : length c.loop-rest.rest.now ≡ 0 = grind (arith, nat_tests) in
    rw (nothing_left _ none) at c.loop-rest.invariant.end

pub returns-clause-outputs : goal.returns-clause-outputs
returns-clause-outputs c =
    let none : length c.loop-rest.rest.now ≡ 0 = grind (arith, nat_tests) in
    sym (append-nil (map output_view c.loop-rest.outputs.items)) ∙ rw (nothing_left _ none) at c.loop-rest.invariant.those

pub returns-clause-members : goal.returns-clause-members
returns-clause-members c =
    let none : length c.loop-rest.rest.now ≡ 0 = grind (arith, nat_tests) in
    sym (append-nil c.loop-rest.members.items) ∙ rw (nothing_left _ none) at c.loop-rest.invariant.follow

pub returns-clause-extents : goal.returns-clause-extents
returns-clause-extents c =
    let none : length c.loop-rest.rest.now ≡ 0 = grind (arith, nat_tests) in
    sym (append-nil (map place_view c.loop-rest.extents.items)) ∙ rw (nothing_left _ none) at c.loop-rest.invariant.stand

pub returns-clause-stands : goal.returns-clause-stands
returns-clause-stands c =
    let none : length c.loop-rest.rest.now ≡ 0 = grind (arith, nat_tests) in
    rw (nothing_left _ none) at c.loop-rest.invariant.all
