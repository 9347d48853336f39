use Rattle.std.proofs.Common.{◌≡◌, ◌<◌, true, List, map, ap, sym, subst, ◌∙◌, arith, length}
use Rattle.std.specs.List.{All, range_with_len}
use Rattle.lk_tables.specs.BindingView.{binding_view}
use Rattle.lk_tables.specs.Files.{section_total}
use Rattle.lk_tables.specs.TablesView.{files_of}
use Rattle.link_sections.specs.Cuts.{Cut}
use Rattle.link_sections.specs.PoolViews.{merged_views}
use Rattle.std.proofs.lemmas.List.{length-map}
use Rattle.output_sections.specs.declared.rows.Row.{Row}
use Rattle.output_sections.specs.ItemViews.{item_view, items_view}
use Rattle.output_sections.specs.Order.{IsKnown, is_section, members_in, own_section}
use Rattle.output_sections.proofs.ClassSums.{few_members}
use Rattle.relax.specs.CallSizes.{AreLeastSafe, all_cuts, call_rows, cuts_of, least_sizes, place_in}
use Rattle.relax.proofs.NoCalls.{unrelaxed_is, unrelaxed_law}
use Rattle.relax.proofs.keeping.sizes.Goals as goal

pub returns-then-not-may_relax-clause-cuts : goal.returns-then-not-may_relax-clause-cuts
returns-then-not-may_relax-clause-cuts g c =
    c.in_ok-unrelaxed.ensures.cuts
    ∙ unrelaxed_is c.args.tables.now (binding_view c.args.binding.now) (merged_views c.args.pools.now) c.args.leaders.now (members_in c.args.sections.now.rows) c.args.on
    (sym c.may_relax.ensures ∙ c.if-not-may_relax.true) c.requires.known

pub returns-then-not-may_relax-clause-law : goal.returns-then-not-may_relax-clause-law
returns-then-not-may_relax-clause-law g c =
    unrelaxed_law c.args.tables.now (binding_view c.args.binding.now) (merged_views c.args.pools.now) c.args.leaders.now (members_in c.args.sections.now.rows) c.args.on
    (sym c.may_relax.ensures ∙ c.if-not-may_relax.true) c.requires.known

pub invariant_of-scene : goal.invariant_of-scene
invariant_of-scene g c =
    let files = files_of c.args.tables.now in
    let b = binding_view c.args.binding.now in
    let total = section_total files in
    let is : c.items-members.result.now ≡ members_in c.args.sections.now.rows = c.items-members.ensures in
    record {
      within = subst (λ (l : List Row). All (λ (m : Row). is_section m ≡ true → own_section m < total) l) (sym is) (λ k d lt. (c.requires.known k d lt).number);
      placed = c.as_slice.ensures.value ∙ c.in_ok-places.ensures ∙ ap (λ n. map (place_in c.items-members.result.now) (range_with_len 0 n)) c.section_count.ensures;
    }

pub sizes_in-requires-clause-few : goal.sizes_in-requires-clause-few
sizes_in-requires-clause-few g c =
    let s = c.args.sections.now in
    let is : c.items-members.result.now ≡ members_in s.rows = c.items-members.ensures in
    let few = s.few in
    omega (arith, ap length is, ap (λ o. length (members_in o)) s.ordered, few_members (items_view s.items.items), length-map s.items.items item_view, few)

pub sizes_in-requires-clause-known : goal.sizes_in-requires-clause-known
sizes_in-requires-clause-known g c = λ κs within.
    subst (λ (l : List Row). All (IsKnown (files_of c.args.tables.now) (binding_view c.args.binding.now)) l) (sym c.items-members.ensures) c.requires.known

pub returns-clause-cuts : goal.returns-clause-cuts
unfolding cuts_of
returns-clause-cuts g c =
    let files = files_of c.args.tables.now in
    let b = binding_view c.args.binding.now in
    let leaders = c.args.leaders.now in
    let merged = merged_views c.args.pools.now in
    let on = c.args.on in
    let cuts : List Row → List (List Cut) = λ ms. all_cuts files ms (call_rows files b merged leaders ms on) (least_sizes ms (call_rows files b merged leaders ms on)) in
    c.in_ok-sizes.ensures.cuts ∙ ap cuts c.items-members.ensures

pub returns-clause-law : goal.returns-clause-law
returns-clause-law g c =
    let files = files_of c.args.tables.now in
    let b = binding_view c.args.binding.now in
    let leaders = c.args.leaders.now in
    let merged = merged_views c.args.pools.now in
    let on = c.args.on in
    let P : List Row → Type 0 = λ ms. AreLeastSafe ms (call_rows files b merged leaders ms on) (least_sizes ms (call_rows files b merged leaders ms on)) in
    subst P c.items-members.ensures c.in_ok-sizes.ensures.law
