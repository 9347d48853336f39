use Rattle.std.proofs.Common.{◌≡◌, ℕ, ◌<◌, All, Bool, true, false, not, List, length, refl, ap, sym, subst, ◌∙◌, arith}
use Rattle.std.specs.List.Sorted.{IsStrictlyIncreasing}
use Rattle.icf_part.specs.Chosen.{own_leading}
use Rattle.icf_part.specs.Leaders.{leaders_of}
use Rattle.icf_part.proofs.Whole.{IsFolded, folded_by}
use Rattle.link_sections.specs.declared.fold_items.FoldItem.{FoldItem as LentItem}
use Rattle.link_sections.specs.FoldItems.{item_views, sections_of}
use Rattle.link_sections.specs.Leaders.{folded_leaders}
use Rattle.link_sections.specs.PoolViews.{merged_views}
use Rattle.link_sections.proofs.Folded.{LeadItems}
use Rattle.lk_tables.specs.BindingView.{binding_view}
use Rattle.lk_tables.specs.Files.{section_total}
use Rattle.lk_tables.specs.TablesView.{files_of}
use Rattle.sec_graph.specs.Foldable.{items}
use Rattle.sec_graph.proofs.FoldOrder.{items_rise}
use Rattle.link_passes.specs.Tables.{link_options}
use Rattle.link_passes.proofs.FewItems.{foldable_few}
use Rattle.link_passes.proofs.Leading.{folded_are, folded_goes, folded_so, folded_stay, own_are, own_goes, own_so, own_stay}
use Rattle.link_passes.proofs.Sharing.{all_folded, all_lead, leaders_all, shared_so}
use Rattle.link_passes.proofs.folding.find_leaders.Goals as goal
use Rattle.link_passes.proofs.folding.find_leaders.Goals.{After-fold_leaders}

off_of : (on : Bool) → not on ≡ true → on ≡ false
off_of true is = cc
off_of false is = refl

on_of : (on : Bool) → not on ≡ false → on ≡ true
on_of true is = refl
on_of false is = cc

-- all that may be folded is folded by its own leaders, which those that share their contents decide
all_fold : (g : _) (c : After-fold_leaders g) →
    let all = items (files_of c.args.tables.now) (binding_view c.args.binding.now) (merged_views c.args.pools.now) c.args.kept.now c.args.barred.now in
    (c.fold_leaders.new.leaders.items ≡ folded_leaders all (leaders_of all) c.in_ok-leaders.leaders.items) × IsFolded all (leaders_of all) × LeadItems (length all) (leaders_of all)
all_fold g c =
    let files = files_of c.args.tables.now in
    let b = binding_view c.args.binding.now in
    let merged = merged_views c.args.pools.now in
    let own = c.in_ok-leaders.leaders.items in
    let lent = c.as_slice-3.result.now in
    let some = item_views lent in
    let places = c.in_ok-places.places.items in
    let found = c.as_slice-2.ensures.value ∙ c.in_ok-sections.ensures.sections in
    let sharers = shared_so files b merged c.as_slice-2.result.now c.in_ok-items.items.items lent c.as_slice-3.ensures.value c.in_ok-items.ensures.sharers in
    let folded = folded_by some places c.in_ok-places.ensures.leaders c.in_ok-places.ensures.congruence c.in_ok-places.ensures.greatest in
    let is = c.fold_leaders.ensures ∙ ap (λ l. folded_leaders (item_views l) c.as_slice-5.result.now c.lead_themselves.new.leaders.items) (c.as_slice-4.ensures.value ∙ sym c.as_slice-3.ensures.value)
    ∙ ap (λ ps. folded_leaders some ps c.lead_themselves.new.leaders.items) c.as_slice-5.ensures.value
    ∙ ap (folded_leaders some places) (c.lead_themselves.ensures ∙ ap (λ ns. own_leading ns own) (c.as_slice.ensures.value ∙ c.in_ok-sections.ensures.sections)) in (
      leaders_all files b merged c.args.kept.now c.args.barred.now c.as_slice-2.result.now found some sharers places folded own c.fold_leaders.new.leaders.items is,
      all_folded files b merged c.args.kept.now c.args.barred.now c.as_slice-2.result.now found some sharers places folded,
      all_lead files b merged c.args.kept.now c.args.barred.now c.as_slice-2.result.now found some sharers places folded,
    )

pub returns-then-not-options-clause-leaders : goal.returns-then-not-options-clause-leaders
returns-then-not-options-clause-leaders g c =
    own_are (link_options c.args.options c.args.barred.now) (files_of c.args.tables.now) (binding_view c.args.binding.now) c.args.kept.now c.args.pools.now c.requires.pools
    c.in_ok-leaders.leaders.items (off_of c.args.options.icf c.if-not-options.true) c.in_ok-leaders.ensures

pub returns-then-not-options-clause-stay : goal.returns-then-not-options-clause-stay
returns-then-not-options-clause-stay g c =
    own_stay (files_of c.args.tables.now) (binding_view c.args.binding.now) c.args.kept.now c.args.pools.now
    c.in_ok-leaders.leaders.items c.in_ok-leaders.ensures c.requires.stay

pub shared_items-requires-clause-within : goal.shared_items-requires-clause-within
shared_items-requires-clause-within g c κs within =
    let P : List ℕ → Type 0 = All (λ n. n < section_total (files_of c.args.tables.now)) in
    subst P (sym c.as_slice-2.ensures.value) c.in_ok-sections.ensures.within

pub shared_items-requires-clause-order : goal.shared_items-requires-clause-order
shared_items-requires-clause-order g c κs within = let P : List ℕ → Type 0 = IsStrictlyIncreasing in subst P (sym c.as_slice-2.ensures.value) c.in_ok-sections.ensures.order

pub shared_items-requires-clause-few : goal.shared_items-requires-clause-few
shared_items-requires-clause-few g c κs within =
    omega (
      arith,
      ap length (c.as_slice-2.ensures.value ∙ c.in_ok-sections.ensures.sections),
      foldable_few (files_of c.args.tables.now) (binding_view c.args.binding.now) c.args.kept.now c.args.barred.now,
      c.prove_few.ensures.section_count_is,
    )

pub fold_items-requires-clause-few : goal.fold_items-requires-clause-few
fold_items-requires-clause-few g c κs within =
    let few = c.in_ok-items.ensures.few in
    omega (arith, few, ap length c.as_slice-3.ensures.value)

pub fold_items-requires-clause-order : goal.fold_items-requires-clause-order
fold_items-requires-clause-order g c κs within =
    let P : List LentItem → Type 0 = λ l. IsStrictlyIncreasing (sections_of (item_views l)) in
    subst P (sym c.as_slice-3.ensures.value) c.in_ok-items.ensures.order

pub returns-clause-leaders : goal.returns-clause-leaders
returns-clause-leaders g c =
    let files = files_of c.args.tables.now in
    let b = binding_view c.args.binding.now in
    let own = c.in_ok-leaders.leaders.items in
    let list = items files b (merged_views c.args.pools.now) c.args.kept.now c.args.barred.now in
    let all = all_fold g (goal.at.returns-clause-leaders g c).After-fold_leaders in
    folded_are (link_options c.args.options c.args.barred.now) files b c.args.kept.now c.args.pools.now c.requires.pools
    own c.fold_leaders.new.leaders.items list (leaders_of list)
    (on_of c.args.options.icf c.if-not-options.false) c.in_ok-leaders.ensures refl refl
    all.0

pub returns-clause-stay : goal.returns-clause-stay
returns-clause-stay g c =
    let files = files_of c.args.tables.now in
    let b = binding_view c.args.binding.now in
    let own = c.in_ok-leaders.leaders.items in
    let list = items files b (merged_views c.args.pools.now) c.args.kept.now c.args.barred.now in
    let all = all_fold g (goal.at.returns-clause-stay g c).After-fold_leaders in
    folded_stay files b c.args.kept.now c.args.barred.now c.args.pools.now own c.fold_leaders.new.leaders.items
    list (leaders_of list) c.in_ok-leaders.ensures refl
    (items_rise files b (merged_views c.args.pools.now) c.args.kept.now c.args.barred.now)
    all.2
    all.0 c.requires.stay

pub returns-then-not-options-clause-alike : goal.returns-then-not-options-clause-alike
returns-then-not-options-clause-alike g c =
    own_so c.args.tables.now (binding_view c.args.binding.now) c.args.kept.now c.args.pools.now c.in_ok-leaders.leaders.items c.in_ok-leaders.ensures
    c.requires.stay

pub returns-clause-alike : goal.returns-clause-alike
returns-clause-alike g c =
    let files = files_of c.args.tables.now in
    let b = binding_view c.args.binding.now in
    let own = c.in_ok-leaders.leaders.items in
    let list = items files b (merged_views c.args.pools.now) c.args.kept.now c.args.barred.now in
    let all = all_fold g (goal.at.returns-clause-alike g c).After-fold_leaders in
    folded_so c.args.tables.now b c.args.kept.now c.args.barred.now c.args.pools.now own c.fold_leaders.new.leaders.items
    list (leaders_of list) c.in_ok-leaders.ensures refl all.1.leaders
    all.0 c.requires.stay

pub returns-then-not-options-clause-outputs : goal.returns-then-not-options-clause-outputs
returns-then-not-options-clause-outputs g c =
    own_goes (files_of c.args.tables.now) (binding_view c.args.binding.now) c.args.kept.now c.args.pools.now c.in_ok-leaders.leaders.items c.in_ok-leaders.ensures

pub returns-clause-outputs : goal.returns-clause-outputs
returns-clause-outputs g c =
    let files = files_of c.args.tables.now in
    let b = binding_view c.args.binding.now in
    let own = c.in_ok-leaders.leaders.items in
    let list = items files b (merged_views c.args.pools.now) c.args.kept.now c.args.barred.now in
    let all = all_fold g (goal.at.returns-clause-outputs g c).After-fold_leaders in
    folded_goes files b c.args.kept.now c.args.barred.now c.args.pools.now own c.fold_leaders.new.leaders.items
    list (leaders_of list) c.in_ok-leaders.ensures refl all.1.leaders
    all.0
