use Rattle.output_sections.proofs.NextPool.{here, next_more, next_past, next_same, not_here, past_all}
use Rattle.std.proofs.Common.{rules, sym, ap, ◌∙◌, ◌++◌, ◌≤◌, ◌<◌, length}
use Rattle.std.proofs.lemmas.List.{append-nil}
use Rattle.link_sections.specs.InputSections.{input_at}
use Rattle.lk_tables.specs.BindingView.{binding_view}
use Rattle.lk_tables.specs.TablesView.{files_of}
use Rattle.output_sections.specs.ItemViews.{items_view}
use Rattle.output_sections.specs.Items.{pool_item}
use Rattle.output_sections.proofs.ItemSteps.{pushed}
use Rattle.output_sections.proofs.items.push_pool.Goals as goal

pub returns-in_default-clause-items : goal.returns-in_default-clause-items
returns-in_default-clause-items c =
    let end : length c.args.pools.now ≤ c.args.next = search rules in
    let none = past_all c.args.pools.now c.args.section c.args.next (input_at (files_of c.args.tables.now) (binding_view c.args.binding.now) c.args.section) c.requires.next end in
    sym (append-nil (items_view c.args.items.now.items)) ∙ ap (λ l. items_view c.args.items.now.items ++ l) none

pub returns-in_default-clause-next : goal.returns-in_default-clause-next
returns-in_default-clause-next c =
    let end : length c.args.pools.now ≤ c.args.next = search rules in
    next_past c.args.pools.now c.args.section c.args.next c.requires.next end

pub returns-then-pool-section-clause-items : goal.returns-then-pool-section-clause-items
returns-then-pool-section-clause-items c =
    let lt : c.args.next < length c.args.pools.now = search rules in
    let is = c.in-Some.ensures.lookup.1 in
    let none = not_here c.args.pools.now c.args.section c.args.next c.in-Some.pool.now
    (input_at (files_of c.args.tables.now) (binding_view c.args.binding.now) c.args.section) c.requires.next c.requires.rising lt is c.if-pool-section.true in
    sym (append-nil (items_view c.args.items.now.items)) ∙ ap (λ l. items_view c.args.items.now.items ++ l) none

pub returns-then-pool-section-clause-next : goal.returns-then-pool-section-clause-next
returns-then-pool-section-clause-next c =
    let lt : c.args.next < length c.args.pools.now = search rules in
    let is = c.in-Some.ensures.lookup.1 in
    next_same c.args.pools.now c.args.section c.args.next c.in-Some.pool.now c.requires.next c.requires.rising lt is c.if-pool-section.true

pub returns-clause-items : goal.returns-clause-items
returns-clause-items c =
    let lt : c.args.next < length c.args.pools.now = search rules in
    let is = c.in-Some.ensures.lookup.1 in
    let one = here c.args.pools.now c.args.section c.args.next c.in-Some.pool.now
    (input_at (files_of c.args.tables.now) (binding_view c.args.binding.now) c.args.section) c.requires.next lt is c.if-pool-section.false in
    pushed c.args.items.now.items c.push.new.self.items c.pool_item.result _ c.in_ok-push.ensures.items
    (c.pool_item.ensures ∙ ap (pool_item c.args.next c.in-Some.pool.now.size) c.input_section.ensures)
    ∙ ap (λ l. items_view c.args.items.now.items ++ l) one

pub returns-clause-next : goal.returns-clause-next
returns-clause-next c =
    let lt : c.args.next < length c.args.pools.now = search rules in
    let is = c.in-Some.ensures.lookup.1 in
    next_more c.args.pools.now c.args.section c.args.next c.in-Some.pool.now c.requires.next c.requires.rising lt is c.if-pool-section.false
