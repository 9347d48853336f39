use Rattle.std.proofs.Common.{arith, refl, ap, ◌<◌, ◌^◌, ◌∙◌, ◌++◌, ◌≡◌, ◌≤◌, ◌∷◌, [], ℕ, length}
use Rattle.std.proofs.lemmas.List.{length-map}
use Rattle.link_sections.specs.GotEntries.{word_count}
use Rattle.link_sections.specs.GotView.{entries_of}
use Rattle.link_sections.specs.InputSections.{input_at}
use Rattle.lk_tables.specs.BindingView.{binding_view}
use Rattle.lk_tables.specs.Files.{section_total}
use Rattle.lk_tables.specs.TablesView.{files_of}
use Rattle.output_sections.specs.Items.{IsStaying, got_item, items, items_at, own_item, pool_at}
use Rattle.output_sections.specs.ItemViews.{item_view, items_view}
use Rattle.output_sections.proofs.ItemSteps.{pushed, pushed_both}
use Rattle.output_sections.proofs.Sized.{IsModest, all_sound, modest}
use Rattle.output_sections.proofs.SizedItems.{bytes_items, few_items, sized_items}
use Rattle.output_sections.proofs.Walked.{walked_all}
use Rattle.output_sections.proofs.items.items_of.Goals as goal

pub loop-section-preserved : goal.loop-section-preserved
unfolding items_at
loop-section-preserved c =
    let files = files_of c.args.tables.now in
    let b = binding_view c.args.binding.now in
    let n = c.loop-section.section in
    record {
      here = rw c.pools-merged.ensures.value at c.in_ok-next.ensures.next;
      few = c.in_ok-next.ensures.few;
      within = omega arith;
      all = pushed_both (items_at files b c.args.pools.now.pools.items c.args.leaders.now) n (items_view c.loop-section.items.items)
          (items_view c.push_section.new.items.items) (items_view c.push_pool.new.items.items)
          (own_item c.args.leaders.now n (input_at files b n)) (pool_at 0 c.args.pools.now.pools.items n (input_at files b n))
          c.loop-section.invariant.all c.in_ok-push_section.ensures
          (rw c.pools-merged.ensures.value at c.in_ok-next.ensures.items) refl;
    }

pub returns-clause-items : goal.returns-clause-items
unfolding items
returns-clause-items c =
    let files = files_of c.args.tables.now in
    let b = binding_view c.args.binding.now in
    let give = items_at files b c.args.pools.now.pools.items c.args.leaders.now in
    let end : section_total files ≤ c.loop-section.section = omega (arith, c.section_count-section-end.ensures) in
    pushed c.loop-section.items.items c.push.new.self.items c.got_item.result (got_item (word_count (entries_of c.args.got.now))) c.in_ok-push.ensures.items c.got_item.ensures.item
    ∙ ap (λ l. l ++ got_item (word_count (entries_of c.args.got.now)) ∷ [])
    (walked_all c.args.pools.now.pools.items give c.loop-section.section c.loop-section.next (section_total files) (items_view c.loop-section.items.items)
    c.loop-section.invariant end)

-- what holds of the list, as its definition has it
whole : (c : goal.In_ok-push) → items_view c.push.new.self.items
    ≡ items (files_of c.args.tables.now) (binding_view c.args.binding.now) c.args.pools.now.pools.items (word_count (entries_of c.args.got.now)) c.args.leaders.now
whole c = returns-clause-items c

modest_in : (c : goal.In_ok-push) (n : ℕ) → IsStaying (files_of c.args.tables.now) (binding_view c.args.binding.now) n
    → IsModest (input_at (files_of c.args.tables.now) (binding_view c.args.binding.now) n)
modest_in c = modest (files_of c.args.tables.now) (binding_view c.args.binding.now) c.requires.bound (all_sound c.args.tables.now)

few_words : (c : goal.In_ok-push) → word_count (entries_of c.args.got.now) < 2 ^ 34
few_words c = c.got_item.ensures.few

pub returns-clause-sized : goal.returns-clause-sized
returns-clause-sized c =
    rw (whole c)
    (sized_items (files_of c.args.tables.now) (binding_view c.args.binding.now) c.args.pools.now.pools.items (word_count (entries_of c.args.got.now)) c.args.leaders.now
    (modest_in c) c.requires.leaders c.requires.pools c.args.pools.now.small c.prove_few.ensures.section_count_is (few_words c))

pub returns-clause-few : goal.returns-clause-few
returns-clause-few c =
    let few = few_items (files_of c.args.tables.now) (binding_view c.args.binding.now) c.args.pools.now.pools.items (word_count (entries_of c.args.got.now)) c.args.leaders.now
    (modest_in c) c.requires.leaders c.requires.pools c.args.pools.now.small c.prove_few.ensures.section_count_is (few_words c) in
    omega (arith, few, ap length (whole c), length-map c.push.new.self.items item_view)

pub returns-clause-bytes : goal.returns-clause-bytes
returns-clause-bytes c =
    rw (whole c)
    (bytes_items (files_of c.args.tables.now) (binding_view c.args.binding.now) c.args.pools.now.pools.items (word_count (entries_of c.args.got.now)) c.args.leaders.now
    (modest_in c) c.requires.leaders c.requires.pools c.args.pools.now.small c.prove_few.ensures.section_count_is (few_words c))
