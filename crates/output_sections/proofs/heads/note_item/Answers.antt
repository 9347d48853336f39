use Rattle.std.proofs.Common.{sym, ◌∙◌}
use Rattle.std.proofs.lemmas.Map.Text.{btree_map_updates_str}
use Rattle.output_sections.specs.Heads.{seen}
use Rattle.output_sections.specs.ItemViews.{item_view}
use Rattle.output_sections.proofs.HeadSteps.{new_stays, noted, noted_own, noted_same}
use Rattle.output_sections.proofs.heads.note_item.Goals as goal

pub returns-then-stays-clause-noted : goal.returns-then-stays-clause-noted
returns-then-stays-clause-noted c = record {
  noted = λ name.
      noted_same c.args.class (seen c.args.known.now.heads) c.args.number (item_view c.args.item.now) name c.turn_to-known.result.name.now
      c.requires.here (c.turn_to-known.ensures.name ∙ c.output_name.ensures)
      (rw c.turn_to-known.ensures.held.head at (c.stays.ensures c.if-stays.true c.args.number (item_view c.args.item.now) c.requires.priority));
  held = c.turn_to-known.ensures.held;
  name = c.turn_to-known.ensures.name ∙ c.output_name.ensures;
}

pub returns-then-stays-clause-settled : goal.returns-then-stays-clause-settled
returns-then-stays-clause-settled c = λ yes name head was. was

pub returns-clause-settled : goal.returns-clause-settled
returns-clause-settled c = λ yes name head was.
    new_stays (seen c.args.known.now.heads) (seen c.insert.new.self) c.turn_to-known.result.name.now name c.with_item-head.result head
    (sym c.turn_to-known.ensures.held.head ∙ c.is_unknown-fresh.ensures yes)
    (btree_map_updates_str c.turn_to-known.result.name.now c.args.known.now.heads c.insert.new.self _ c.in_ok-insert.ensures.updates name) was

pub returns-clause-noted : goal.returns-clause-noted
returns-clause-noted c =
    record {
      noted = λ name.
          noted c.args.class (seen c.args.known.now.heads) (seen c.insert.new.self) c.args.number (item_view c.args.item.now) name c.turn_to-known.result.name.now
          c.turn_to-known.result.head c.with_item-head.result c.requires.here (c.turn_to-known.ensures.name ∙ c.output_name.ensures) c.turn_to-known.ensures.held.head
          c.with_item-head.ensures (btree_map_updates_str c.turn_to-known.result.name.now c.args.known.now.heads c.insert.new.self _ c.in_ok-insert.ensures.updates name);
      held = record {
        head = noted_own (seen c.args.known.now.heads) (seen c.insert.new.self) c.turn_to-known.result.name.now c.with_item-head.result
            (btree_map_updates_str c.turn_to-known.result.name.now c.args.known.now.heads c.insert.new.self _ c.in_ok-insert.ensures.updates c.turn_to-known.result.name.now);
        rank = c.output_rank-known.ensures;
      };
      name = c.turn_to-known.ensures.name ∙ c.output_name.ensures;
    }
