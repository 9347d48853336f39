use Rattle.std.proofs.Common.{refl, arith}
use Rattle.icf_part.proofs.TablePlaces.{table_first, table_last, table_next}
use Rattle.icf_part.proofs.place_table.table_of.Goals as goal

pub loop-k-init : goal.loop-k-init
loop-k-init c = table_first c.args.width c.args.sections.now c.in_ok-table.table.items (c.in_ok-table.ensures.items_if_clones_equal (λ y h. h))

pub loop-k-preserved : goal.loop-k-preserved
loop-k-preserved c =
    table_next c.args.width c.args.sections.now c.loop-k.k c.loop-k.table.items _ c.requires.order c.loop-k-test.true (c.requires.within c.loop-k.k c.loop-k-test.true) c.loop-k.invariant refl

pub returns : goal.returns
returns c = table_last c.args.width c.args.sections.now c.loop-k.k c.loop-k.table.items (omega arith) c.loop-k.invariant
