use Rattle.std.proofs.Common.{◌+◌, inr, arith}
use Rattle.intern_race.proofs.Words.{bits_below, most_slots, twice}
use Rattle.intern_race.proofs.table.slots_for.Goals as goal

pub returns-clause-count : goal.returns-clause-count
returns-clause-count c =
    let inv = c.loop-slots.invariant in
    record { bits = inv.power.0; power = inv.power.2; some = inv.some; enough = c.loop-slots-test.false; lowest = inv.lowest }

pub returns-clause-most : goal.returns-clause-most
returns-clause-most c =
    let power = c.loop-slots.invariant.power in
    let most = most_slots power.0 power.1 in
    let is = power.2 in
    omega (arith, most, is)

pub loop-slots-preserved : goal.loop-slots-preserved
loop-slots-preserved c =
    let inv = c.loop-slots.invariant in
    let lt = c.loop-slots-test.true in
    let few = c.requires in
    let is = inv.power.2 in
    let some = inv.some in
    let less = bits_below inv.power.0 (omega (arith, is, lt, few)) in record {
      some = omega (arith, some);
      power = (inv.power.0 + 1, omega (arith, less), twice inv.power.0 c.loop-slots.slots is);
      lowest = inr (omega (arith, lt));
    }
