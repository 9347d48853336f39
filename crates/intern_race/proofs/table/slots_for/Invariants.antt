use Rattle.std.proofs.Common.{◌≡◌, ◌^◌, ◌≤◌, ◌<◌, ◌*◌, ◌⊎◌, ◌-◌, ℕ}
use Rattle.intern_race.proofs.table.slots_for.Given as goal

abbrev pub invariant-loop-slots : goal.invariant-loop-slots
invariant-loop-slots l = record {
  some : 2 ≤ l.slots;
  power : (bits : ℕ) × (bits ≤ 32) × (l.slots ≡ 2 ^ bits);
  lowest : (l.slots ≡ 2) ⊎ (l.slots < 4 * l.fn.texts);
}

abbrev pub decreases-loop-slots : goal.decreases-loop-slots
decreases-loop-slots l = 2 * l.fn.texts - l.slots
