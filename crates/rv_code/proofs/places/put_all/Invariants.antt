use Rattle.std.proofs.Common.{◌≡◌, ℕ, ◌≤◌, length, drop}
use Rattle.std.specs.Int.{bit_at}
use Rattle.lk_base.specs.Fields.{field_bit}
use Rattle.rv_code.specs.Parts.{runs_of}
use Rattle.rv_code.proofs.places.put_all.Given as goal

abbrev pub invariant-loop-left : goal.invariant-loop-left
invariant-loop-left l = record {
  within : l.left ≤ length l.parts;
  bits : (k : ℕ) → bit_at l.done k ≡ field_bit (runs_of (drop l.left l.parts)) l.word l.value k;
}

abbrev pub decreases-loop-left : goal.decreases-loop-left
decreases-loop-left l = l.left
