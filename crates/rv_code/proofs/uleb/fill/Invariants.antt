use Rattle.std.proofs.Common.{◌≡◌, ◌/◌, ◌^◌}
use Rattle.rv_code.proofs.UlebNumbers.{AreFilled}
use Rattle.rv_code.proofs.uleb.fill.Given as goal

-- the bytes so far hold their bits, and what is left are the further ones
abbrev pub invariant-loop-i : goal.invariant-loop-i
invariant-loop-i l = record { filled : AreFilled l.bits l.initial.place l.place l.i; left_is : l.left ≡ l.bits / 128 ^ l.i }
