use Rattle.std.proofs.Common.{◌*◌, ◌≤◌}
use Rattle.str_merge.specs.Sites.{pieces_of, texts_of}
use Rattle.str_merge.proofs.PlacedSteps.{ArePartsUpTo}
use Rattle.str_merge.proofs.parts.parts_of.Given as goal

-- each piece has fewer than 2^31 bytes
abbrev pub invariant-loop-i : goal.invariant-loop-i
invariant-loop-i l = record {
  parts : ArePartsUpTo (texts_of (pieces_of l.cut)) l.numbers l.i l.start l.parts.items;
  most : l.start ≤ l.i * 2147483648;
}
