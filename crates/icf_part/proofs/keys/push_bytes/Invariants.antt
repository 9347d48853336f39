use Rattle.std.proofs.Common.{◌≡◌, ◌++◌, drop}
use Rattle.icf_part.proofs.keys.push_bytes.Given as goal

abbrev pub invariant-loop-byte : goal.invariant-loop-byte
invariant-loop-byte l = l.words.items ++ drop l.byte-index l.bytes ≡ l.fn.words.items ++ l.bytes
