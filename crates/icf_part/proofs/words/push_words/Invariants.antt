use Rattle.std.proofs.Common.{◌≡◌, ◌++◌, flat_map, take}
use Rattle.icf_part.specs.Signatures.{word_bytes}
use Rattle.icf_part.proofs.words.push_words.Given as goal

abbrev pub invariant-loop-i : goal.invariant-loop-i
invariant-loop-i l = l.bytes.items ≡ l.fn.bytes.items ++ flat_map word_bytes (take l.i l.words)
