use Rattle.std.proofs.Common.{◌≡◌, ◌++◌, take}
use Rattle.lk_base.specs.Lines.{escaped}
use Rattle.lk_base.proofs.lines.push_each_escaped.Given as goal

-- the line has grown by the bytes that were passed
abbrev pub invariant-loop-byte : goal.invariant-loop-byte
invariant-loop-byte l = l.line.items ≡ l.initial.line.items ++ escaped (take l.byte-index l.name)
