use Rattle.std.proofs.Common.{◌≡◌, ◌++◌, drop}
use Rattle.link_command.specs.Command.{lists_of, parts_of}
use Rattle.link_command.proofs.CommaParts.{joined_to}
use Rattle.link_command.proofs.parts.parts_of.Given as goal

-- the parts so far, and those of the rest with the bytes since the last comma before them, are all
abbrev pub invariant-loop-at : goal.invariant-loop-at
invariant-loop-at l = lists_of l.parts.items ++ joined_to l.part.items (parts_of (drop l.at l.text)) ≡ parts_of l.text
