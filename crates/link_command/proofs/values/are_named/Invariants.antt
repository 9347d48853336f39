use Rattle.std.proofs.Common.{◌≡◌, drop}
use Rattle.link_command.specs.Command.{are_named, lists_of}
use Rattle.link_command.proofs.values.are_named.Given as goal

-- whether no name is empty is what is left to see
abbrev pub invariant-loop-name : goal.invariant-loop-name
invariant-loop-name l = are_named (lists_of (drop l.name-index l.names)) ≡ are_named (lists_of l.names)
