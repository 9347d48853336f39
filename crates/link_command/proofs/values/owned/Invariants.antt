use Rattle.std.proofs.Common.{◌≡◌, map, take}
use Rattle.link_command.specs.Command.{texts_of}
use Rattle.link_command.proofs.values.owned.Given as goal

-- the texts so far are owned
abbrev pub invariant-loop-text : goal.invariant-loop-text
invariant-loop-text l = texts_of l.strings.items ≡ map (λ text. text.now) (take l.text-index l.texts)
