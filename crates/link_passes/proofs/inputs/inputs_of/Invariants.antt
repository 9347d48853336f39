use Rattle.std.proofs.Common.{◌≡◌, ◌++◌, map, length, take}
use Rattle.std.specs.Prelude.{string_bytes}
use Rattle.std.specs.Vec.Iter.{into_iter_items}
use Rattle.link_command.specs.Command.{texts_of}
use Rattle.link_passes.specs.Contents.{contents_of}
use Rattle.link_passes.proofs.inputs.inputs_of.Given as goal

abbrev pub invariant-loop-bytes : goal.invariant-loop-bytes
invariant-loop-bytes l =
    (goal.iterator-loop-bytes).can_next l.bytes-iterator
    × (goal.iterator-loop-bytes).is_finite l.bytes-iterator
    × (l.yielded ++ into_iter_items l.bytes-iterator ≡ l.fn.contents.items)
    × (l.at ≡ length l.yielded)
    × (map (λ file. string_bytes file.0) l.files.items ≡ take l.at (texts_of l.names))
    × (map (λ file. file.1.items) l.files.items ≡ contents_of l.yielded)
