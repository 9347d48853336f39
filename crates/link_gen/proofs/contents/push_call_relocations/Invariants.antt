use Rattle.std.proofs.Common.{◌≡◌, ◌-◌, ◌++◌, flat_map}
use Rattle.std.specs.List.{range_with_len}
use Rattle.link_gen.specs.Generated.{call_relocations}
use Rattle.link_gen.proofs.contents.push_call_relocations.Given as goal

abbrev pub invariant-loop-call : goal.invariant-loop-call
invariant-loop-call l =
    l.out.items ++ flat_map (call_relocations l.k) (range_with_len l.call (l.calls - l.call))
    ≡ l.fn.out.items ++ flat_map (call_relocations l.k) (range_with_len 0 l.calls)
