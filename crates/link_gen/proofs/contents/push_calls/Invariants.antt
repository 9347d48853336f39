use Rattle.std.proofs.Common.{◌≡◌, ◌-◌, ◌++◌, flat_map}
use Rattle.std.specs.List.{range_with_len}
use Rattle.link_gen.specs.Generated.{call}
use Rattle.link_gen.proofs.contents.push_calls.Given as goal

abbrev pub invariant-loop-call : goal.invariant-loop-call
invariant-loop-call l =
    l.out.items ++ flat_map (λ i. call) (range_with_len l._call (l.calls - l._call))
    ≡ l.fn.out.items ++ flat_map (λ i. call) (range_with_len 0 l.calls)
