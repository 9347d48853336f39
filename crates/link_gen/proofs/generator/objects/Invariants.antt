use Rattle.std.proofs.Common.{◌≡◌, map}
use Rattle.std.specs.List.{range_with_len}
use Rattle.link_gen.specs.Generated.{generated, objects_in}
use Rattle.link_gen.proofs.generator.objects.Given as goal

abbrev pub invariant-loop-k : goal.invariant-loop-k
invariant-loop-k l = objects_in l.list.items ≡ map (generated l.n) (range_with_len 0 l.k)
