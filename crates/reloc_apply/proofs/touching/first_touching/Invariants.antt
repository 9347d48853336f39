use Rattle.std.proofs.Common.{◌≡◌, ◌-◌, flat_map, length}
use Rattle.std.specs.List.{range_with_len}
use Rattle.reloc_apply.specs.Sites.{touching_at}
use Rattle.reloc_apply.proofs.touching.first_touching.Given as goal

abbrev pub invariant-loop-k : goal.invariant-loop-k
invariant-loop-k l =
    flat_map (touching_at l.view l.source l.from l.len) (range_with_len l.k (length l.source.relocs.now - l.k))
    ≡ flat_map (touching_at l.view l.source l.from l.len) (range_with_len 0 (length l.source.relocs.now - 0))
