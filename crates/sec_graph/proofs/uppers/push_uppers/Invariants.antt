use Rattle.std.proofs.Common.{◌≡◌, ◌++◌, drop}
use Rattle.std.specs.Prelude.{filter}
use Rattle.lk_base.specs.RelocKinds.{is_upper}
use Rattle.lk_tables.specs.declared.objects.Reloc.{Reloc}
use Rattle.sec_graph.proofs.uppers.push_uppers.Given as goal

abbrev pub invariant-loop-reloc : goal.invariant-loop-reloc
invariant-loop-reloc l =
    l.list.items ++ filter (λ (r : Reloc). is_upper r.kind) (drop l.reloc-index l.relocs) ≡ l.fn.list.items ++ filter (λ (r : Reloc). is_upper r.kind) l.relocs
