use Rattle.std.proofs.Common.{◌≡◌, drop, flat_map}
use Rattle.lk_tables.proofs.walks.first_in_section.Given as goal

abbrev pub invariant-loop-reloc : goal.invariant-loop-reloc
invariant-loop-reloc g l =
    flat_map (g.T.RelocTest.defects l.test l.file l.section) (drop l.reloc-index l.relocs)
    ≡ flat_map (g.T.RelocTest.defects l.test l.file l.section) l.relocs
