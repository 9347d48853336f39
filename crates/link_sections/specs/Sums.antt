-- What is added to the address of what a relocation stands for (RISC-V ELF psABI, "Relocations": A).
use Rattle.std.specs.Prelude.{ℤ}
use Rattle.lk_tables.specs.declared.objects.Reloc.{Reloc}
use Rattle.link_sections.specs.declared.targets.Target.{Target}
use Rattle.link_sections.specs.declared.targets.Target.TheVariants as targets

-- A: of a section and of a piece, what is to be added to the byte that is meant
abbrev pub addend_of : Target → Reloc → ℤ
addend_of (targets.Section section offset rest) r = rest
addend_of (targets.Piece pool piece offset rest) r = rest
addend_of (targets.Number n) r = r.addend
addend_of targets.Zero r = r.addend
addend_of (targets.Linker n) r = r.addend
addend_of targets.Unbound r = r.addend
