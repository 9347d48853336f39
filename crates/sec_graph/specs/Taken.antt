-- Sections whose address is taken: a kept section refers to them by more than a branch, a jump or a call (RISC-V ELF psABI, "Relocations"). The lower
-- part of a PC-relative address names the place of its upper part, and so no address of its own.
use Rattle.std.specs.Prelude.{ℕ, ◌&&◌, ◌==◌, not, Bool, if◌then◌else◌, List, [], ◌∷◌, map}
use Rattle.std.specs.List.{list_any, range_with_len}
use Rattle.lk_base.specs.RelocKinds.{is_among, names_a_symbol}
use Rattle.lk_base.specs.declared.abi.TheConstants.{R_RISCV_BRANCH, R_RISCV_CALL, R_RISCV_CALL_PLT, R_RISCV_JAL, R_RISCV_PCREL_LO12_I, R_RISCV_PCREL_LO12_S, R_RISCV_RVC_BRANCH, R_RISCV_RVC_JUMP}
use Rattle.link_sections.specs.Leaders.{is_kept}
use Rattle.lk_tables.specs.declared.bounds.Spot.{Spot}
use Rattle.lk_tables.specs.declared.bounds.Spot.TheVariants.{Linker, Number, Section, Unbound, Zero}
use Rattle.lk_tables.specs.declared.objects.Reloc.{Reloc}
use Rattle.lk_tables.specs.Binding.{Bindings}
use Rattle.lk_tables.specs.Files.{File, section_no, section_total}
use Rattle.lk_tables.specs.Targets.{spot_of}
use Rattle.lk_tables.specs.Walks.{over_relocs}

-- code only goes to the symbol, or the symbol is a label in the section itself
abbrev pub only_goes : ℕ → Bool
only_goes kind = is_among (R_RISCV_BRANCH ∷ R_RISCV_JAL ∷ R_RISCV_CALL ∷ R_RISCV_CALL_PLT
    ∷ R_RISCV_PCREL_LO12_I ∷ R_RISCV_PCREL_LO12_S ∷ R_RISCV_RVC_BRANCH ∷ R_RISCV_RVC_JUMP ∷ []) kind

abbrev pub takes_address : ℕ → Bool
takes_address kind = names_a_symbol kind && not (only_goes kind)

abbrev pub section_of : Spot → List ℕ
section_of (Section section offset rest) = section ∷ []
section_of (Number n) = []
section_of Zero = []
section_of (Linker n) = []
section_of Unbound = []

module _ (files : List File) (b : Bindings) where
  -- the section whose address a relocation of file f takes, and one of section k of file f if that is kept
  unfoldable pub taken_by : (f : ℕ) → Reloc → List ℕ
  taken_by f r = if takes_address r.kind then section_of (spot_of files b f r) else []

  unfoldable pub taken_at : (kept : List Bool) → (f k : ℕ) → Reloc → List ℕ
  taken_at kept f k r = if is_kept kept (section_no files f k) then taken_by f r else []

  -- the sections whose address any relocation takes, in order of the relocations
  abbrev pub taken_sections : (kept : List Bool) → List ℕ
  taken_sections kept = over_relocs files (taken_at kept)

  -- by section number, whether its address is taken
  unfoldable pub address_taken : (kept : List Bool) → List Bool
  address_taken kept = map (λ n. list_any (λ taken. taken == n) (taken_sections kept)) (range_with_len 0 (section_total files))
