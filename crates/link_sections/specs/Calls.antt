-- What a call becomes of which not all bytes stay (RISC-V ELF psABI, "Function Call Relaxation").
use Rattle.std.specs.Prelude.{◌≡◌, ℕ, ◌==◌, ◌&&◌, ◌⊎◌, not, Bool, true, false, if◌then◌else◌, List, [], ◌∷◌, find}
use Rattle.std.specs.Option.{option_map_or}
use Rattle.lk_base.specs.RelocKinds.{Kind, is_among, is_uleb, kind_of}
use Rattle.lk_base.specs.declared.abi.TheConstants.{R_RISCV_CALL, R_RISCV_CALL_PLT, R_RISCV_JAL, R_RISCV_RVC_JUMP}
use Rattle.lk_tables.specs.declared.objects.Reloc.{Reloc}
use Rattle.lk_tables.specs.Relocations.{value_len}
use Rattle.link_sections.specs.Cuts.{Cut}

-- a call: auipc and jalr
unfoldable pub is_call : (kind : ℕ) → Bool
is_call = is_among (R_RISCV_CALL ∷ R_RISCV_CALL_PLT ∷ [])

-- the cut of a call of which two or four bytes stay
pub record IsOwnCall (c : Cut) (r : Reloc) : Type 0 where
  pub call : is_call r.kind ≡ true
  pub at : c.at ≡ r.offset
  pub plain : c.is_align ≡ false
  pub whole : c.whole ≡ 8
  pub kept : (c.kept ≡ 2) ⊎ (c.kept ≡ 4)

abbrev pub is_call_cut : (offset : ℕ) → Cut → Bool
is_call_cut offset c = c.at == offset && not c.is_align

-- how many bytes a call at an offset has, once those are gone that do not stay
unfoldable pub call_size : List Cut → (offset : ℕ) → ℕ
call_size cuts offset = option_map_or (λ (c : Cut). c.kept) (find (is_call_cut offset) cuts) 8

-- one of four bytes is `jal`, one of two is `c.j`
abbrev pub kind_by_size : (size kind : ℕ) → ℕ
kind_by_size size kind = if size == 4 then R_RISCV_JAL else (if size == 2 then R_RISCV_RVC_JUMP else kind)

-- the kind of relocation that fills the place of a relocation
unfoldable pub acting_number : List Cut → Reloc → ℕ
acting_number cuts r = if is_call r.kind then kind_by_size (call_size cuts r.offset) r.kind else r.kind

abbrev pub acting_kind : List Cut → Reloc → Kind
acting_kind cuts r = kind_of (acting_number cuts r)

-- the bytes of its place, by its kind
abbrev pub acting_width : List Cut → Reloc → ℕ
acting_width cuts r = (acting_kind cuts r).width

-- how many bytes its place has in a section of these contents: a ULEB128 number is as long as its bytes say
unfoldable pub width_in : (contents : List ℕ) → List Cut → Reloc → ℕ
width_in contents cuts r = if is_uleb r.kind then value_len contents r else acting_width cuts r
