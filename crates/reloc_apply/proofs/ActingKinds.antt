-- A kind that puts a value into a field does so for what a call becomes, too.
use Rattle.std.proofs.Common.{◌≡◌, ℕ, ◌==◌, Bool, true, false, List, refl}
use Rattle.std.specs.Prelude.{if◌then◌else◌}
use Rattle.lk_base.specs.RelocKinds.{FillsField, HasValue, fills_field, has_value, is_uleb, kind_of}
use Rattle.lk_base.proofs.TableLines.{fills_if}
use Rattle.lk_base.specs.declared.abi.TheConstants.{R_RISCV_JAL, R_RISCV_RVC_JUMP}
use Rattle.lk_tables.specs.declared.objects.Reloc.{Reloc}
use Rattle.link_sections.specs.Calls.{acting_number, call_size, is_call, kind_by_size}
use Rattle.link_sections.specs.Cuts.{Cut}

jump_has : FillsField R_RISCV_JAL
unfolding fills_field has_value is_uleb kind_of
jump_has = refl

short_has : FillsField R_RISCV_RVC_JUMP
unfolding fills_field has_value is_uleb kind_of
short_has = refl

sized_has : (a b : Bool) (kind : ℕ) → FillsField kind → FillsField (if a then R_RISCV_JAL else (if b then R_RISCV_RVC_JUMP else kind))
sized_has true b kind has = jump_has
sized_has false true kind has = short_has
sized_has false false kind has = has

either_has : (a : Bool) (x y : ℕ) → FillsField x → FillsField y → FillsField (if a then x else y)
either_has true x y one two = one
either_has false x y one two = two

pub acting_fills : (cuts : List Cut) (r : Reloc) → HasValue r.kind → is_uleb r.kind ≡ false → FillsField (acting_number cuts r)
unfolding acting_number
acting_fills cuts r has plain =
    let fills = fills_if r.kind has plain in
    either_has (is_call r.kind) (kind_by_size (call_size cuts r.offset) r.kind) r.kind
    (sized_has (call_size cuts r.offset == 4) (call_size cuts r.offset == 2) r.kind fills) fills
