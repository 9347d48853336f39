use Rattle.std.proofs.Common.{arith, ◌∙◌}
use Rattle.std.proofs.lemmas.Int.{to_z-of_z}
use Rattle.lk_base.specs.Formats.{field_of}
use Rattle.lk_base.specs.RelocKinds.{kind_of}
use Rattle.lk_base.proofs.TableLines.{has_value_if, width_few, width_some}
use Rattle.rv_code.proofs.WholePlaces.{patched_by}
use Rattle.rv_code.proofs.ReadingBack.{same_field}
use Rattle.rv_code.proofs.places.patch_bits.Goals as goal

pub read_uint-old-requires-clause-low : goal.read_uint-old-requires-clause-low
read_uint-old-requires-clause-low c = omega (arith, c.requires.width, width_some c.args.kind (has_value_if c.args.kind c.requires.value))

pub read_uint-old-requires-clause-high : goal.read_uint-old-requires-clause-high
read_uint-old-requires-clause-high c = omega (arith, c.requires.width, width_few c.args.kind)

pub write_number-requires : goal.write_number-requires
write_number-requires c = omega (arith, c.requires.width, width_few c.args.kind)

pub returns : goal.returns
returns c =
    let fits = c.ranges.v in
    let bits = simp to_z-of_z at c.put_value-new.ensures in
    c.write_number.ensures
    ∙ patched_by (field_of c.kind_of-line.result.format) (kind_of c.args.kind).field c.args.v c.args.place.now
    c.read_uint-old.result c.put_value-new.result c.put_value-new.type_inv (same_field c.kind_of-line.result c.args.kind c.kind_of-line.ensures.line)
    c.read_uint-old.ensures bits
