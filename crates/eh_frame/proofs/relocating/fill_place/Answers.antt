use Rattle.std.proofs.Common.{arith}
use Rattle.lk_base.proofs.TableLines.{has_value_if, width_few, width_some}
use Rattle.eh_frame.proofs.relocating.fill_place.Goals as goal

pub read_uint-held-requires-clause-low : goal.read_uint-held-requires-clause-low
read_uint-held-requires-clause-low c = omega (arith, c.requires.width, width_some c.args.reloc.now.kind (has_value_if c.args.reloc.now.kind c.requires.fills))

pub read_uint-held-requires-clause-high : goal.read_uint-held-requires-clause-high
read_uint-held-requires-clause-high c = omega (arith, c.requires.width, width_few c.args.reloc.now.kind)
