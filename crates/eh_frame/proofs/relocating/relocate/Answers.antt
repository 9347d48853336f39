use Rattle.std.proofs.Common.{◌<◌, length, get_or, arith}
use Rattle.lk_tables.specs.Files.{no_reloc}
use Rattle.eh_frame.proofs.PutSteps.{fills_some, fills_width}
use Rattle.eh_frame.proofs.relocating.relocate.Goals as goal

pub relocate_one-requires-clause-within : goal.relocate_one-requires-clause-within
relocate_one-requires-clause-within c = λ fills.
    let i = c.loop-reloc.reloc-index in
    let r = get_or c.args.relocs.now i no_reloc in
    let lt : i < length c.args.relocs.now = c.loop-reloc-test.true in
    let within = c.requires.places i no_reloc lt (fills_some r fills) in
    let after = c.requires.after i no_reloc lt in
    let size = c.loop-reloc.invariant.size in
    omega (arith, within, after, size, fills_width r fills)
