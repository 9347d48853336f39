use Rattle.std.proofs.Common.{◌∙◌, length}
use Rattle.byteorder.proofs.Bytes.{take-bytes_low_first}
use Rattle.rv_code.proofs.places.write_number.Goals as goal

pub returns : goal.returns
returns c =
    let bytes = rw c.to_le_bytes.ensures at c.copy_from_slice.ensures.after in
    bytes ∙ take-bytes_low_first 0 8 (length c.args.place.now) c.args.number c.requires
