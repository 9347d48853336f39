use Rattle.std.proofs.Common.{length}
use Rattle.relax.specs.CallSizes.{all_calls}
use Rattle.relax.proofs.BandParts.{bands_joined}
use Rattle.relax.proofs.bands.bands_of.Goals as goal

pub returns : goal.returns
returns g c =
    let rows = c.args.rows.now in
    bands_joined c.args.members.now rows 0 (length (all_calls rows)) c.in_ok-parts.parts.items c.in_ok-whole.whole c.in_ok-parts.ensures c.in_ok-whole.ensures
