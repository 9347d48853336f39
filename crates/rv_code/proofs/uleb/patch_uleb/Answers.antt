use Rattle.std.proofs.Common.{ap, pos, ◌∙◌}
use Rattle.std.proofs.lemmas.Int.{to_z-of_z}
use Rattle.rv_code.specs.Uleb.{uleb_number}
use Rattle.rv_code.proofs.UlebNumbers.{reads_back}
use Rattle.rv_code.proofs.uleb.patch_uleb.Goals as goal

pub returns-clause-reads_back : goal.returns-clause-reads_back
returns-clause-reads_back c =
    let fits = c.ranges.v in
    let value = simp to_z-of_z at c.patch_uleb_bits.ensures in
    ap (λ place. pos (uleb_number place)) value ∙ reads_back c.args.v c.args.place.now c.requires
