use Rattle.std.proofs.Common.{List, sym, subst, ◌∙◌, ap, length}
use Rattle.std.specs.List.{All}
use Rattle.relax.specs.declared.jumps.Jump.{Jump}
use Rattle.relax.specs.Jumps.{AreBelow, AreSafe, IsJump}
use Rattle.relax.specs.Points.{IsLowJump, jumps_in}
use Rattle.relax.proofs.SafeSizes.{jumps_are}
use Rattle.relax.proofs.bands.all_sizes.Goals as goal

pub least_sizes-requires : goal.least_sizes-requires
least_sizes-requires c =
    let ms = c.args.members.now in
    let rows = c.args.rows.now in
    let is = c.as_slice.ensures.value ∙ c.in_ok-jumps.ensures.jumps in
    let low : All IsLowJump (jumps_in ms rows) = subst (All IsLowJump) c.in_ok-jumps.ensures.jumps c.in_ok-jumps.ensures.low in
    record { jumps = subst (λ (l : List Jump). All (IsJump (length l)) l) (sym is) (jumps_are ms rows c.requires.sound low) }

pub returns-clause-safe : goal.returns-clause-safe
returns-clause-safe c =
    let is = c.as_slice.ensures.value ∙ c.in_ok-jumps.ensures.jumps in
    subst (λ (l : List Jump). AreSafe l c.in_ok-sizes.sizes.items) is c.in_ok-sizes.ensures.safe

pub returns-clause-least : goal.returns-clause-least
returns-clause-least c =
    let is = c.as_slice.ensures.value ∙ c.in_ok-jumps.ensures.jumps in
    subst (λ (l : List Jump). AreBelow l c.in_ok-sizes.sizes.items) is c.in_ok-sizes.ensures.least
