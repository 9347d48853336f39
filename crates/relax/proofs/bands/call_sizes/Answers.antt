use Rattle.std.proofs.Common.{ℕ, List, Option, IfSome, length, sym, subst}
use Rattle.std.specs.Global.{Vec}
use Rattle.std.specs.List.{All}
use Rattle.relax.specs.declared.bands.Open.{Open}
use Rattle.relax.specs.declared.jumps.Jump.{Jump}
use Rattle.relax.specs.Bands.{IsBanded, IsOpenOf}
use Rattle.relax.specs.Jumps.{AreBelow, AreSafe}
use Rattle.relax.specs.Points.{jumps_in}
use Rattle.relax.proofs.BandParts.{all_opens, is_banded}
use Rattle.relax.proofs.bands.call_sizes.Goals as goal

pub settled-requires : goal.settled-requires
settled-requires g c =
    let x = c.in_ok-banded.banded in
    record {
      opens = subst (λ (l : List Open). All (IsOpenOf (length x.sizes.items)) l) (sym c.as_slice.ensures.value)
          (all_opens c.args.members.now c.args.rows.now c.requires.sound x c.in_ok-banded.ensures);
    }

pub returns-in-Some-clause-safe : goal.returns-in-Some-clause-safe
returns-in-Some-clause-safe g c =
    let ms = c.args.members.now in
    let rows = c.args.rows.now in
    let x = c.in_ok-banded.banded in
    let os = c.as_slice.result.now in
    let banded : IsBanded (jumps_in ms rows) os x.sizes.items =
    subst (λ (l : List Open). IsBanded (jumps_in ms rows) l x.sizes.items) (sym c.as_slice.ensures.value) (is_banded ms rows c.requires.sound x c.in_ok-banded.ensures) in
    let P : Option (Vec ℕ) → Type 0 = λ o. IfSome o (λ z. (jumps : List Jump) → IsBanded jumps os x.sizes.items → AreSafe jumps z.items × AreBelow jumps z.items) in
    let told = subst P c.in-Some.is c.in_ok-sizes.ensures in
    (told (jumps_in ms rows) banded).0

pub returns-in-Some-clause-least : goal.returns-in-Some-clause-least
returns-in-Some-clause-least g c =
    let ms = c.args.members.now in
    let rows = c.args.rows.now in
    let x = c.in_ok-banded.banded in
    let os = c.as_slice.result.now in
    let banded : IsBanded (jumps_in ms rows) os x.sizes.items =
    subst (λ (l : List Open). IsBanded (jumps_in ms rows) l x.sizes.items) (sym c.as_slice.ensures.value) (is_banded ms rows c.requires.sound x c.in_ok-banded.ensures) in
    let P : Option (Vec ℕ) → Type 0 = λ o. IfSome o (λ z. (jumps : List Jump) → IsBanded jumps os x.sizes.items → AreSafe jumps z.items × AreBelow jumps z.items) in
    let told = subst P c.in-Some.is c.in_ok-sizes.ensures in
    (told (jumps_in ms rows) banded).1
