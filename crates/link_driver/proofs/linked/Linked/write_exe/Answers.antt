use Rattle.std.proofs.Common.{◌≡◌, ℕ, ◌<◌, List, length, take, ap, subst}
use Rattle.std.specs.Prelude.{OnErr}
use Rattle.lk_depot.specs.Files.{added_if_seen}
use Rattle.link_driver.specs.Linked.{LinkedView}
use Rattle.link_driver.proofs.linked.Linked.write_exe.Goals as goal

pub returns-clause-err : goal.returns-clause-err
returns-clause-err g c =
    let before = g.D.Depot.store c.args.depot.now in
    let after = g.D.Depot.store c.write_windows.new.depot in
    let P : List ℕ → Type 0 = λ exe.
    OnErr c.write_windows.result ((n : ℕ) × (n < length exe) × (after.files ≡ added_if_seen c.args.name.now (take n exe) before.files)) in
    subst P (ap (λ (l : LinkedView). l.exe) c.self.view_is) c.write_windows.ensures.err
