use Rattle.std.proofs.Common.{◌*◌, ◌∙◌, ap, drop, length, take}
use Rattle.link_driver.proofs.BlockWise.{prepared_for, same_exe, within_file}
use Rattle.link_driver.proofs.linked.fill_from.Goals as goal

pub fill_window-requires-clause-prepared : goal.fill_window-requires-clause-prepared
fill_window-requires-clause-prepared g c = λ κs bound.
    let is = c.view_of-view.ensures in
    prepared_for c.args.executable.now c.view_of-view.result is.files is.binding is.kept is.strip is.leaders is.laid

pub fill_window-requires-clause-within : goal.fill_window-requires-clause-within
fill_window-requires-clause-within g c = λ κs bound.
    let is = c.view_of-view.ensures in
    within_file c.args.executable.now c.view_of-view.result is.files is.binding is.kept is.strip is.leaders is.laid c.args.k (length c.args.window.now) c.requires

pub returns : goal.returns
returns g c =
    let is = c.view_of-view.ensures in
    c.fill_window.ensures
    ∙ ap (λ xs. take (length c.args.window.now) (drop (65536 * c.args.k) xs))
    (same_exe c.args.executable.now c.view_of-view.result is.files is.binding is.kept is.strip is.leaders is.laid)
