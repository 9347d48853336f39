use Rattle.std.proofs.Common.{◌≡◌, ℕ, ◌*◌, ◌+◌, ◌-◌, ◌∙◌, ap, arith, length, refl, sym, take}
use Rattle.std.proofs.lemmas.List.{length-take-le}
use Rattle.lk_depot.specs.Files.{added_if_seen}
use Rattle.lk_depot.proofs.Counts.{later_then_rose}
use Rattle.lk_depot.proofs.NamedMaps.{added_if_seen_nothing}
use Rattle.link_driver.specs.Linked.{exe_of}
use Rattle.link_driver.proofs.BlockWise.{window_added, window_cut}
use Rattle.link_driver.proofs.linked.write_windows.Goals as goal

pub loop-done-init : goal.loop-done-init
loop-done-init g c = record {
  within = omega arith;
  whole = λ lt. omega arith;
  low = omega arith;
  wide = refl;
  files = sym (added_if_seen_nothing c.args.name.now _);
  kinds = refl;
  begun = refl;
  unread = refl;
  later = omega arith;
}

pub loop-done-preserved : goal.loop-done-preserved
loop-done-preserved g c =
    let exe = exe_of c.args.executable.now in
    let name = c.args.name.now in
    let before = (g.D.Depot.store c.args.depot.now).files in
    let l = c.loop-done in
    let inv = l.invariant in
    let size : ℕ = c.min-size.result in
    let whole : c.length_of-end.result ≡ length exe = c.length_of-end.ensures.value in
    let wide : length l.window ≡ length c.args.window.now = inv.wide in
    let long : length (take size l.window) ≡ size = length-take-le size l.window (omega (arith, wide)) in
    let aligned : l.done ≡ 65536 * l.k = inv.whole (omega (arith, whole)) in
    record {
      within = omega (arith, whole);
      whole = λ lt. omega (arith, whole, aligned, lt);
      low = omega (arith, whole, aligned, wide);
      wide = omega (arith, wide, long);
      files = c.in-Ok.ensures.ok ∙ ap (added_if_seen name _) inv.files ∙ window_added name exe l.done l.k (length (take size l.window)) before aligned
          ∙ ap (λ n. added_if_seen name (take (l.done + n) exe) before) long;
      kinds = c.in-Ok.ensures.kinds ∙ inv.kinds;
      begun = c.in-Ok.ensures.begun ∙ inv.begun;
      unread = c.in-Ok.ensures.unread ∙ inv.unread;
      later = omega (arith, inv.later, c.in-Ok.ensures.cause.later);
    }

pub returns-in-Err-clause-err : goal.returns-in-Err-clause-err
returns-in-Err-clause-err g c =
    let exe = exe_of c.args.executable.now in
    let l = c.loop-done in
    let size : ℕ = c.min-size.result in
    let whole : c.length_of-end.result ≡ length exe = c.length_of-end.ensures.value in
    let wide : length l.window ≡ length c.args.window.now = l.invariant.wide in
    let long : length (take size l.window) ≡ size = length-take-le size l.window (omega (arith, wide)) in
    window_cut c.args.name.now exe l.done l.k (length (take size l.window)) (g.D.Depot.store c.args.depot.now).files _ _
    (l.invariant.whole (omega (arith, whole))) (omega (arith, whole, long)) l.invariant.files c.in-Err.ensures.err

pub returns-in-Err-clause-cause : goal.returns-in-Err-clause-cause
returns-in-Err-clause-cause g c = record {
  later = omega (arith, c.loop-done.invariant.later, c.in-Err.ensures.cause.later);
  failed = later_then_rose _ _ _ c.loop-done.invariant.later c.in-Err.ensures.cause.failed;
}

pub write_window-requires-clause-within : goal.write_window-requires-clause-within
write_window-requires-clause-within g c = λ κs bound.
    let exe = exe_of c.args.executable.now in
    let l = c.loop-done in
    let size : ℕ = c.min-size.result in
    let whole : c.length_of-end.result ≡ length exe = c.length_of-end.ensures.value in
    let wide : length l.window ≡ length c.args.window.now = l.invariant.wide in
    let long : length (take size l.window) ≡ size = length-take-le size l.window (omega (arith, wide)) in
    let aligned : l.done ≡ 65536 * l.k = l.invariant.whole (omega (arith, whole)) in
    omega (arith, aligned, whole, long)
