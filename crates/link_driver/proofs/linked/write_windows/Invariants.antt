use Rattle.std.proofs.Common.{length, ◌*◌, ◌+◌, ◌-◌, ◌<◌, ◌≡◌, ◌≤◌, take}
use Rattle.lk_depot.specs.Files.{added_if_seen}
use Rattle.link_driver.specs.Linked.{exe_of}
use Rattle.link_driver.proofs.linked.write_windows.Given as goal

-- the first bytes were added, whole windows of them unless they are all, and all else is as it was
abbrev pub invariant-loop-done : goal.invariant-loop-done
invariant-loop-done g l =
    let exe = exe_of l.executable in
    let before = g.D.Depot.store l.fn.depot in
    let now = g.D.Depot.store l.depot in
    record {
      within : l.done ≤ length exe;
      whole : l.done < length exe → l.done ≡ 65536 * l.k;
      low : 65536 * l.k ≤ length exe + length l.fn.window;
      wide : length l.window ≡ length l.fn.window;
      files : now.files ≡ added_if_seen l.name (take l.done exe) before.files;
      kinds : now.kinds ≡ before.kinds;
      begun : now.begun ≡ before.begun;
      unread : now.unread ≡ before.unread;
      later : before.faults ≤ now.faults;
    }

abbrev pub decreases-loop-done : goal.decreases-loop-done
decreases-loop-done g l = length (exe_of l.executable) - l.done
