use Rattle.std.proofs.Common.{length, ◌-◌, ◌≡◌, ◌≤◌, take}
use Rattle.lk_depot.specs.Files.{added_if_seen}
use Rattle.link_driver.proofs.linked.put_blocks.Given as goal

-- a prefix of the bytes was added, and all else is as it was
abbrev pub invariant-loop-done : goal.invariant-loop-done
invariant-loop-done g l =
    let before = g.D.Depot.store l.fn.depot in
    let now = g.D.Depot.store l.depot in
    record {
      within : l.done ≤ length l.bytes;
      files : now.files ≡ added_if_seen l.name (take l.done l.bytes) before.files;
      kinds : now.kinds ≡ before.kinds;
      begun : now.begun ≡ before.begun;
      unread : now.unread ≡ before.unread;
      later : before.faults ≤ now.faults;
    }

abbrev pub decreases-loop-done : goal.decreases-loop-done
decreases-loop-done g l = length l.bytes - l.done
