use Rattle.std.proofs.Common.{◌≡◌, ◌≤◌, map, take, string_bytes}
use Rattle.lk_depot.specs.Loading.{AreContents, bytes_of_each}
use Rattle.lk_depot.proofs.loading.load_all.Given as goal

-- the files so far are loaded, and all else is as it was
abbrev pub invariant-loop-index : goal.invariant-loop-index
invariant-loop-index g l =
    let before = g.D.Depot.store l.fn.depot in
    let now = g.D.Depot.store l.depot in
    record {
      loaded : AreContents before.files (take l.index (map string_bytes l.names)) (bytes_of_each l.contents);
      unread : now.unread ≡ before.unread;
      files : now.files ≡ before.files;
      kinds : now.kinds ≡ before.kinds;
      begun : now.begun ≡ before.begun;
      later : before.faults ≤ now.faults;
    }
