use Rattle.std.proofs.Common.{◌≡◌, ◌≤◌, map, take, string_bytes}
use Rattle.lk_depot.specs.Loading.{AreContents, bytes_of_each}
use Rattle.lk_depot.proofs.store.Depot.load_files.Given as goal

-- the files so far are loaded, and all else is as it was
abbrev pub invariant-loop-index : goal.invariant-loop-index
invariant-loop-index g l =
    let before = g.Self.Depot.store l.fn.self in
    let now = g.Self.Depot.store l.self in
    record {
      loaded : AreContents before.files (take l.index (map string_bytes l.names)) (bytes_of_each l.contents);
      unread : now.unread ≡ before.unread;
      files : now.files ≡ before.files;
      kinds : now.kinds ≡ before.kinds;
      begun : now.begun ≡ before.begun;
      later : before.faults ≤ now.faults;
    }
