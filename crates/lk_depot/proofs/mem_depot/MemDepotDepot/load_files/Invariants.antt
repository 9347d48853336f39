use Rattle.std.proofs.Common.{◌≡◌, map, take, string_bytes}
use Rattle.lk_depot.specs.Loading.{AreContents, bytes_of_each}
use Rattle.lk_depot.specs.Shelf.{store_of, after_calls}
use Rattle.lk_depot.specs.ShelfLoads.{GiveFiles}
use Rattle.lk_depot.proofs.mem_depot.MemDepotDepot.load_files.Given as goal

-- each load so far gave its file, and all else is as it was
abbrev pub invariant-loop-index : goal.invariant-loop-index
invariant-loop-index g l =
    record {
      loaded : AreContents (store_of l.fn.self).files (take l.index (map string_bytes l.names)) (bytes_of_each l.contents);
      given : GiveFiles l.fn.self (map string_bytes l.names) l.index;
      left : l.self ≡ after_calls l.fn.self l.index;
    }
