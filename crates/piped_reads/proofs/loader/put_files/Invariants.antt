use Rattle.std.proofs.Common.{◌≡◌, [], map, take, string_bytes}
use Rattle.std.specs.Prelude.{Ok}
use Rattle.crossbeam_queue.specs.Passes.{view, IsPassOf, IsSamePass}
use Rattle.piped_reads.specs.Loads.{ArePut, IsKept}
use Rattle.piped_reads.proofs.loader.put_files.Given as goal

-- the files so far are loaded, and each was put or kept
abbrev pub invariant-loop-index : goal.invariant-loop-index
invariant-loop-index g l =
    let before = g.D.Depot.store l.fn.depot in
    let now = g.D.Depot.store l.depot in
    record {
      queue : IsPassOf l.line l.pass;
      same : IsSamePass l.fn.pass l.pass;
      taken : (view l.pass).taken ≡ [];
      put : ArePut l.index before now (take l.index (map string_bytes l.names)) (view l.pass).put l.results.took.items (Ok tt);
      store : IsKept before now;
    }
