use Rattle.std.proofs.Common.{length, ◌-◌, ◌≡◌, ◌≤◌, take}
use Rattle.lk_depot.specs.Output.{said_if_seen}
use Rattle.lk_depot.proofs.writing.say_all.Given as goal

-- a prefix of the bytes was written
abbrev pub invariant-loop-said : goal.invariant-loop-said
invariant-loop-said g l =
    let before = g.S.Sink.output l.fn.sink in
    let now = g.S.Sink.output l.sink in
    record {
      within : l.said ≤ length l.bytes;
      written : now.written ≡ said_if_seen (take l.said l.bytes) before.written;
      later : before.faults ≤ now.faults;
    }

abbrev pub decreases-loop-said : goal.decreases-loop-said
decreases-loop-said g l = length l.bytes - l.said
