use Rattle.std.proofs.Common.{◌≡◌, ◌+◌, ◌++◌, drop}
use Rattle.std.specs.List.{sum_by}
use Rattle.lk_tables.specs.Frames.{lists_of}
use Rattle.eh_frame.specs.Bytes.{placed_from}
use Rattle.eh_frame.specs.Plan.{size_of}
use Rattle.eh_frame.proofs.placing.push_placed.Given as goal

abbrev pub invariant-loop-number : goal.invariant-loop-number
invariant-loop-number l =
    let lists = lists_of l.frames in
    record {
      room : l.at + sum_by (size_of lists) (drop l.number-index l.numbers) ≡ l.from + sum_by (size_of lists) l.numbers;
      list : l.placed.items ++ placed_from lists l.at (drop l.number-index l.numbers) ≡ l.fn.placed.items ++ placed_from lists l.from l.numbers;
    }
