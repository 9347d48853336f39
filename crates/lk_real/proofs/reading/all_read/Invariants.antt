use Rattle.std.proofs.Common.{◌≡◌, ◌++◌, map, Some}
use Rattle.std.specs.Vec.Iter.{into_iter_items}
use Rattle.lk_real.proofs.reading.all_read.Given as goal

-- the files so far were all read
abbrev pub invariant-loop-file : goal.invariant-loop-file
invariant-loop-file l =
    goal.iterator-loop-file.can_next l.file-iterator
    × goal.iterator-loop-file.is_finite l.file-iterator
    × (l.yielded ++ into_iter_items l.file-iterator ≡ l.fn.files.items)
    × (l.yielded ≡ map Some l.contents.items)
