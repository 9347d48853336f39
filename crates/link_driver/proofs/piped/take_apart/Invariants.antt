use Rattle.std.proofs.Common.{◌≡◌, ◌++◌, true, length, flat_map}
use Rattle.std.specs.List.{range_with_len}
use Rattle.std.specs.Vec.Iter.{into_iter_items}
use Rattle.lk_base.specs.Limits.{standard}
use Rattle.piped_reads.specs.Loads.{bytes_of_files}
use Rattle.link_passes.specs.Contents.{contents_of}
use Rattle.link_passes.specs.Known.{AreHeads}
use Rattle.link_passes.specs.Sources.{sources_at}
use Rattle.link_driver.proofs.piped.take_apart.Given as goal

abbrev pub invariant-loop-file : goal.invariant-loop-file
invariant-loop-file l =
    (goal.iterator-loop-file).can_next l.file-iterator
    × (goal.iterator-loop-file).is_finite l.file-iterator
    × (l.yielded ++ into_iter_items l.file-iterator ≡ l.fn.piped.files.items)
    × (contents_of l.contents.items ≡ bytes_of_files l.yielded)
    × (l.sound ≡ true → AreHeads (flat_map (sources_at standard (bytes_of_files l.fn.piped.files.items)) (range_with_len 0 (length l.yielded))) l.heads.items)
