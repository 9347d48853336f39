use Rattle.std.proofs.Common.{◌≡◌, ◌++◌, List, None, length, get_or}
use Rattle.std.specs.Vec.Iter.{into_iter_items}
use Rattle.lk_tables.specs.FileView.{file_views}
use Rattle.lk_tables.specs.Files.{File, file_at}
use Rattle.lk_tables.specs.Gathering.{with_object}
use Rattle.lk_tables.proofs.Putting.{put}
use Rattle.lk_tables.proofs.opening.put_bodies.Given as goal

abbrev pub invariant-loop-object : goal.invariant-loop-object
invariant-loop-object l =
    let old : List File = file_views l.initial.files.items in
    goal.iterator-loop-object.can_next l.object-iterator
    × goal.iterator-loop-object.is_finite l.object-iterator
    × (l.yielded ++ into_iter_items l.object-iterator ≡ l.fn.objects.items)
    × (l.f ≡ length l.yielded)
    × (file_views l.files.items ≡ put (λ k. with_object (file_at old k) (get_or l.fn.objects.items k None)) old l.f)
