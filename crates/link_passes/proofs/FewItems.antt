-- What may be folded is no more than the sections.
use Rattle.std.proofs.Common.{ℕ, ◌-◌, ◌≤◌, Bool, List, length, ap, arith}
use Rattle.std.specs.List.{range_with_len}
use Rattle.std.proofs.lemmas.List.FromFn.{length-range_with_len}
use Rattle.std.proofs.lemmas.List.Sums.{count_by-le-length, length-filter}
use Rattle.lk_tables.specs.Binding.{Bindings}
use Rattle.lk_tables.specs.Files.{File, section_total}
use Rattle.icf_part.specs.Chosen.{AreShared}
use Rattle.sec_graph.specs.Foldable.{foldable, is_foldable}

-- no more sections may be folded than there are
pub foldable_few : (files : List File) (b : Bindings) (kept barred : List Bool) → length (foldable files b kept barred) ≤ section_total files
unfolding foldable
foldable_few files b kept barred =
    let test = is_foldable files b kept barred in
    let all = range_with_len 0 (section_total files) in
    omega (arith, length-filter test all, count_by-le-length test all, length-range_with_len 0 (section_total files))

-- some of so many
pub shared_few : (bytes list : List ℕ) → AreShared bytes list → length list ≤ length bytes
shared_few bytes list are =
    let all = range_with_len 0 (length bytes) in
    omega (arith, ap length are.list_is, length-filter are.test all, count_by-le-length are.test all, length-range_with_len 0 (length bytes))
