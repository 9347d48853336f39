use Rattle.std.proofs.Common.{List, length, subst, sym, arith}
use Rattle.std.proofs.lemmas.List.{length-map}
use Rattle.lk_tables.specs.FileView.{file_view, file_views}
use Rattle.name_numbers.specs.declared.keys.Listed.{Listed}
use Rattle.name_numbers.specs.Columns.{AreRuns}
use Rattle.name_numbers.proofs.Columns.{firsts_all, keys_all}
use Rattle.name_numbers.proofs.JoinedRuns.{runs_joined}
use Rattle.name_numbers.proofs.Keyed.{length_starts}
use Rattle.name_numbers.proofs.listing.keys_of.Goals as goal

pub bounds-starts-files : goal.bounds-starts-files
bounds-starts-files g c = omega (arith, length_starts c.args.files.now c.args.starts.now c.requires.starts)

pub returns-clause-keys : goal.returns-clause-keys
returns-clause-keys g c =
    let files = file_views c.args.files.now in
    let n = length c.args.files.now in
    let P : List Listed → Type 0 = AreRuns files 0 n in
    keys_all files n c.in_ok-listed.listed (sym (length-map c.args.files.now file_view))
    (runs_joined files 0 n c.as_slice.result.now c.in_ok-listed.listed (subst P (sym c.as_slice.ensures.value) c.in_ok-runs.ensures) c.in_ok-listed.ensures)

pub returns-clause-firsts : goal.returns-clause-firsts
returns-clause-firsts g c =
    let files = file_views c.args.files.now in
    let n = length c.args.files.now in
    let P : List Listed → Type 0 = AreRuns files 0 n in
    firsts_all files n c.in_ok-listed.listed (sym (length-map c.args.files.now file_view))
    (runs_joined files 0 n c.as_slice.result.now c.in_ok-listed.listed (subst P (sym c.as_slice.ensures.value) c.in_ok-runs.ensures) c.in_ok-listed.ensures)
