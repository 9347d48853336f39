use Rattle.std.proofs.lemmas.Result.{err_from_is_err_and}
use Rattle.lk_tables.specs.FileView.{file_view}
use Rattle.lk_tables.specs.Objects.{object_view}
use Rattle.lk_tables.proofs.Passing.{fails_as, none_from_ok}
use Rattle.eh_frame.specs.Sections.{all_frame_checks}
use Rattle.link_passes.proofs.WholeBodies.{body_fails, body_reads, records_fail}
use Rattle.link_passes.proofs.records.read_whole.Goals as goal

pub returns-in_err-object-clause-exact : goal.returns-in_err-object-clause-exact
returns-in_err-object-clause-exact c =
    let p = err_from_is_err_and c.from_residual.result c.from_residual.ensures.1 in
    let bad = rw c.bytes.ensures at c.in_err-object.ensures.exact in
    rw (p.1, p.2) (fails_as _ _ _ (body_fails (file_view c.args.file.now).bytes) bad)

pub read_records-requires-clause-object : goal.read_records-requires-clause-object
read_records-requires-clause-object c = rw c.bytes.ensures at c.in_ok-object.ensures.exact

pub returns-in_err-records-clause-exact : goal.returns-in_err-records-clause-exact
returns-in_err-records-clause-exact c =
    let p = err_from_is_err_and c.from_residual-in_err-records.result c.from_residual-in_err-records.ensures.1 in
    let ok = rw c.bytes.ensures at c.in_ok-object.ensures.exact in
    rw (p.1, p.2)
    (fails_as _ _ _ (λ flaw h. records_fail (file_view c.args.file.now).bytes (object_view c.in_ok-object.object) flaw ok h) c.in_err-records.ensures.checked)

pub returns-clause-exact : goal.returns-clause-exact
returns-clause-exact c =
    let ok = rw c.bytes.ensures at c.in_ok-object.ensures.exact in
    body_reads (file_view c.args.file.now).bytes (object_view c.in_ok-object.object) ok c.in_ok-records.ensures.checked

pub returns-clause-body : goal.returns-clause-body
returns-clause-body c =
    let ok = rw c.bytes.ensures at c.in_ok-object.ensures.exact in
    record {
      object = record { short = c.requires.short; head = c.requires.head; body = ok };
      records = c.in_ok-records.ensures.lists;
      sound = none_from_ok (all_frame_checks (file_view c.args.file.now).bytes) (tt {0}) (tt {0}) c.in_ok-records.ensures.checked;
    }
