use Rattle.std.proofs.Common.{List, subst}
use Rattle.std.specs.Prelude.{Result}
use Rattle.std.proofs.lemmas.Result.{IfOk-weaker}
use Rattle.lk_base.specs.declared.defects.Flaw.{Flaw}
use Rattle.lk_tables.specs.Checks.{Gives}
use Rattle.lk_tables.specs.Objects.{relocs_for}
use Rattle.lk_tables.proofs.Passing.{found_from, refused_from}
use Rattle.lk_tables.specs.Records.{RecordView, records_of}
use Rattle.eh_frame.specs.Sections.{bytes_of, frame_checks, frames_of}
use Rattle.lk_tables.specs.RecordViews.{record_views}
use Rattle.eh_frame.proofs.Answering.{read_as, refused_as}
use Rattle.eh_frame.proofs.sections.read_frames.Goals as goal

pub returns-clause-found : goal.returns-clause-found
unfolding frames_of
returns-clause-found c =
    let b = c.args.bytes.now in
    let k = c.args.section in
    IfOk-weaker c.read_section.result _ _ (λ v h. record { parts = h.0; sound = h.1 })
    (found_from (λ v. record_views v.items) (frame_checks b k) (records_of (bytes_of b k) (relocs_for b k)) c.read_section.result c.read_section.ensures)

pub returns-clause-only : goal.returns-clause-only
returns-clause-only c = λ list is.
    subst (λ (r : Result (List RecordView) Flaw). Gives (λ v. record_views v.items) c.read_section.result r)
    (read_as c.args.bytes.now c.args.section list is) c.read_section.ensures

pub returns-clause-refused : goal.returns-clause-refused
unfolding frames_of
returns-clause-refused c = λ flaw is.
    let b = c.args.bytes.now in
    let k = c.args.section in
    refused_from (λ v. record_views v.items) (frame_checks b k) (records_of (bytes_of b k) (relocs_for b k)) c.read_section.result flaw c.read_section.ensures is

pub returns-clause-broken : goal.returns-clause-broken
returns-clause-broken c = λ flaw is.
    subst (λ (r : Result (List RecordView) Flaw). Gives (λ v. record_views v.items) c.read_section.result r)
    (refused_as c.args.bytes.now c.args.section flaw is) c.read_section.ensures
