use Rattle.std.proofs.Common.{◌≡◌, ◌≤◌, Bool, [], ℕ, arith, ap, ◌∙◌, sym, length, subst, Ok}
use Rattle.std.specs.Prelude.{if◌then◌else◌, IfSome}
use Rattle.std.proofs.lemmas.Result.{err_from_is_err_and}
use Rattle.lk_base.specs.declared.abi.TheConstants.{FILE_MAX}
use Rattle.lk_base.specs.Firsts.{StopsAt}
use Rattle.lk_base.proofs.Loops.{pass_step, stop_step}
use Rattle.lk_tables.specs.Files.{File}
use Rattle.lk_tables.specs.FileView.{file_view}
use Rattle.lk_tables.specs.Heads.{head_of}
use Rattle.work_split.proofs.Sharing.{each_pushed}
use Rattle.link_passes.specs.Contents.{sources_of}
use Rattle.link_passes.specs.Defects.{body_defects, body_defects_at}
use Rattle.link_passes.specs.Reading.{IsBody, IsBodyAt}
use Rattle.link_passes.specs.Sources.{headed, source_at}
use Rattle.link_passes.proofs.FileFacts.{count_views, headed_at, opened_head}
use Rattle.link_passes.proofs.bodies.read_piece.Goals as goal

pub bounds-files-at : goal.bounds-files-at
bounds-files-at c =
    let ss = sources_of c.args.sources.now in
    omega (arith, count_views c.args.files.now (headed ss) (length c.args.sources.now) c.requires.files)

pub read_wanted-requires-clause-head : goal.read_wanted-requires-clause-head
read_wanted-requires-clause-head c = λ wanted.
    let ss = sources_of c.args.sources.now in
    let f = c.loop-at.at in
    let was : file_view c.index-files-at.result ≡ headed ss f = ap file_view c.index-files-at.is ∙ headed_at (headed ss) c.args.files.now f (length c.args.sources.now) (omega arith) c.requires.files c.index-files-at.result in
    let P : File → Type 0 = λ file. head_of file.bytes ≡ Ok file.head in
    let has = sym c.has_body-wanted.ensures ∙ wanted in
    subst P (sym was) (opened_head ss c.args.live.now f has (c.requires.heads f (omega arith) has))

pub read_wanted-requires-clause-short : goal.read_wanted-requires-clause-short
read_wanted-requires-clause-short c = λ wanted.
    let ss = sources_of c.args.sources.now in
    let f = c.loop-at.at in
    let was : file_view c.index-files-at.result ≡ headed ss f = ap file_view c.index-files-at.is ∙ headed_at (headed ss) c.args.files.now f (length c.args.sources.now) (omega arith) c.requires.files c.index-files-at.result in
    let P : File → Type 0 = λ file. length file.bytes ≤ FILE_MAX in
    subst P (sym was) (c.requires.heads f (omega arith) (sym c.has_body-wanted.ensures ∙ wanted)).short

pub returns-in_err-body : goal.returns-in_err-body
returns-in_err-body c =
    let p = err_from_is_err_and c.from_residual-in_err-body.result c.from_residual-in_err-body.ensures.1 in
    let ss = sources_of c.args.sources.now in
    let f = c.loop-at.at in
    let was : file_view c.index-files-at.result ≡ headed ss f = ap file_view c.index-files-at.is ∙ headed_at (headed ss) c.args.files.now f (length c.args.sources.now) (omega arith) c.requires.files c.index-files-at.result in
    let P : File → Type 0 = λ file. StopsAt c.in_err-body.field-0.0 (if c.has_body-wanted.result then body_defects file.bytes f else []) in
    let Q : Bool → Type 0 = λ t. StopsAt c.in_err-body.field-0.0 (if t then body_defects (source_at ss f).bytes f else []) in
    rw (p.1, p.2) (record {
      goes = stop_step (body_defects_at ss c.args.live.now) f c.args.piece.end _ c.in_err-body.field-0.0 (omega arith) c.loop-at.invariant.none
          (subst Q c.has_body-wanted.ensures (subst P was c.in_err-body.ensures.goes));
      each = tt;
    })

pub loop-at-preserved : goal.loop-at-preserved
loop-at-preserved c =
    let ss = sources_of c.args.sources.now in
    let f : ℕ = c.loop-at.at in
    let was : file_view c.index-files-at.result ≡ headed ss f = ap file_view c.index-files-at.is ∙ headed_at (headed ss) c.args.files.now f (length c.args.sources.now) (omega arith) c.requires.files c.index-files-at.result in
    let P : File → Type 0 = λ file. IfSome c.in_ok-body.body (IsBody file) in
    record {
      none = pass_step (body_defects_at ss c.args.live.now) f c.args.piece.end _ (omega arith) c.loop-at.invariant.none
          (ap (λ (t : Bool). if t then body_defects (source_at ss f).bytes f else []) (sym c.has_body-wanted.ensures)
          ∙ ap (λ (file : File). if c.has_body-wanted.result then body_defects file.bytes f else []) (sym was) ∙ c.in_ok-body.ensures.goes);
      each = each_pushed (IsBodyAt ss c.args.live.now) c.args.piece.start f c.loop-at.bodies.items c.push.new.self.items c.in_ok-body.body c.in_ok-push.ensures.items c.loop-at.invariant.each
          (record { wanted = c.in_ok-body.ensures.wanted ∙ c.has_body-wanted.ensures; is = subst P was c.in_ok-body.ensures.body });
    }
