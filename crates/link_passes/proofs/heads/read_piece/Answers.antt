use Rattle.std.proofs.Common.{arith, ap, ◌≡◌, ◌∙◌, sym, subst, ℕ}
use Rattle.std.proofs.lemmas.Result.{err_from_is_err_and}
use Rattle.lk_base.specs.Firsts.{StopsAt}
use Rattle.lk_base.proofs.Loops.{pass_step, stop_step}
use Rattle.work_split.proofs.Sharing.{each_pushed}
use Rattle.link_passes.specs.Contents.{source_view, sources_of}
use Rattle.link_passes.specs.Defects.{head_defects, head_defects_at}
use Rattle.link_passes.specs.Reading.{IsHeadAt, IsHeadOf}
use Rattle.link_passes.specs.Sources.{Source, source_at}
use Rattle.link_passes.proofs.FileFacts.{source_is}
use Rattle.link_passes.proofs.heads.read_piece.Goals as goal

pub returns-in_err-head : goal.returns-in_err-head
returns-in_err-head c =
    let p = err_from_is_err_and c.from_residual-in_err-head.result c.from_residual-in_err-head.ensures.1 in
    let ss = sources_of c.args.sources.now in
    let f = c.loop-at.at in
    let P : Source → Type 0 = λ s. StopsAt c.in_err-head.field-0.0 (head_defects s f) in
    rw (p.1, p.2) (record {
      goes = stop_step (head_defects_at ss) f c.args.piece.end _ c.in_err-head.field-0.0 (omega arith) c.loop-at.invariant.none
          (subst P (ap source_view c.index-sources-at.is ∙ source_is c.args.sources.now f c.index-sources-at.result (omega arith)) c.in_err-head.ensures.goes);
      each = tt;
    })

pub loop-at-preserved : goal.loop-at-preserved
loop-at-preserved c =
    let ss = sources_of c.args.sources.now in
    let f : ℕ = c.loop-at.at in
    let is : source_view c.index-sources-at.result ≡ source_at ss f = ap source_view c.index-sources-at.is ∙ source_is c.args.sources.now f c.index-sources-at.result (omega arith) in
    let P : Source → Type 0 = λ s. IsHeadOf s c.in_ok-head.head in
    record {
      none = pass_step (head_defects_at ss) f c.args.piece.end _ (omega arith) c.loop-at.invariant.none
          (sym (ap (λ (x : Source). head_defects x f) is) ∙ c.in_ok-head.ensures.goes);
      each = each_pushed (IsHeadAt ss) c.args.piece.start f c.loop-at.heads.items c.push.new.self.items _ c.in_ok-push.ensures.items c.loop-at.invariant.each
          (subst P is c.in_ok-head.ensures.head);
    }
