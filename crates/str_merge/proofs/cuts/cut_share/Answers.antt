use Rattle.std.proofs.Common.{◌≡◌, ◌-◌, ℕ, ap, sym, subst, ◌∙◌, arith}
use Rattle.lk_tables.specs.TablesView.{files_of}
use Rattle.link_sections.specs.Merging.{site_pieces}
use Rattle.work_split.specs.Shares.{EachFrom}
use Rattle.work_split.proofs.Sharing.{each_pushed}
use Rattle.str_merge.specs.Cutting.{IsCutAt}
use Rattle.str_merge.specs.Sites.{site_views}
use Rattle.str_merge.proofs.CutTexts.{none_in}
use Rattle.str_merge.proofs.SiteFacts.{site_read}
use Rattle.str_merge.proofs.cuts.cut_share.Goals as goal

pub loop-at-preserved : goal.loop-at-preserved
loop-at-preserved c =
    let files = files_of c.args.tables.now in
    each_pushed (IsCutAt files (site_views c.args.sites.now)) c.args.share.start c.loop-at.at c.loop-at.cuts.items c.push.new.self.items c.in_ok-cut.cut
    c.in_ok-push.ensures.items c.loop-at.invariant
    (c.in_ok-cut.ensures.pieces ∙ ap (site_pieces files) (sym (site_read c.args.sites.now c.loop-at.at (omega arith))), c.in_ok-cut.ensures.file, c.in_ok-cut.ensures.near)

pub returns : goal.returns
returns c =
    let files = files_of c.args.tables.now in
    let all : c.loop-at.at ≡ c.args.share.end = omega arith in
    let P : ℕ → Type 0 = λ n. EachFrom (IsCutAt files (site_views c.args.sites.now)) c.args.share.start n c.loop-at.cuts.items in
    record { goes = none_in c.args.share.start (c.args.share.end - c.args.share.start); each = subst P all c.loop-at.invariant }
