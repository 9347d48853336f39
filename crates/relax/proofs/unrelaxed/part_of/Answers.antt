use Rattle.std.proofs.Common.{◌≡◌, sym, subst, arith}
use Rattle.lk_tables.specs.TablesView.{files_of}
use Rattle.relax.specs.Unrelaxed.{AreUnrelaxed}
use Rattle.relax.proofs.UnrelaxedParts.{unrelaxed_first, unrelaxed_more}
use Rattle.relax.proofs.unrelaxed.part_of.Goals as goal

pub loop-file-init : goal.loop-file-init
loop-file-init c =
    let files = files_of c.args.tables.now in
    let start = c.args.piece.start in
    (omega arith, subst (AreUnrelaxed files start start) (sym c.in_ok-rows.ensures) (unrelaxed_first files start))

pub loop-file-preserved : goal.loop-file-preserved
loop-file-preserved c =
    let low = c.loop-file.invariant.0 in (
      omega (arith, low),
      unrelaxed_more (files_of c.args.tables.now) c.args.piece.start c.loop-file.file c.loop-file.rows c.push_file.new.rows low c.loop-file.invariant.1
          c.in_ok-push_file.ensures.views c.in_ok-push_file.ensures.sound,
    )

pub returns : goal.returns
returns c =
    let files = files_of c.args.tables.now in
    let start = c.args.piece.start in
    let e : c.loop-file.file ≡ c.args.piece.end = omega (arith, c.loop-file.invariant.0) in
    subst (AreUnrelaxed files start c.args.piece.end) (sym c.in_ok-parts.ensures) (subst (λ k. AreUnrelaxed files start k c.loop-file.rows) e c.loop-file.invariant.1)
