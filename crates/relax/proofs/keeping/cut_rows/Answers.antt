use Rattle.std.proofs.Common.{◌≡◌, ◌-◌, map, ap, sym, subst, ◌∙◌, arith}
use Rattle.std.specs.List.{All, range_with_len}
use Rattle.lk_tables.specs.Files.{section_total}
use Rattle.lk_tables.specs.TablesView.{files_of}
use Rattle.link_sections.specs.CutsView.{AreCuts, cut_views}
use Rattle.relax.specs.CallSizes.{all_cuts}
use Rattle.relax.specs.CutRows.{cuts_at}
use Rattle.relax.proofs.keeping.cut_rows.Goals as goal

pub returns-clause-views : goal.returns-clause-views
unfolding all_cuts
returns-clause-views g c =
    let s = c.args.scene.now in
    let files = files_of s.tables.now in
    let e : section_total files - 0 ≡ section_total files = omega arith in
    ap (map cut_views) c.in_ok-rows.ensures ∙ c.in_ok-parts.ensures.views ∙ ap (λ n. map (cuts_at files s.members.now c.args.calls.now c.args.sizes.now) (range_with_len 0 n)) e

pub returns-clause-sound : goal.returns-clause-sound
returns-clause-sound g c = subst (All AreCuts) (sym c.in_ok-rows.ensures) c.in_ok-parts.ensures.sound
