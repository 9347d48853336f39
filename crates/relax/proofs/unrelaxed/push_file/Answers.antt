use Rattle.std.proofs.Common.{◌∷◌, ◌++◌, [], map, ap, sym, subst, ◌∙◌, arith, rules}
use Rattle.std.specs.List.{All}
use Rattle.std.proofs.lemmas.List.{map-append}
use Rattle.std.proofs.lemmas.List.Elements.{All-append, All-cons, All-nil}
use Rattle.lk_base.proofs.Ranges.{row_step}
use Rattle.lk_tables.specs.Files.{section_count}
use Rattle.lk_tables.specs.TablesView.{files_of}
use Rattle.lk_tables.proofs.FirstNumbers.{section_within}
use Rattle.link_sections.specs.CutsView.{AreCuts, cut_views}
use Rattle.relax.specs.Unrelaxed.{whole_cuts}
use Rattle.relax.proofs.unrelaxed.push_file.Goals as goal

pub loop-index-init : goal.loop-index-init
loop-index-init c = record { views = search rules; sound = λ sound. sound }

pub overflow_cast-index : goal.overflow_cast-index
overflow_cast-index c =
    omega (
      arith,
      c.section_count-index-end.ensures,
      ap section_count c.file.ensures,
      c.prove_few.ensures.section_count_is,
      section_within (files_of c.args.tables.now) c.args.file c.requires,
    )

pub loop-index-preserved : goal.loop-index-preserved
loop-index-preserved c =
    let old = c.loop-index.rows in
    let cuts = c.in_ok-cuts.cuts.items in
    let pushed = c.in_ok-push.ensures.ok ∙ ap (λ l. old ++ l ∷ []) c.as_slice.ensures.value in
    record {
      views = row_step (whole_cuts (files_of c.args.tables.now) c.args.file) c.loop-index.index (map cut_views c.args.rows.now) (map cut_views old) (map cut_views c.push.new.self) (cut_views cuts)
          c.loop-index.invariant.views (ap (map cut_views) pushed ∙ map-append cut_views old (cuts ∷ [])) c.in_ok-cuts.ensures.views;
      sound = λ sound. subst (All AreCuts) (sym pushed) (All-append AreCuts old (cuts ∷ []) (c.loop-index.invariant.sound sound) (All-cons AreCuts cuts [] c.in_ok-cuts.ensures.sound (All-nil AreCuts)));
    }
