use Rattle.std.proofs.Common.{◌≡◌, ℕ, List, [], get_or, map, ap, sym, subst, ◌∙◌, arith, length, refl, inr}
use Rattle.std.specs.List.{range_with_len}
use Rattle.std.proofs.lemmas.List.FromFn.{get_or-map-range_with_len, length-map-range_with_len}
use Rattle.lk_tables.specs.Files.{section_total}
use Rattle.lk_tables.specs.Sites.{relocs_of}
use Rattle.lk_tables.specs.TablesView.{files_of}
use Rattle.link_sections.specs.Cuts.{Cut}
use Rattle.link_sections.specs.CutsView.{cut_views}
use Rattle.relax.specs.CallSizes.{cuts_by}
use Rattle.relax.specs.Unrelaxed.{AreUnrelaxed}
use Rattle.relax.proofs.Fitting.{fit_sections}
use Rattle.relax.proofs.NoCalls.{unrelaxed_at}
use Rattle.relax.proofs.UnrelaxedParts.{unrelaxed_all}
use Rattle.relax.proofs.unrelaxed.unrelaxed_sizes.Goals as goal
use Rattle.relax.proofs.unrelaxed.unrelaxed_sizes.Goals.{In_ok-rows}

rows_are : (g : _) (c : In_ok-rows g) → AreUnrelaxed (files_of c.args.tables.now) 0 (length (files_of c.args.tables.now)) c.in_ok-rows.rows
rows_are g c =
    let files = files_of c.args.tables.now in
    subst (AreUnrelaxed files 0 (length files)) (sym c.in_ok-rows.ensures) c.in_ok-parts.ensures

pub of-requires : goal.of-requires
of-requires g c = (rows_are g c).sound

pub returns-clause-cuts : goal.returns-clause-cuts
returns-clause-cuts g c =
    ap (map cut_views) c.of.ensures ∙ unrelaxed_all (files_of c.args.tables.now) c.in_ok-rows.rows (rows_are g ((goal.at.returns-clause-cuts g c).In_ok-rows))

pub returns-clause-fit : goal.returns-clause-fit
returns-clause-fit g c =
    let files = files_of c.args.tables.now in
    let give : ℕ → List Cut = λ n. cuts_by (λ _. 8) (relocs_of files n) in
    let are : map cut_views c.of.result.rows ≡ map give (range_with_len 0 (section_total files)) =
    ap (map cut_views) c.of.ensures ∙ unrelaxed_all files c.in_ok-rows.rows (rows_are g ((goal.at.returns-clause-fit g c).In_ok-rows)) ∙ unrelaxed_at files in
    fit_sections c.args.tables.now (map cut_views c.of.result.rows) (λ _ _. 8)
    (ap length are ∙ length-map-range_with_len give 0 (section_total files))
    (λ n lt. ap (λ l. get_or l n []) are ∙ get_or-map-range_with_len give 0 (section_total files) n n [] lt (omega arith))
    (λ _ _. inr (inr refl))
