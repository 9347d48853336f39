-- The cuts of a section are those of its own calls and alignments, and each alignment is one.
use Rattle.std.proofs.Common.{◌≡◌, ℕ, ◌+◌, ◌<◌, true, Option, List, [], length, get_or, sym, ap, ◌∙◌, subst}
use Rattle.std.specs.List.{All}
use Rattle.std.proofs.lemmas.List.FromFn.{length-map-range_with_len}
use Rattle.lk_tables.specs.declared.objects.Reloc.{Reloc}
use Rattle.lk_tables.specs.declared.tables.Tables.{Tables}
use Rattle.lk_tables.specs.Binding.{Bindings}
use Rattle.lk_tables.specs.Files.{File, section_total}
use Rattle.lk_tables.specs.Sites.{contents_at, relocs_of}
use Rattle.lk_tables.specs.TablesView.{files_of}
use Rattle.link_sections.specs.Calls.{call_size, is_call}
use Rattle.link_sections.specs.Cuts.{Cut}
use Rattle.link_sections.specs.LaidOut.{LaidOut, cuts_at, start_at}
use Rattle.link_sections.specs.Leaders.{leads}
use Rattle.link_sections.specs.Sound.{IsSound}
use Rattle.layout.specs.Cutting.{laid_cuts}
use Rattle.layout.proofs.LaidHold.{laid_hold, still_met, still_some}
use Rattle.layout.proofs.OwnCalls.{IsMet}
use Rattle.output_sections.specs.declared.rows.Row.{Row}
use Rattle.relax.specs.declared.calls.Call.{Call}
use Rattle.relax.specs.CallSizes.{all_cuts, bytes_at, cuts_by, file_of, place_in, rd_at, reloc_of, size_in}
use Rattle.relax.specs.Placing.{IsOneSize}
use Rattle.relax.specs.Sizes.{FitSections}
use Rattle.relax.proofs.CutSteps.{size_one}
use Rattle.relax.proofs.Fitting.{fit_sections}
use Rattle.reloc_apply.proofs.LaidFacts.{cuts_apart}
use Rattle.link_driver.specs.Code.{HaveOwnCuts}
use Rattle.link_driver.proofs.Alignments.{aligned_at}
use Rattle.link_driver.proofs.Shortened.{cuts_before}

cuts_count : (files : List File) (ms : List Row) (rows : List (List Call)) (z : List ℕ) → length (all_cuts files ms rows z) ≡ section_total files
unfolding all_cuts
cuts_count files ms rows z = length-map-range_with_len (λ n. cuts_by (size_in rows z (place_in ms n)) (relocs_of files n)) 0 (section_total files)

-- so they fit
pub cuts_fit : (tables : Tables) (sizes : List (List Cut)) (ms : List Row) (rows : List (List Call)) (z : List ℕ) → All IsOneSize z → sizes ≡ all_cuts (files_of tables) ms rows z → FitSections (files_of tables) sizes
cuts_fit tables sizes ms rows z ones is =
    let files = files_of tables in
    fit_sections tables sizes (λ n. size_in rows z (place_in ms n)) (ap length is ∙ cuts_count files ms rows z)
    (λ n lt. ap (λ (l : List (List Cut)). get_or l n []) is ∙ cuts_before files ms rows z n lt) (λ n k. size_one rows z (place_in ms n) k ones)

-- the sizes of the calls of section n are `own n`
pub own_cuts : (files : List File) (b : Bindings) (leaders : List (Option ℕ)) (laid : LaidOut) (sizes : List (List Cut)) (own : (n : ℕ) → ℕ → ℕ) → FitSections files sizes
    → ((n : ℕ) → n < section_total files → get_or sizes n [] ≡ cuts_by (own n) (relocs_of files n)) → IsSound files b leaders laid
    → ((n : ℕ) → n < section_total files → leads leaders n ≡ true → cuts_at laid n ≡ laid_cuts (start_at laid n) (get_or sizes n []))
    → ((n k : ℕ) → n < section_total files → leads leaders n ≡ true → k < length (relocs_of files n) → is_call (reloc_of files n k).kind ≡ true
    → call_size (cuts_at laid n) (reloc_of files n k).offset ≡ 2 → rd_at (file_of files n).bytes (bytes_at files n k + 4) ≡ 0) → HaveOwnCuts files leaders laid
own_cuts files b leaders laid sizes own fit by sound cuts short = record {
  some = λ n lt leader. subst (All (λ (c : Cut). 0 < c.whole)) (sym (cuts n lt leader))
      (laid_hold (λ (c : Cut). 0 < c.whole) (start_at laid n) (get_or sizes n []) (still_some (start_at laid n)) (fit.some n lt));
  met = λ n lt leader k d k_lt wide.
      let r : Reloc = get_or (relocs_of files n) k d in
      let contents = contents_at files n in
      subst (All (IsMet contents r)) (sym (cuts n lt leader))
      (laid_hold (IsMet contents r) (start_at laid n) (get_or sizes n []) (still_met contents r (start_at laid n)) (fit.clear n lt k d k_lt wide));
  short = short;
  aligned = λ n k lt leader low nops.
      aligned_at (own n) (relocs_of files n) (start_at laid n) k (cuts_at laid n) (cuts n lt leader ∙ ap (laid_cuts (start_at laid n)) (by n lt)) (cuts_apart files b leaders laid n sound) low nops;
}
