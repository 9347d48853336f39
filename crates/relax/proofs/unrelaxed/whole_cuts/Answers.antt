use Rattle.std.proofs.Common.{◌≡◌, ◌++◌, ◌<◌, ℕ, ap, sym, subst, ◌∙◌, arith, get_or, length, refl, inr}
use Rattle.std.specs.List.{All}
use Rattle.lk_tables.specs.Files.{file_at, no_reloc, relocs_at, section_at}
use Rattle.lk_tables.specs.Sections.{contents_of}
use Rattle.lk_tables.specs.TablesView.{files_of}
use Rattle.link_sections.specs.Cuts.{AreApart, Cut}
use Rattle.link_sections.specs.CutsView.{cut_views}
use Rattle.relax.specs.CallSizes.{cuts_by}
use Rattle.relax.specs.Placing.{IsOneSize, added}
use Rattle.relax.proofs.CutSteps.{cuts_more, cuts_upto, placed_cuts}
use Rattle.relax.proofs.Fitting.{cuts_apart, cuts_some, live_from, sound_at}
use Rattle.relax.proofs.unrelaxed.whole_cuts.Goals as goal

pub loop-k-preserved : goal.loop-k-preserved
loop-k-preserved c =
    let is = c.loop-k.invariant in
    let k = c.loop-k.k in
    let relocs = c.relocs-relocs.result.now in
    let sizes : ℕ → ℕ = λ _. 8 in
    record {
      views = c.in_ok-lost.ensures.views ∙ ap (λ l. l ++ added 8 (get_or relocs k no_reloc)) is.views ∙ sym (cuts_more sizes relocs k);
      placed = c.in_ok-lost.ensures.placed is.placed;
      few = omega (arith, is.few, c.in_ok-lost.ensures.few);
    }

pub returns-clause-sound : goal.returns-clause-sound
returns-clause-sound c =
    let files = files_of c.args.tables.now in
    let f = c.args.file in
    let k = c.args.index in
    let file = file_at files f in
    let s = section_at file k in
    let relocs = c.relocs-relocs.result.now in
    let sizes : ℕ → ℕ = λ _. 8 in
    let lawful : (j : ℕ) → IsOneSize (sizes j) = λ _. inr (inr refl) in
    let end : c.loop-k.k ≡ length relocs = omega (arith, c.loop-k-test.false) in
    let views : cut_views c.loop-k.cuts.items ≡ cuts_by sizes (relocs_at file k) =
    c.loop-k.invariant.views ∙ ap (cuts_upto sizes relocs) end ∙ ap (cuts_by sizes) c.relocs-relocs.ensures in
    let sound = sound_at c.args.tables.now f k (live_from files f k c.requires.index) in
    let apart : AreApart (cut_views c.loop-k.cuts.items) = subst AreApart (sym views) (cuts_apart (contents_of file.bytes s) s.size (relocs_at file k) sound sizes lawful) in
    let some : All (λ (x : Cut). 0 < x.whole) (cut_views c.loop-k.cuts.items) =
    subst (All (λ (x : Cut). 0 < x.whole)) (sym views) (cuts_some (contents_of file.bytes s) s.size (relocs_at file k) sound sizes lawful) in
    record { apart = apart; placed = placed_cuts c.loop-k.cuts.items c.loop-k.lost apart some c.loop-k.invariant.placed }
