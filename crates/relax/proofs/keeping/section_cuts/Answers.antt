use Rattle.std.proofs.Common.{◌≡◌, ◌++◌, ◌<◌, ℕ, ap, sym, subst, ◌∙◌, arith, get_or, length}
use Rattle.std.specs.List.{All}
use Rattle.lk_tables.specs.declared.section_places.SectionPlace.{SectionPlace}
use Rattle.lk_tables.specs.Files.{file_at, no_reloc, relocs_at, section_at}
use Rattle.lk_tables.specs.Sections.{contents_of}
use Rattle.lk_tables.specs.Sites.{place_of, relocs_of}
use Rattle.lk_tables.specs.TablesView.{files_of}
use Rattle.link_sections.specs.Cuts.{AreApart, Cut}
use Rattle.link_sections.specs.CutsView.{cut_views}
use Rattle.relax.specs.CallSizes.{cuts_by, size_in}
use Rattle.relax.specs.Placing.{IsOneSize, added}
use Rattle.relax.proofs.CutSteps.{cuts_more, cuts_upto, placed_cuts, size_one}
use Rattle.relax.proofs.Fitting.{cuts_apart, cuts_some, sound_of}
use Rattle.relax.proofs.keeping.section_cuts.Goals as goal

pub loop-k-preserved : goal.loop-k-preserved
loop-k-preserved c =
    let is = c.loop-k.invariant in
    let k = c.loop-k.k in
    let relocs = c.relocs-relocs.result.now in
    let sizes : ℕ → ℕ = size_in c.args.calls.now c.args.sizes.now c.place_of-member.result in
    record {
      views = c.in_ok-lost.ensures.views ∙ ap (λ l. l ++ added (sizes k) (get_or relocs k no_reloc)) is.views ∙ sym (cuts_more sizes relocs k);
      placed = c.in_ok-lost.ensures.placed is.placed;
      few = omega (arith, is.few, c.in_ok-lost.ensures.few);
    }

pub returns-clause-sound : goal.returns-clause-sound
returns-clause-sound c =
    let files = files_of c.args.scene.now.tables.now in
    let n = c.args.section in
    let relocs = c.relocs-relocs.result.now in
    let member = c.place_of-member.result in
    let sizes : ℕ → ℕ = size_in c.args.calls.now c.args.sizes.now member in
    let lawful : (k : ℕ) → IsOneSize (sizes k) = λ k. size_one c.args.calls.now c.args.sizes.now member k c.requires.sizes in
    let same : relocs ≡ relocs_of files n = c.relocs-relocs.ensures ∙ ap (λ (p : SectionPlace). relocs_at (file_at files p.file) p.index) c.place_of-place.ensures.place in
    let end : c.loop-k.k ≡ length relocs = omega (arith, c.loop-k-test.false) in
    let views : cut_views c.loop-k.cuts.items ≡ cuts_by sizes (relocs_of files n) =
    c.loop-k.invariant.views ∙ ap (cuts_upto sizes relocs) end ∙ ap (cuts_by sizes) same in
    let file = file_at files (place_of files n).file in
    let s = section_at file (place_of files n).index in
    let sound = sound_of c.args.scene.now.tables.now n c.requires.section in
    let apart : AreApart (cut_views c.loop-k.cuts.items) = subst AreApart (sym views) (cuts_apart (contents_of file.bytes s) s.size (relocs_of files n) sound sizes lawful) in
    let some : All (λ (x : Cut). 0 < x.whole) (cut_views c.loop-k.cuts.items) =
    subst (All (λ (x : Cut). 0 < x.whole)) (sym views) (cuts_some (contents_of file.bytes s) s.size (relocs_of files n) sound sizes lawful) in
    record { apart = apart; placed = placed_cuts c.loop-k.cuts.items c.loop-k.lost apart some c.loop-k.invariant.placed }
