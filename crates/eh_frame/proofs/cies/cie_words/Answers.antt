use Rattle.std.proofs.Common.{ℕ, List, ◌++◌, ◌∙◌, ap, arith, get_or, sym}
use Rattle.std.proofs.lemmas.List.Folds.{flat_map-map}
use Rattle.lk_tables.specs.declared.objects.Reloc.{Reloc}
use Rattle.lk_tables.specs.declared.section_places.SectionPlace.{SectionPlace}
use Rattle.lk_tables.specs.BindingView.{binding_view}
use Rattle.lk_tables.specs.Sites.{place_of}
use Rattle.lk_tables.specs.TablesView.{files_of}
use Rattle.link_sections.specs.PoolViews.{merged_views}
use Rattle.eh_frame.specs.Plan.{reloc_in, reloc_words}
use Rattle.eh_frame.proofs.FrameWalks.{lists_all, lists_more}
use Rattle.eh_frame.proofs.cies.cie_words.Goals as goal

pub loop-i-preserved : goal.loop-i-preserved
loop-i-preserved c =
    let files = files_of c.args.tables.now in
    let cie = c.args.cie.now in
    let i = c.loop-i.i in
    let r = c.index.result.now in
    let words : SectionPlace → Reloc → List ℕ = λ p r. reloc_words (reloc_in files (binding_view c.args.binding.now) (merged_views c.args.pools.now) p.file cie.from r) in
    let give = words (place_of files c.args.section) in
    c.in_ok-push_reloc.ensures
    ∙ ap (λ p. c.loop-i.words.items ++ words p r) c.place_of-place.ensures.place
    ∙ ap (λ q. c.loop-i.words.items ++ give q) c.index.ensures
    ∙ ap (λ l. l ++ give (get_or cie.relocs.items i r)) c.loop-i.invariant
    ∙ lists_more give cie.relocs.items i r (omega (arith, c.loop-i-test.true, c.len-i-end.ensures))

pub returns : goal.returns
returns c =
    let files = files_of c.args.tables.now in
    let cie = c.args.cie.now in
    let given = reloc_in files (binding_view c.args.binding.now) (merged_views c.args.pools.now) (place_of files c.args.section).file cie.from in
    c.loop-i.invariant ∙ lists_all (λ (r : Reloc). reloc_words (given r)) cie.relocs.items c.loop-i.i (omega arith) ∙ sym (flat_map-map reloc_words given cie.relocs.items)
