use Rattle.std.proofs.Common.{◌≡◌, flat_map, take}
use Rattle.lk_tables.specs.declared.objects.Reloc.{Reloc}
use Rattle.lk_tables.specs.BindingView.{binding_view}
use Rattle.lk_tables.specs.Sites.{place_of}
use Rattle.lk_tables.specs.TablesView.{files_of}
use Rattle.link_sections.specs.PoolViews.{merged_views}
use Rattle.eh_frame.specs.Plan.{reloc_in, reloc_words}
use Rattle.eh_frame.proofs.cies.cie_words.Given as goal

abbrev pub invariant-loop-i : goal.invariant-loop-i
invariant-loop-i l =
    let files = files_of l.tables in
    let given = reloc_in files (binding_view l.binding) (merged_views l.pools) (place_of files l.section).file l.cie.from in
    l.words.items ≡ flat_map (λ (r : Reloc). reloc_words (given r)) (take l.i l.cie.relocs.items)
