-- What the steps of a link hand on.
use Rattle.std.specs.Prelude.{◌≡◌, ◌<◌, ℕ, true, false, All, Bool, List, length, ◌↔◌}
use Rattle.lk_tables.specs.Binding.{Bindings}
use Rattle.lk_tables.specs.Files.{File, file_at, section_total}
use Rattle.lk_tables.specs.Inside.{IsBodyInside, IsHeadInside}
use Rattle.lk_tables.specs.Reach.{IsReach}
use Rattle.link_sections.specs.Edges.{ends_of}
use Rattle.link_sections.specs.InputSections.{may_stay_at}
use Rattle.link_sections.specs.Leaders.{is_kept}
use Rattle.link_passes.specs.declared.collecting.SectionGraph.{SectionGraph}
use Rattle.link_passes.specs.declared.options.Options.{Options}
use Rattle.link_passes.specs.Passes.{LinkOptions}
use Rattle.link_passes.specs.Sources.{Source, source_at}
use Rattle.sec_gc.specs.Roots.{roots}
use Rattle.sec_graph.specs.Graph.{edges}
use Rattle.sec_graph.specs.Kept.{HasEnds, IsClosedByRules}

-- what a link is asked for, where these sections are to be folded with no other
abbrev pub link_options : Options → (barred : List Bool) → LinkOptions
link_options o barred = record { gc = o.gc; icf = o.icf; barred = barred; relax = o.relax; strip = o.strip; map = o.map; generated = o.generated }

-- of each file that takes part each index, offset and size lies where it must: those of its head and of its body
abbrev pub AreInside : List File → Type 0
AreInside files = (f : ℕ) → (file_at files f).live ≡ true
    → IsHeadInside (file_at files f).bytes (file_at files f).head × IsBodyInside (file_at files f).bytes (file_at files f).head (file_at files f).object

-- of each file, whether it takes part or not, each index, offset and size of its head lies where it must; an archive by itself has no head
abbrev pub AreHeadsInside : List Source → List File → Type 0
AreHeadsInside ss files = (f : ℕ) → f < length files → (source_at ss f).archive ≡ false → IsHeadInside (file_at files f).bytes (file_at files f).head

-- by section number, and each that is kept may be
pub record MayStay (files : List File) (b : Bindings) (kept : List Bool) : Type 0 where
  pub wide : length kept ≡ section_total files
  pub each : (n : ℕ) → is_kept kept n ≡ true → may_stay_at files b n ≡ true

-- what garbage collection keeps where these names are asked for is the least set with the roots that is closed by the rules
pub record IsCollected (undefined : List (List ℕ)) (files : List File) (b : Bindings) (kept : List Bool) : Type 0 where
  pub ends : List (List ℕ)
  pub rules : (s : ℕ → Bool) → IsClosedByRules files b s ↔ HasEnds ends s
  pub reach : IsReach (roots files b undefined) ends kept

-- the graph of the sections, where these names are asked for
pub record IsGraph (files : List File) (b : Bindings) (undefined : List (List ℕ)) (graph : SectionGraph) : Type 0 where
  pub rooted : graph.roots.items ≡ roots files b undefined
  pub within : All (λ r. r < section_total files) graph.roots.items
  pub ends : ends_of graph.edges ≡ edges files b
