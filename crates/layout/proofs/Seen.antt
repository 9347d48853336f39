-- What holds of the layout of a link, and so of each layout that is seen as it.
use Rattle.std.proofs.Common.{◌≡◌, ℕ, ◌+◌, ◌^◌, ◌<◌, Option, List, length, All, refl, sym, subst}
use Rattle.lk_tables.specs.Binding.{Bindings}
use Rattle.lk_tables.specs.Files.{File, section_total}
use Rattle.link_sections.specs.declared.layouts.Bounds.{Bounds}
use Rattle.link_sections.specs.declared.layouts.Layout.{Layout}
use Rattle.link_sections.specs.declared.pools.Pool.{Pool}
use Rattle.link_sections.specs.Cuts.{AreApart as AreCutsApart, Cut}
use Rattle.link_sections.specs.LaidOut.{LaidOut, OutputSection, layout_view}
use Rattle.lk_tables.specs.declared.classes.Class.TheVariants.{TlsNobits, RwNobits}
use Rattle.output_sections.specs.Items.{AreLeaders, IsSized, Item, items}
use Rattle.layout.specs.Layout.{AreSmall, FitSizes, FrameSizes, after_tls_bits, all_weight, bounds_of, laid_by, laid_of, layout_of, no_trail, trail_of}
use Rattle.output_sections.specs.Order.{Orders, orders_of, rows_in}
use Rattle.layout.specs.Spots.{AreApart, AreRising, HasFrames, HaveAlignments, HaveSegments, HaveNobits, IsWithinClass, without_tls_nobits}
use Rattle.layout.specs.Walk.{cursor_at, members_along, runs}
use Rattle.layout.proofs.Aligned.{IsAligned, align_rows, aligned_members, aligned_nobits}
use Rattle.layout.proofs.Apart.{outputs_apart, outputs_within, trail_outputs}
use Rattle.layout.proofs.Chain.{AreBounds, bounds_are}
use Rattle.layout.proofs.FrameSpots.{has_them}
use Rattle.layout.proofs.ItemFacts.{ready_of}
use Rattle.layout.proofs.Rising.{AllFit, all_fit, rising}
use Rattle.layout.proofs.Segments.{segments}
use Rattle.layout.proofs.Trails.{trail_members, trail_nobits}
use Rattle.layout.proofs.Zeros.{others_between, threads_between}

-- the laws of a layout
pub record HasLaws (files : List File) (b : Bindings) (fs : FrameSizes) (laid : LaidOut) : Type 0 where
  pub rising : AreRising laid.bounds
  pub segments : HaveSegments laid.bounds
  pub apart : AreApart laid.bounds.headers_end (without_tls_nobits laid.outputs)
  pub inside : All (IsWithinClass laid.bounds) laid.outputs
  pub aligned : HaveAlignments files b laid
  pub nobits_members : HaveNobits laid
  pub framed : HasFrames fs laid.bounds

laws_by : (files : List File) (b : Bindings) (leaders : List (Option ℕ)) (sizes : List (List Cut)) (parts : List Item) (o : Orders) (fs : FrameSizes) (bounds : Bounds) (pools : ℕ) → AllFit sizes o
    → AreBounds sizes o fs bounds → AreRising bounds → All (IsAligned files b) (trail_of sizes parts o bounds (no_trail (section_total files) pools)).members
    → All (IsAligned files b) (trail_of sizes parts o bounds (no_trail (section_total files) pools)).nobits_members
    → HasLaws files b fs (laid_by leaders sizes (section_total files) bounds (trail_of sizes parts o bounds (no_trail (section_total files) pools)))
unfolding laid_by
laws_by files b leaders sizes parts o fs bounds pools fit is rises members nobits_members =
    let outputs = trail_outputs sizes parts o bounds (section_total files) pools in
    let threads = threads_between sizes o fs bounds fit is in
    let others = others_between sizes o fs bounds fit is in
    let P : List OutputSection → Type 0 = λ l. AreApart bounds.headers_end (without_tls_nobits l) in
    let Q : List OutputSection → Type 0 = λ l. All (IsWithinClass bounds) l in
    record {
      rising = rises;
      segments = segments sizes o fs bounds fit is rises;
      apart = subst P (sym outputs) (outputs_apart sizes parts o fs bounds fit is rises);
      inside = subst Q (sym outputs) (outputs_within sizes parts o fs bounds fit is rises);
      aligned = record { members = members; nobits_members = nobits_members };
      nobits_members = record {
        threads = members_along sizes (after_tls_bits sizes o bounds.rw_start bounds.tls_align) (runs (rows_in o TlsNobits));
        others = members_along sizes (cursor_at bounds.bits_end) (runs (rows_in o RwNobits));
        all = trail_nobits sizes parts o bounds (section_total files) pools;
        threads_order = threads.order;
        threads_end = threads.end;
        others_order = others.order;
        others_end = others.end;
      };
      framed = has_them sizes o fs bounds is;
    }

laws_laid : (files : List File) (b : Bindings) (pools : List Pool) (words : ℕ) (leaders : List (Option ℕ)) (sizes : List (List Cut)) (fs : FrameSizes) → AreLeaders files b leaders
    → FitSizes files b sizes → All AreCutsApart sizes → All IsSized (items files b pools words leaders)
    → all_weight (orders_of (items files b pools words leaders)) + 2 ^ 60 + 2 ^ 59 + 2 ^ 45 < 2 ^ 63 → AreSmall fs → HasLaws files b fs (layout_of files b pools words leaders sizes fs)
unfolding layout_of laid_of
laws_laid files b pools words leaders sizes fs are fit apart sized room small =
    let parts : List Item = items files b pools words leaders in
    let o : Orders = orders_of parts in
    let bounds : Bounds = bounds_of sizes o fs in
    let rows : AllFit sizes o = all_fit sizes (section_total files) (length pools) o apart (ready_of files b pools words leaders sizes are fit sized) in
    let is : AreBounds sizes o fs bounds = bounds_are sizes o fs in
    let aligned = align_rows files b pools words leaders in
    let members = subst (All (IsAligned files b)) (sym (trail_members sizes parts o bounds (section_total files) (length pools))) (aligned_members files b sizes o bounds aligned) in
    laws_by files b leaders sizes parts o fs bounds (length pools) rows is (rising sizes o fs bounds rows room small is) members
    (aligned_nobits files b sizes parts o bounds (section_total files) (length pools) aligned)

bounds_seen : (layout : Layout) → (layout_view layout).bounds ≡ layout.bounds
unfolding layout_view
bounds_seen layout = refl

-- the same of its bounds as the code has them
pub record IsLawful (files : List File) (b : Bindings) (fs : FrameSizes) (layout : Layout) : Type 0 where
  pub rising : AreRising layout.bounds
  pub segments : HaveSegments layout.bounds
  pub apart : AreApart layout.bounds.headers_end (without_tls_nobits (layout_view layout).outputs)
  pub inside : All (IsWithinClass layout.bounds) (layout_view layout).outputs
  pub aligned : HaveAlignments files b (layout_view layout)
  pub nobits_members : HaveNobits (layout_view layout)
  pub framed : HasFrames fs layout.bounds

pub laws_seen : (layout : Layout) (files : List File) (b : Bindings) (pools : List Pool) (words : ℕ) (leaders : List (Option ℕ)) (sizes : List (List Cut)) (fs : FrameSizes) → AreLeaders files b leaders
    → FitSizes files b sizes → All AreCutsApart sizes → All IsSized (items files b pools words leaders)
    → all_weight (orders_of (items files b pools words leaders)) + 2 ^ 60 + 2 ^ 59 + 2 ^ 45 < 2 ^ 63 → AreSmall fs → layout_view layout ≡ layout_of files b pools words leaders sizes fs
    → IsLawful files b fs layout
laws_seen layout files b pools words leaders sizes fs are fit apart sized room small is =
    let laws : HasLaws files b fs (layout_view layout) = subst (HasLaws files b fs) (sym is) (laws_laid files b pools words leaders sizes fs are fit apart sized room small) in
    let same = bounds_seen layout in
    record {
      rising = subst AreRising same laws.rising;
      segments = subst HaveSegments same laws.segments;
      apart = subst (λ (x : Bounds). AreApart x.headers_end (without_tls_nobits (layout_view layout).outputs)) same laws.apart;
      inside = subst (λ x. All (IsWithinClass x) (layout_view layout).outputs) same laws.inside;
      aligned = laws.aligned;
      nobits_members = laws.nobits_members;
      framed = subst (HasFrames fs) same laws.framed;
    }
