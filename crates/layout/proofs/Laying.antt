-- The layout of a link from its walk.
use Rattle.std.proofs.Common.{◌≡◌, ℕ, ◌+◌, ◌^◌, ◌<◌, ◌≤◌, Option, List, [], ◌∷◌, length, All, refl, ap, sym, ◌∙◌, subst, arith}
use Rattle.std.specs.List.{sum_by}
use Rattle.std.proofs.lemmas.List.{length-map, length-replicate}
use Rattle.lk_base.specs.declared.defects.Defect.{Defect}
use Rattle.lk_base.specs.declared.limits.Limits.{Limits}
use Rattle.lk_base.specs.declared.defects.LinkStop.{LinkStop}
use Rattle.lk_base.specs.declared.defects.LinkStop.TheVariants as stops
use Rattle.lk_base.specs.Firsts.{BeginsWith, StopsAt}
use Rattle.lk_tables.specs.Binding.{Bindings, first_phase}
use Rattle.lk_tables.specs.Files.{File, section_total}
use Rattle.link_sections.specs.declared.layouts.Bounds.{Bounds}
use Rattle.link_sections.specs.declared.pools.Pool.{Pool}
use Rattle.link_sections.specs.declared.sizes.Sizes.{Sizes}
use Rattle.link_sections.specs.Cuts.{AreApart, Cut}
use Rattle.link_sections.specs.LaidOut.{LaidOut, layout_view}
use Rattle.link_sections.specs.SizesView.{sizes_of}
use Rattle.output_sections.specs.declared.items.Item.{Item as HeldItem}
use Rattle.layout.specs.declared.placing.Walked.{Walked}
use Rattle.output_sections.specs.Items.{Item, items}
use Rattle.output_sections.specs.ItemViews.{item_view, items_view}
use Rattle.layout.specs.Layout.{AreReady, AreSmall, FrameSizes, Trail, all_cuts, all_weight, bounds_of, cut_defects, laid_by, laid_of, layout_defects, layout_of, limit_defects, no_trail, trail_of, trail_view}
use Rattle.output_sections.specs.Order.{Orders, orders_of}
use Rattle.layout.specs.Walk.{stands_view}
use Rattle.layout.proofs.Chain.{AreBounds, bounds_are}
use Rattle.layout.proofs.ItemFacts.{weight_most}
use Rattle.layout.proofs.Rising.{AllFit, all_fit, rising}
use Rattle.layout.proofs.Trails.{trail_low}

-- what the walk starts with
pub none_counts : (w : Walked) (sections pools : ℕ) → trail_view w ≡ no_trail sections pools
    → (length w.places.starts.items ≡ sections) × (length w.places.pools.items ≡ pools)
unfolding trail_view stands_view
none_counts w sections pools is =
    (ap (λ (t : Trail). length t.stands.starts) is ∙ length-replicate {A = ℕ} sections 0, ap (λ (t : Trail). length t.stands.pools) is ∙ length-replicate {A = ℕ} pools 0)

pub room_of : (list : List HeldItem) → length list ≤ 2 ^ 30 → sum_by (λ item. item.size) (items_view list) < 2 ^ 61 + 2 ^ 40 → all_weight (orders_of (items_view list)) + 2 ^ 60 + 2 ^ 59 + 2 ^ 45 < 2 ^ 63
room_of list few bytes =
    let most = weight_most (items_view list) in
    let count : length (items_view list) ≡ length list = length-map list item_view in
    omega (arith, most, count, few, bytes)

-- the code's layout, from the walk and the cuts
pub view_is : (w : Walked) (held : Sizes) (b : Bounds) (leaders : List (Option ℕ)) (sizes : List (List Cut)) (sections : ℕ)
    → sizes_of held ≡ all_cuts leaders sizes w.places.starts.items sections
    → layout_view (record {
      outputs = w.outputs;
      members = w.members;
      nobits_members = w.nobits_members;
      places = w.extents;
      starts = w.places.starts;
      pools = w.places.pools;
      got = w.places.got;
      sizes = held;
      bounds = b;
    }) ≡ laid_by leaders sizes sections b (trail_view w)
unfolding layout_view laid_by trail_view stands_view
view_is w held b leaders sizes sections cuts = rw cuts refl

pub laid_now : (files : List File) (b : Bindings) (pools lent_pools : List Pool) (words : ℕ) (leaders : List (Option ℕ)) (sizes : List (List Cut)) (list lent : List HeldItem)
    (w : Walked) (fs : FrameSizes) (bounds : Bounds) (sections : ℕ) → lent ≡ list → items_view list ≡ items files b pools words leaders → sections ≡ section_total files → lent_pools ≡ pools
    → bounds ≡ bounds_of sizes (orders_of (items_view lent)) fs
    → trail_view w ≡ trail_of sizes (items_view lent) (orders_of (items_view lent)) (bounds_of sizes (orders_of (items_view lent)) fs) (no_trail sections (length lent_pools))
    → laid_by leaders sizes (section_total files) bounds (trail_view w) ≡ layout_of files b pools words leaders sizes fs
unfolding layout_of laid_of
laid_now files b pools lent_pools words leaders sizes list lent w fs bounds sections same view count those bounds_is trail_is =
    let parts : items_view lent ≡ items files b pools words leaders = ap items_view same ∙ view in
    let total : ℕ = section_total files in
    ap (λ t. laid_by leaders sizes total bounds t) trail_is
    ∙ ap (λ k. laid_by leaders sizes total k (trail_of sizes (items_view lent) (orders_of (items_view lent)) (bounds_of sizes (orders_of (items_view lent)) fs) (no_trail sections (length lent_pools)))) bounds_is
    ∙ ap (λ l. laid_by leaders sizes total (bounds_of sizes (orders_of l) fs) (trail_of sizes l (orders_of l) (bounds_of sizes (orders_of l) fs) (no_trail sections (length lent_pools)))) parts
    ∙ ap (λ n. laid_by leaders sizes total (bounds_of sizes (orders_of (items files b pools words leaders)) fs)
    (trail_of sizes (items files b pools words leaders) (orders_of (items files b pools words leaders)) (bounds_of sizes (orders_of (items files b pools words leaders)) fs) (no_trail n (length lent_pools)))) count
    ∙ ap (λ l. laid_by leaders sizes total (bounds_of sizes (orders_of (items files b pools words leaders)) fs)
    (trail_of sizes (items files b pools words leaders) (orders_of (items files b pools words leaders)) (bounds_of sizes (orders_of (items files b pools words leaders)) fs) (no_trail total (length l)))) those

pub cuts_are : (w : Walked) (bounds : Bounds) (leaders : List (Option ℕ)) (sizes : List (List Cut)) (sections : ℕ) (laid : LaidOut)
    → laid_by leaders sizes sections bounds (trail_view w) ≡ laid → all_cuts leaders sizes w.places.starts.items sections ≡ laid.cuts
unfolding laid_by trail_view stands_view
cuts_are w bounds leaders sizes sections laid is = ap (λ (l : LaidOut). l.cuts) is

pub low_starts : (w : Walked) (sizes : List (List Cut)) (parts : List Item) (o : Orders) (fs : FrameSizes) (bounds : Bounds) (sections pools count : ℕ) → All AreApart sizes
    → AreReady sizes sections pools o → all_weight o + 2 ^ 60 + 2 ^ 59 + 2 ^ 45 < 2 ^ 63 → AreSmall fs → bounds ≡ bounds_of sizes o fs
    → trail_view w ≡ trail_of sizes parts o bounds (no_trail sections count) → All (λ start. start < 2 ^ 63) w.places.starts.items
unfolding trail_view stands_view
low_starts w sizes parts o fs bounds sections pools count apart ready room small bounds_is t_is =
    let fit : AllFit sizes o = all_fit sizes sections pools o apart ready in
    let is : AreBounds sizes o fs bounds = subst (AreBounds sizes o fs) (sym bounds_is) (bounds_are sizes o fs) in
    let low = (trail_low sizes parts o fs bounds sections count fit is (rising sizes o fs bounds fit room small is)).starts in
    let starts : w.places.starts.items ≡ (trail_of sizes parts o bounds (no_trail sections count)).stands.starts = ap (λ (t : Trail). t.stands.starts) t_is in
    rw starts (λ k d lt. omega (arith, low k d lt))

-- the defects of a layout: alignments first
pub cuts_first : (limits : Limits) (files : List File) (laid : LaidOut) (d : Defect) → BeginsWith (cut_defects files laid.cuts (section_total files)) d
    → BeginsWith (layout_defects limits files laid) d
unfolding layout_defects
cuts_first limits files laid d begins =
    let P : List Defect → Type 0 = λ l. BeginsWith (first_phase (l ∷ limit_defects limits laid ∷ [])) d in
    subst P (sym begins.1) (begins.0, refl)

pub then_limits : (limits : Limits) (files : List File) (laid : LaidOut) → cut_defects files laid.cuts (section_total files) ≡ []
    → layout_defects limits files laid ≡ limit_defects limits laid
unfolding layout_defects
then_limits limits files laid none = ap (λ l. first_phase (l ∷ limit_defects limits laid ∷ [])) none ∙ last (limit_defects limits laid)
  where
    last : (l : List Defect) → first_phase (l ∷ []) ≡ l
    last [] = refl
    last (d ∷ ds) = refl

pub ready_is : (sizes : List (List Cut)) (a b c d : ℕ) (o p : Orders) → AreReady sizes a b p → c ≡ a → d ≡ b → o ≡ p → AreReady sizes c d o
ready_is sizes a b c d o p ready first second third = rw (first, second, third) ready

pub stops_first : (limits : Limits) (files : List File) (laid : LaidOut) (stop : LinkStop) → StopsAt stop (cut_defects files laid.cuts (section_total files))
    → StopsAt stop (layout_defects limits files laid)
stops_first limits files laid (stops.Defect d) begins = cuts_first limits files laid d begins
stops_first limits files laid stops.Memory begins = tt
