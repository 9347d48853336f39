-- Which section is written in the place of each, without folding and with it, and which unwind records are written.
use Rattle.std.proofs.Common.{◌≡◌, ℕ, Bool, true, List, length, sym, ◌∙◌, subst, arith, false, Option, ap}
use Rattle.std.specs.List.{All}
use Rattle.std.proofs.lemmas.Bool.{and_parts, cond-false, cond-true}
use Rattle.std.proofs.lemmas.List.Elements.{All-map}
use Rattle.output_sections.specs.Items.{AreLeaders, IsStaying}
use Rattle.lk_tables.specs.Binding.{Bindings}
use Rattle.lk_tables.specs.Files.{File, section_total}
use Rattle.lk_tables.proofs.BoundHas.{each_flat, one_if}
use Rattle.link_sections.specs.Leaders.{is_kept, folded_leaders, own_leaders}
use Rattle.link_sections.specs.Merging.{pools_of}
use Rattle.link_sections.proofs.OwnLeaders.{LeadThemselves, kept_below, own_lead}
use Rattle.link_passes.specs.Tables.{MayStay}
use Rattle.std.specs.List.Sorted.{IsStrictlyIncreasing}
use Rattle.eh_frame.specs.Plan.{plan_of}
use Rattle.icf_part.specs.Leaders.{leaders_of}
use Rattle.lk_tables.specs.FramePlans.{PlanView}
use Rattle.lk_tables.specs.Frames.{RecordList, all_lists}
use Rattle.link_sections.specs.declared.pools.Pools.{Pools}
use Rattle.link_sections.specs.FoldItems.{FoldItem, section_of, sections_of}
use Rattle.link_sections.specs.PoolViews.{Merged, PoolsView, merged_views, pools_view}
use Rattle.link_sections.proofs.Folded.{LeadItems, folded_lead}
use Rattle.sec_graph.specs.Foldable.{is_foldable, item_if, item_in, item_of, items}
use Rattle.link_passes.specs.Passes.{LinkOptions, leaders_in, plan_in}
use Rattle.link_passes.specs.Leaders.{AreAlike, GoWithLeaders}
use Rattle.link_passes.proofs.Alike.{folded_alike, own_alike}
use Rattle.icf_part.specs.Folding.{AreLeaders as ItemLeaders}
use Rattle.lk_tables.specs.declared.tables.Tables.{Tables}
use Rattle.lk_tables.specs.TablesView.{files_of}
use Rattle.link_passes.proofs.GoingAlong.{folded_go, own_go}

-- a kept section may stay
pub kept_stays : (files : List File) (b : Bindings) (kept : List Bool) (n : ℕ) → MayStay files b kept → is_kept kept n ≡ true → IsStaying files b n
kept_stays files b kept n stay on = record { number = omega (arith, kept_below kept n on, stay.wide); stays = stay.each n on }

pub lead_so : (files : List File) (b : Bindings) (kept : List Bool) (leaders : List (Option ℕ)) → LeadThemselves kept leaders → MayStay files b kept →
    AreLeaders files b leaders
lead_so files b kept leaders lead stay = record {
  count = lead.count ∙ stay.wide;
  stay = λ n m leader. kept_stays files b kept m stay (lead.kept_are n m leader);
  own = lead.own;
}

-- the sections that may be folded are kept
pub items_kept : (files : List File) (b : Bindings) (merged : List (Option Merged)) (kept barred : List Bool) →
    All (λ n. is_kept kept n ≡ true) (sections_of (items files b merged kept barred))
unfolding sections_of items is_foldable item_in
items_kept files b merged kept barred =
    let P : FoldItem → Type 0 = λ i. is_kept kept i.section ≡ true in
    All-map (λ n. is_kept kept n ≡ true) section_of (items files b merged kept barred)
    (each_flat P (item_if files b merged kept barred) 0 (section_total files) (λ n lt.
    one_if P (is_foldable files b kept barred n) (item_of files b merged n)
    (λ on. (and_parts (is_kept kept n) _ on).0)))

module _ (w : LinkOptions) (files : List File) (b : Bindings) (kept : List Bool) (pools : Pools) (are : pools_view files pools ≡ pools_of files kept) where
  -- without folding
  pub own_are : (leaders : List (Option ℕ)) → w.icf ≡ false → leaders ≡ own_leaders kept (merged_views pools) → leaders ≡ leaders_in w files b kept
  unfolding leaders_in pools_view
  own_are leaders off is = is ∙ ap (λ (v : PoolsView). own_leaders kept v.merged) are ∙ sym (cond-false w.icf _ _ off)

  -- with it
  pub folded_are : (own leaders : List (Option ℕ)) (list : List FoldItem) (places : List ℕ) → w.icf ≡ true → own ≡ own_leaders kept (merged_views pools) →
      list ≡ items files b (merged_views pools) kept w.barred → places ≡ leaders_of list → leaders ≡ folded_leaders list places own → leaders ≡ leaders_in w files b kept
  unfolding leaders_in pools_view
  folded_are own leaders list places on own_is list_is places_are is =
      let give : List FoldItem → List (Option ℕ) → List (Option ℕ) = λ l o. folded_leaders l (leaders_of l) o in
      is ∙ ap (λ ps. folded_leaders list ps own) places_are ∙ ap (λ l. give l own) list_is ∙ ap (give (items files b (merged_views pools) kept w.barred)) own_is
      ∙ ap (λ (v : PoolsView). give (items files b v.merged kept w.barred) (own_leaders kept v.merged)) are ∙ sym (cond-true w.icf _ _ on)

-- the unwind records that are written, as the code found what is merged and which sections lead
pub planned_are : (w : LinkOptions) (files : List File) (b : Bindings) (kept : List Bool) (pools : Pools) (lists : List RecordList) (leaders : List (Option ℕ)) (plan : PlanView) →
    pools_view files pools ≡ pools_of files kept → lists ≡ all_lists files → leaders ≡ leaders_in w files b kept →
    plan ≡ plan_of files b (merged_views pools) lists leaders → plan ≡ plan_in w files b kept
unfolding plan_in pools_view
planned_are w files b kept pools lists leaders plan are listed lead is =
    is ∙ ap (λ ls. plan_of files b (merged_views pools) ls leaders) listed
    ∙ ap (plan_of files b (merged_views pools) (all_lists files)) lead
    ∙ ap (λ (v : PoolsView). plan_of files b v.merged (all_lists files) (leaders_in w files b kept)) are

-- folded sections have leaders that may stay and are their own leaders
pub folded_stay : (files : List File) (b : Bindings) (kept barred : List Bool) (pools : Pools) (own leaders : List (Option ℕ)) (list : List FoldItem) (places : List ℕ) →
    own ≡ own_leaders kept (merged_views pools) → list ≡ items files b (merged_views pools) kept barred → IsStrictlyIncreasing (sections_of list) →
    LeadItems (length list) places → leaders ≡ folded_leaders list places own → MayStay files b kept → AreLeaders files b leaders
folded_stay files b kept barred pools own leaders list places own_is list_is order lead is stay =
    let merged = merged_views pools in
    let P : List FoldItem → Type 0 = λ l. All (λ n. is_kept kept n ≡ true) (sections_of l) in
    let kept_are = subst P (sym list_is) (items_kept files b merged kept barred) in
    let whole = is ∙ ap (folded_leaders list places) own_is in
    let Q : List (Option ℕ) → Type 0 = λ l. AreLeaders files b l in
    subst Q (sym whole) (lead_so files b kept (folded_leaders list places (own_leaders kept merged)) (folded_lead kept merged list places order kept_are lead) stay)

-- and without folding
pub own_stay : (files : List File) (b : Bindings) (kept : List Bool) (pools : Pools) (own : List (Option ℕ)) → own ≡ own_leaders kept (merged_views pools) →
    MayStay files b kept → AreLeaders files b own
own_stay files b kept pools own is stay =
    let Q : List (Option ℕ) → Type 0 = λ l. AreLeaders files b l in
    subst Q (sym is) (lead_so files b kept (own_leaders kept (merged_views pools)) (own_lead kept (merged_views pools)) stay)

-- each section has as many bytes as its leader, without folding and with it
pub own_so : (tables : Tables) (b : Bindings) (kept : List Bool) (pools : Pools) (own : List (Option ℕ)) → own ≡ own_leaders kept (merged_views pools) →
    MayStay (files_of tables) b kept → AreAlike (files_of tables) b own
own_so tables b kept pools own is stay =
    let Q : List (Option ℕ) → Type 0 = λ l. AreAlike (files_of tables) b l in
    subst Q (sym is) (own_alike tables b kept stay.each (merged_views pools))

pub folded_so : (tables : Tables) (b : Bindings) (kept barred : List Bool) (pools : Pools) (own leaders : List (Option ℕ)) (list : List FoldItem) (places : List ℕ) →
    own ≡ own_leaders kept (merged_views pools) → list ≡ items (files_of tables) b (merged_views pools) kept barred → ItemLeaders list places →
    leaders ≡ folded_leaders list places own → MayStay (files_of tables) b kept → AreAlike (files_of tables) b leaders
folded_so tables b kept barred pools own leaders list places own_is list_is lead is stay =
    let files = files_of tables in
    let merged = merged_views pools in
    let P : List FoldItem → Type 0 = λ l. ItemLeaders l places in
    let Q : List (Option ℕ) → Type 0 = λ l. AreAlike files b l in
    let whole = is ∙ ap (λ l. folded_leaders l places own) list_is ∙ ap (folded_leaders (items files b merged kept barred) places) own_is in
    subst Q (sym whole) (folded_alike tables b kept stay.each barred merged places (subst P list_is lead))

-- and goes where its leader does
pub own_goes : (files : List File) (b : Bindings) (kept : List Bool) (pools : Pools) (own : List (Option ℕ)) → own ≡ own_leaders kept (merged_views pools) →
    GoWithLeaders files b kept (merged_views pools) own
own_goes files b kept pools own is = subst (GoWithLeaders files b kept (merged_views pools)) (sym is) (own_go files b kept (merged_views pools))

pub folded_goes : (files : List File) (b : Bindings) (kept barred : List Bool) (pools : Pools) (own leaders : List (Option ℕ)) (list : List FoldItem) (places : List ℕ) →
    own ≡ own_leaders kept (merged_views pools) → list ≡ items files b (merged_views pools) kept barred → ItemLeaders list places →
    leaders ≡ folded_leaders list places own → GoWithLeaders files b kept (merged_views pools) leaders
folded_goes files b kept barred pools own leaders list places own_is list_is lead is =
    let merged = merged_views pools in
    let P : List FoldItem → Type 0 = λ l. ItemLeaders l places in
    let whole = is ∙ ap (λ l. folded_leaders l places own) list_is ∙ ap (folded_leaders (items files b merged kept barred) places) own_is in
    subst (GoWithLeaders files b kept merged) (sym whole) (folded_go files b kept barred merged places (subst P list_is lead))
