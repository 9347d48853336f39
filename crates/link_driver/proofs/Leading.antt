-- What the passes before the layout hand on, together: leaders, and where everything stands.
use Rattle.std.proofs.Common.{◌≡◌, ℕ, Bool, List, Option, refl, sym, ap, ◌∙◌}
use Rattle.eh_frame.specs.Plan.{plan_of}
use Rattle.layout.specs.Layout.{layout_defects, layout_of, limit_defects}
use Rattle.lk_base.specs.declared.limits.Limits.{Limits}
use Rattle.lk_tables.specs.Binding.{Bindings}
use Rattle.lk_tables.specs.Files.{File}
use Rattle.lk_tables.specs.FramePlans.{PlanView}
use Rattle.lk_tables.specs.Frames.{all_lists}
use Rattle.link_sections.specs.declared.got.GotEntry.{GotEntry}
use Rattle.link_sections.specs.declared.pools.Pool.{Pool}
use Rattle.link_sections.specs.declared.pools.Pools.{Pools}
use Rattle.link_sections.specs.Cuts.{Cut}
use Rattle.link_sections.specs.GotEntries.{word_count}
use Rattle.link_sections.specs.LaidOut.{LaidOut, with_contents}
use Rattle.link_sections.specs.Merging.{pools_of}
use Rattle.link_sections.specs.PoolViews.{Merged, PoolsView, merged_views, pool_heads, pools_view}
use Rattle.link_sections.proofs.PoolHeads.{pool_heads_are}
use Rattle.output_sections.specs.Items.{items as parts}
use Rattle.output_sections.specs.Order.{Orders, members_in, orders_of}
use Rattle.relax.specs.CallSizes.{cuts_of}
use Rattle.sec_graph.specs.Foldable.{items}
use Rattle.link_passes.specs.Passes.{LinkOptions, leaders_in, plan_in, table_of}
use Rattle.link_driver.specs.Link.{cuts_in, laid_out, sizes_in}

-- what stands in pools and in the table is no matter of the layout's defects
without_contents : (limits : Limits) (files : List File) (l : LaidOut) (v : PoolsView) (t : List GotEntry) →
    layout_defects limits files l ≡ layout_defects limits files (with_contents l v t)
unfolding layout_defects limit_defects with_contents
without_contents limits files l v t = refl

module _ (w : LinkOptions) (files : List File) (b : Bindings) (kept : List Bool) (pools : Pools) (are : pools_view files pools ≡ pools_of files kept) where
  module _ (leaders : List (Option ℕ)) (lead : leaders ≡ leaders_in w files b kept) (entries : List GotEntry) (listed : entries ≡ table_of w files b kept)
      (rows : Orders) (order : rows ≡ orders_of (parts files b pools.pools.items (word_count entries) leaders)) (sizes : List (List Cut))
      (cut : sizes ≡ cuts_of files b (merged_views pools) leaders (members_in rows) w.relax) (plan : PlanView) (planned : plan ≡ plan_in w files b kept) where
    abbrev plain : LaidOut
    plain =
        layout_of files b (pool_heads (pools_of files kept)) (word_count (table_of w files b kept)) (leaders_in w files b kept) (cuts_in w files b kept) (sizes_in (plan_in w files b kept))

    abbrev cuts_by : List (Option Merged) → List Pool → List GotEntry → List (Option ℕ) → List (List Cut)
    cuts_by merged heads table l = cuts_of files b merged l (members_in (orders_of (parts files b heads (word_count table) l))) w.relax

    cuts_are : sizes ≡ cuts_in w files b kept
    unfolding cuts_in pools_view
    cuts_are =
        cut ∙ ap (λ o. cuts_of files b (merged_views pools) leaders (members_in o) w.relax) order
        ∙ ap (λ ps. cuts_by (merged_views pools) ps entries leaders) (sym (pool_heads_are files pools) ∙ ap pool_heads are)
        ∙ ap (λ es. cuts_by (merged_views pools) (pool_heads (pools_of files kept)) es leaders) listed
        ∙ ap (cuts_by (merged_views pools) (pool_heads (pools_of files kept)) (table_of w files b kept)) lead
        ∙ ap (λ (v : PoolsView). cuts_by v.merged (pool_heads (pools_of files kept)) (table_of w files b kept) (leaders_in w files b kept)) are

    plain_is : layout_of files b pools.pools.items (word_count entries) leaders sizes (sizes_in plan) ≡ plain
    plain_is =
        let heads = pool_heads (pools_of files kept) in
        let words = word_count (table_of w files b kept) in
        ap (λ ps. layout_of files b ps (word_count entries) leaders sizes (sizes_in plan)) (sym (pool_heads_are files pools) ∙ ap pool_heads are)
        ∙ ap (λ es. layout_of files b heads (word_count es) leaders sizes (sizes_in plan)) listed
        ∙ ap (λ l. layout_of files b heads words l sizes (sizes_in plan)) lead
        ∙ ap (λ s. layout_of files b heads words (leaders_in w files b kept) s (sizes_in plan)) cuts_are
        ∙ ap (λ (p : PlanView). layout_of files b heads words (leaders_in w files b kept) (cuts_in w files b kept) (sizes_in p)) planned

    pub laid_are : (view : LaidOut) → view ≡ layout_of files b pools.pools.items (word_count entries) leaders sizes (sizes_in plan) →
        with_contents view (pools_view files pools) entries ≡ laid_out w files b kept
    unfolding laid_out
    laid_are view is =
        ap (λ v. with_contents v (pools_view files pools) entries) (is ∙ plain_is)
        ∙ ap (λ v. with_contents plain v entries) are ∙ ap (with_contents plain (pools_of files kept)) listed

    pub defects_are : (limits : Limits) →
        layout_defects limits files (layout_of files b pools.pools.items (word_count entries) leaders sizes (sizes_in plan)) ≡ layout_defects limits files (laid_out w files b kept)
    unfolding laid_out
    defects_are limits = ap (layout_defects limits files) plain_is ∙ without_contents limits files plain (pools_of files kept) (table_of w files b kept)

-- over the layout
pub planned_laid : (w : LinkOptions) (files : List File) (b : Bindings) (kept : List Bool) (leaders : List (Option ℕ)) (laid : LaidOut) (plan : PlanView) →
    leaders ≡ leaders_in w files b kept → laid ≡ laid_out w files b kept → plan ≡ plan_in w files b kept →
    plan ≡ plan_of files b laid.merging.merged (all_lists files) leaders
unfolding plan_in laid_out with_contents
planned_laid w files b kept leaders laid plan lead found planned =
    planned ∙ ap (λ (l : LaidOut). plan_of files b l.merging.merged (all_lists files) (leaders_in w files b kept)) (sym found)
    ∙ ap (plan_of files b laid.merging.merged (all_lists files)) (sym lead)
