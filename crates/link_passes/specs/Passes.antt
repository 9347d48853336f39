-- What each pass before the layout has given: bound names, kept sections, what is folded with no other, leaders, unwind records and the table.
use Rattle.std.specs.Prelude.{ℕ, ◌-◌, ◌^◌, ◌==◌, ◌&&◌, ◌||◌, min, map, Bool, Option, is_some, if◌then◌else◌, List}
use Rattle.std.specs.List.{list_any, range_with_len}
use Rattle.lk_base.specs.declared.defects.Defect.{Defect}
use Rattle.lk_base.specs.declared.limits.Limits.{Limits}
use Rattle.lk_base.specs.Defects.{count_defects}
use Rattle.asked_names.specs.AskedNames.{named_sections}
use Rattle.comdat.specs.Discarded.{discarded}
use Rattle.link_sections.specs.InputSections.{all_kept}
use Rattle.link_sections.specs.declared.got.GotEntry.{GotEntry}
use Rattle.link_sections.specs.FoldItems.{FoldItem}
use Rattle.link_sections.specs.Leaders.{folded_leaders, own_leaders}
use Rattle.link_sections.specs.Merging.{piece_count, pools_of}
use Rattle.link_sections.specs.PoolViews.{Merged}
use Rattle.lk_tables.specs.Binding.{Bindings}
use Rattle.lk_tables.specs.BoundNames.{bindings}
use Rattle.lk_tables.specs.Files.{File, section_total}
use Rattle.lk_tables.specs.FramePlans.{PlanView}
use Rattle.lk_tables.specs.Frames.{all_lists}
use Rattle.eh_frame.specs.Plan.{plan_of}
use Rattle.got_tls.specs.GotList.{got_of}
use Rattle.icf_part.specs.Leaders.{leaders_of}
use Rattle.link_command.specs.declared.command.IcfMode.{IcfMode}
use Rattle.link_command.specs.Command.{CommandView, folds, is_safe}
use Rattle.sec_gc.specs.Kept.{reached}
use Rattle.sec_gc.specs.Roots.{roots}
use Rattle.sec_graph.specs.Foldable.{is_barred, items}
use Rattle.sec_graph.specs.Graph.{edges}
use Rattle.sec_graph.specs.Taken.{address_taken}

-- what the names of these files are bound to: of the COMDAT groups of one signature one copy counts
unfoldable pub bound_names : List File → (entry : List ℕ) → Bindings
bound_names files entry = bindings files (discarded files) entry

-- by section number, which sections are kept: all, or those that the roots lead to, among them those of the names that are asked for
unfoldable pub kept_of : (gc : Bool) → (undefined : List (List ℕ)) → List File → Bindings → List Bool
kept_of gc undefined files b = if gc then reached (roots files b undefined) (edges files b) else all_kept files b

-- a section is to be folded with no other: a name that is to be kept unique stands in it, or folding is to be safe and its address is taken
abbrev pub is_apart : IcfMode → (unique : List (List ℕ)) → List File → Bindings → (kept : List Bool) → (section : ℕ) → Bool
is_apart icf unique files b kept section =
    list_any (λ s. s == section) (named_sections files b unique) || (is_safe icf && is_barred (address_taken files b kept) section)

-- which sections are barred, by their numbers
unfoldable pub barred_of : IcfMode → (unique : List (List ℕ)) → List File → Bindings → (kept : List Bool) → List Bool
barred_of icf unique files b kept = map (is_apart icf unique files b kept) (range_with_len 0 (section_total files))

-- what the command asks of a link beside its names: which sections are kept, whether equal code is folded and by section number which code is
-- to be folded with no other, whether calls are relaxed, whether symbols are left out, whether there is a map, and whether there is a report, of
-- so many generated objects
pub record LinkOptions : Type 0 where
  pub gc : Bool
  pub icf : Bool
  pub barred : List Bool
  pub relax : Bool
  pub strip : Bool
  pub map : Bool
  pub generated : Option ℕ

abbrev pub link_options_of : CommandView → (barred : List Bool) → LinkOptions
link_options_of asked barred = record {
  gc = asked.gc;
  icf = folds asked.icf;
  barred = barred;
  relax = asked.relax;
  strip = asked.strip;
  map = is_some asked.map;
  generated = asked.generated;
}

-- of these files, what a command keeps, and what it asks where this is kept
abbrev pub kept_for : CommandView → List File → Bindings → List Bool
kept_for asked files b = kept_of asked.gc asked.undefined files b

abbrev pub link_options_for : CommandView → List File → Bindings → (kept : List Bool) → LinkOptions
link_options_for asked files b kept = link_options_of asked (barred_of asked.icf asked.unique files b kept)

module _ (w : LinkOptions) (files : List File) (b : Bindings) (kept : List Bool) where
  -- by section number, what is merged of kept sections
  abbrev pub merged_of : List (Option Merged)
  merged_of = (pools_of files kept).merged

  -- by section number, which section is written in the place of each: those that are merged stand in pools, and equal code is folded
  abbrev pub fold_items_of : List FoldItem
  fold_items_of = items files b merged_of kept w.barred

  unfoldable pub leaders_in : List (Option ℕ)
  leaders_in = if w.icf then folded_leaders fold_items_of (leaders_of fold_items_of) (own_leaders kept merged_of) else own_leaders kept merged_of

  -- which unwind records are written
  unfoldable pub plan_in : PlanView
  plan_in = plan_of files b merged_of (all_lists files) leaders_in

  -- the linker's global offset table
  abbrev pub table_of : List GotEntry
  table_of = got_of files leaders_in

-- too many pieces of sections that would be merged if they are kept; 64 bits hold the count
unfoldable pub piece_defects : Limits → List File → List Defect
piece_defects limits files = count_defects limits.pieces (min (piece_count files) (2 ^ 64 - 1))
