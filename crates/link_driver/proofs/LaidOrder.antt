-- The defects of the layout and of relocations are in order.
use Rattle.std.proofs.Common.{ℕ, ◌-◌, ◌≤◌, ◌&&◌, not, nat_lt, nat_le, Bool, true, false, Option, Some, None, List, [], ◌∷◌, ◌++◌, flat_map, length, get_or, ℤ, pos, refl}
use Rattle.std.specs.Prelude.{filter, if◌then◌else◌, is_some}
use Rattle.std.specs.List.{AllByRecursion, range_with_len}
use Rattle.lk_base.specs.declared.abi.TheConstants.{IMAGE_BASE}
use Rattle.lk_base.specs.declared.defects.Defect.{Defect}
use Rattle.lk_base.specs.declared.defects.Misfit.{Misfit}
use Rattle.lk_base.specs.declared.defects.Misfit.TheVariants.{Odd, Range}
use Rattle.lk_base.specs.declared.kinds.TheConstants.{NO_PARTNER, TOO_BIG}
use Rattle.lk_base.specs.declared.limits.Limits.{Limits}
use Rattle.lk_base.specs.Defects.{count_defect, linkwide}
use Rattle.lk_base.specs.Reaches.{Reach, misfit_of}
use Rattle.lk_base.specs.RelocKinds.{is_lower, is_uleb}
use Rattle.lk_tables.specs.declared.objects.Reloc.{Reloc}
use Rattle.lk_tables.specs.declared.section_places.SectionPlace.{SectionPlace}
use Rattle.lk_tables.specs.Binding.{Bindings}
use Rattle.lk_tables.specs.Files.{File, file_at, no_reloc, section_total}
use Rattle.lk_tables.specs.Sites.{place_of, relocs_of}
use Rattle.lk_tables.specs.Walks.{reloc_defect}
use Rattle.lk_tables.specs.Misfits.{misfit_defects, value_defects}
use Rattle.layout.specs.Cutting.{cuts_after, is_short, laid_cut, laid_cuts, short_defect, short_defects}
use Rattle.layout.specs.Layout.{FrameSizes, all_cuts, cuts_of, cut_defects, laid_by, laid_of, layout_defects, layout_of, limit_defects}
use Rattle.link_sections.specs.declared.pools.Pool.{Pool}
use Rattle.link_sections.specs.declared.got.GotEntry.{GotEntry}
use Rattle.link_sections.specs.Calls.{acting_kind}
use Rattle.link_sections.specs.Cuts.{Cut}
use Rattle.link_sections.specs.LaidOut.{LaidOut, cuts_at, with_contents}
use Rattle.link_sections.specs.Leaders.{leads}
use Rattle.link_sections.specs.PoolViews.{PoolsView}
use Rattle.relax.specs.declared.calls.Call.{Call}
use Rattle.output_sections.specs.declared.rows.Row.{Row}
use Rattle.relax.specs.CallSizes as calls
use Rattle.relax.specs.CallSizes.{cut_of, cuts_by, is_cut}
use Rattle.reloc_apply.specs.Relocated.{defects_at, operand, reach_in, reloc_at, reloc_defects, section_defects, width_at}
use Rattle.reloc_apply.specs.Values.{partner_of, value_of}
use Rattle.link_passes.specs.Passes.{LinkOptions, leaders_in, plan_in}
use Rattle.link_driver.specs.Link.{cuts_in, laid_out, sizes_in}
use Rattle.link_passes.proofs.Rising.{AreBelow, Up, all_append, all_map, all_weaker, number_walk, numbers_up, one_all, read_up, up_append, up_if, up_map}
use Rattle.link_driver.proofs.DefectOrder.{IsWide, NotAfter, Ordered, all_flat, all_if, all_same, first_ordered, later_place, read_all, up_filter, wide_ordered}
use Rattle.link_driver.proofs.PhaseOrder.{AreInOrder, OfReloc, OfSection, RelocsUp, relocs_apart, sections_walk}

-- cuts in order of offset
abbrev CutsUp : (c d : Cut) → Type 0
CutsUp c d = c.at ≤ d.at

-- those of a section, by its relocations
cuts_by_up : (sizes : ℕ → ℕ) (relocs : List Reloc) → Up RelocsUp relocs → Up CutsUp (cuts_by sizes relocs)
unfolding cut_of
cuts_by_up sizes relocs up =
    let n = length relocs in
    let test : ℕ → Bool = λ k. is_cut (sizes k) (get_or relocs k no_reloc) in
    up_map (AreBelow n) CutsUp (λ k. cut_of (sizes k) (get_or relocs k no_reloc))
    (λ j k lt. read_up RelocsUp relocs j k no_reloc up lt.0 lt.1) (filter test (range_with_len 0 n)) (up_filter (AreBelow n) test (range_with_len 0 n) (numbers_up n))

all_cuts_up : (files : List File) (ms : List Row) (rows : List (List Call)) (z : List ℕ) → ((n : ℕ) → Up RelocsUp (relocs_of files n)) →
    (n : ℕ) → Up CutsUp (get_or (calls.all_cuts files ms rows z) n [])
unfolding calls.all_cuts
all_cuts_up files ms rows z rise n =
    read_all (Up CutsUp) _ n [] (all_map (Up CutsUp) _ (range_with_len 0 (section_total files))
    (all_same _ (range_with_len 0 (section_total files)) (λ k. cuts_by_up _ (relocs_of files k) (rise k)))) tt

-- once a section has a place
after_up : (start : ℕ) (before cs : List Cut) → Up CutsUp before → Up CutsUp cs → AllByRecursion (λ c. AllByRecursion (CutsUp c) cs) before → Up CutsUp (cuts_after start before cs)
unfolding laid_cut
after_up start before [] first next across = first
after_up start before (c ∷ cs) first next across =
    let laid = laid_cut start before c in
    after_up start (before ++ laid ∷ []) cs
    (up_append CutsUp before (laid ∷ []) first (tt, tt)
    (all_weaker (λ d. AllByRecursion (CutsUp d) (c ∷ cs)) (λ d. AllByRecursion (CutsUp d) (laid ∷ [])) before (λ d all. (all.0, tt)) across))
    next.1
    (all_append (λ d. AllByRecursion (CutsUp d) cs) before (laid ∷ [])
    (all_weaker (λ d. AllByRecursion (CutsUp d) (c ∷ cs)) (λ d. AllByRecursion (CutsUp d) cs) before (λ d all. all.1) across)
    (next.0, tt))

laid_cuts_up : (start : ℕ) (cs : List Cut) → Up CutsUp cs → Up CutsUp (laid_cuts start cs)
laid_cuts_up start cs up = after_up start [] cs tt up tt

cuts_of_up : (leaders : List (Option ℕ)) (sizes : List (List Cut)) (starts : List ℕ) → ((n : ℕ) → Up CutsUp (get_or sizes n [])) → (n : ℕ) → Up CutsUp (cuts_of leaders sizes starts n)
unfolding cuts_of
cuts_of_up leaders sizes starts rise n =
    up_if CutsUp (leads leaders n) (laid_cuts (get_or starts n 0) (get_or sizes n [])) [] (laid_cuts_up (get_or starts n 0) (get_or sizes n []) (rise n)) tt

placed_up : (leaders : List (Option ℕ)) (sizes : List (List Cut)) (starts : List ℕ) (sections : ℕ) → ((n : ℕ) → Up CutsUp (get_or sizes n [])) →
    (n : ℕ) → Up CutsUp (get_or (all_cuts leaders sizes starts sections) n [])
placed_up leaders sizes starts sections rise n =
    read_all (Up CutsUp) (all_cuts leaders sizes starts sections) n []
    (all_map (Up CutsUp) (cuts_of leaders sizes starts) (range_with_len 0 sections)
    (all_same (λ k. Up CutsUp (cuts_of leaders sizes starts k)) (range_with_len 0 sections) (cuts_of_up leaders sizes starts rise))) tt

layout_up : (files : List File) (b : Bindings) (pools : List Pool) (words : ℕ) (leaders : List (Option ℕ)) (sizes : List (List Cut)) (fs : FrameSizes) (v : PoolsView) (t : List GotEntry) →
    ((n : ℕ) → Up CutsUp (get_or sizes n [])) → (n : ℕ) → Up CutsUp (get_or (with_contents (layout_of files b pools words leaders sizes fs) v t).cuts n [])
unfolding layout_of laid_of laid_by with_contents
layout_up files b pools words leaders sizes fs v t rise n = placed_up leaders sizes _ (section_total files) rise n

-- alignments with too few bytes
shorts_up : (place : SectionPlace) (cs : List Cut) → Up CutsUp cs → Ordered (short_defects place cs)
shorts_up place cs up =
    up_map CutsUp NotAfter (short_defect place) (λ c d le. later_place (short_defect place d) (short_defect place c) refl refl le) (filter is_short cs) (up_filter CutsUp is_short cs up)

shorts_section : (place : SectionPlace) (cs : List Cut) → AllByRecursion (OfSection place.file place.index) (short_defects place cs)
shorts_section place cs =
    all_map (OfSection place.file place.index) (short_defect place) (filter is_short cs)
    (all_same (λ c. OfSection place.file place.index (short_defect place c)) (filter is_short cs) (λ c. record { file = refl; section = refl }))

cut_ordered : (files : List File) (cuts : List (List Cut)) → ((n : ℕ) → Up CutsUp (get_or cuts n [])) → Ordered (cut_defects files cuts (section_total files))
cut_ordered files cuts rise =
    sections_walk files (λ n. short_defects (place_of files n) (get_or cuts n []))
    (λ n. shorts_section (place_of files n) (get_or cuts n [])) (λ n. shorts_up (place_of files n) (get_or cuts n []) (rise n))

passed_wide : (limits : Limits) (outputs size : ℕ) (over big : Bool) →
    AllByRecursion IsWide (if over then count_defect outputs ∷ [] else (if big then linkwide TOO_BIG size 0 ∷ [] else []))
passed_wide limits outputs size true big = (refl, tt)
passed_wide limits outputs size false big = one_all IsWide big (linkwide TOO_BIG size 0) refl

limits_ordered : (limits : Limits) (laid : LaidOut) → Ordered (limit_defects limits laid)
unfolding limit_defects
limits_ordered limits laid =
    let size = laid.bounds.image_end - IMAGE_BASE in
    wide_ordered (limit_defects limits laid) (passed_wide limits (length laid.outputs) size (nat_lt limits.outputs (length laid.outputs)) (nat_le limits.image size))

layout_ordered : (limits : Limits) (files : List File) (laid : LaidOut) → ((n : ℕ) → Up CutsUp (get_or laid.cuts n [])) → Ordered (layout_defects limits files laid)
unfolding layout_defects
layout_ordered limits files laid rise =
    first_ordered (cut_defects files laid.cuts (section_total files)) (limit_defects limits laid ∷ []) (cut_ordered files laid.cuts rise)
    (λ none. first_ordered (limit_defects limits laid) [] (limits_ordered limits laid) (λ no. tt))

-- relocations
module _ (files : List File) (b : Bindings) (leaders : List (Option ℕ)) (laid : LaidOut) where
  misfits_of : (place : SectionPlace) (r : Reloc) (v : ℤ) (m : Option Misfit) → AllByRecursion (OfReloc place.file place.index r) (misfit_defects place r v m)
  misfits_of place r v None = tt
  misfits_of place r v (Some Odd) = (record { own = record { file = refl; section = refl }; place = refl }, tt)
  misfits_of place r v (Some Range) = (record { own = record { file = refl; section = refl }; place = refl }, tt)

  misfits_up : (place : SectionPlace) (r : Reloc) (v : ℤ) (m : Option Misfit) → Ordered (misfit_defects place r v m)
  misfits_up place r v None = tt
  misfits_up place r v (Some Odd) = (tt, tt)
  misfits_up place r v (Some Range) = (tt, tt)

  values_of : (place : SectionPlace) (r : Reloc) (reach : Reach) (v : Option ℤ) → AllByRecursion (OfReloc place.file place.index r) (value_defects place r reach v)
  values_of place r reach None = tt
  values_of place r reach (Some v) = misfits_of place r v (misfit_of reach v)

  values_up : (place : SectionPlace) (r : Reloc) (reach : Reach) (v : Option ℤ) → Ordered (value_defects place r reach v)
  values_up place r reach None = tt
  values_up place r reach (Some v) = misfits_up place r v (misfit_of reach v)

  abbrev alone : (n : ℕ) → Reloc → Bool
  alone n r = is_lower r.kind && not (is_some (partner_of files b leaders laid n r))

  abbrev reach_at : (n : ℕ) → Reloc → Reach
  reach_at n r = reach_in (is_uleb r.kind) (acting_kind (cuts_at laid n) r) (width_at files b leaders laid n r)

  abbrev value_by : (n : ℕ) → (p r : Reloc) → Option ℤ
  value_by n p r = value_of files b leaders laid n r (operand files b leaders laid n p r (pos 0))

  abbrev misfitting : (n : ℕ) → (p r : Reloc) → List Defect
  misfitting n p r = value_defects (place_of files n) r (reach_at n r) (value_by n p r)

  reloc_of : (n : ℕ) (p r : Reloc) → AllByRecursion (OfReloc (place_of files n).file (place_of files n).index r) (reloc_defects files b leaders laid n p r)
  unfolding reloc_defects
  reloc_of n p r =
      all_if (OfReloc (place_of files n).file (place_of files n).index r) (alone n r) (reloc_defect NO_PARTNER (place_of files n).file (place_of files n).index r 0 ∷ []) (misfitting n p r)
      (record { own = record { file = refl; section = refl }; place = refl }, tt)
      (values_of (place_of files n) r (reach_at n r) (value_by n p r))

  reloc_up : (n : ℕ) (p r : Reloc) → Ordered (reloc_defects files b leaders laid n p r)
  unfolding reloc_defects
  reloc_up n p r =
      up_if NotAfter (alone n r) (reloc_defect NO_PARTNER (place_of files n).file (place_of files n).index r 0 ∷ []) (misfitting n p r) (tt, tt)
      (values_up (place_of files n) r (reach_at n r) (value_by n p r))

  abbrev of_section : (n : ℕ) → List Defect
  of_section n = flat_map (defects_at files b leaders laid n) (range_with_len 0 (length (relocs_of files n)))

  pub section_of : (n : ℕ) → AllByRecursion (OfSection (place_of files n).file (place_of files n).index) (section_defects files b leaders laid n)
  unfolding section_defects
  section_of n =
      let f = (place_of files n).file in
      let k = (place_of files n).index in
      all_if (OfSection f k) (leads leaders n) (of_section n) []
      (all_flat (OfSection f k) (defects_at files b leaders laid n) (range_with_len 0 (length (relocs_of files n)))
      (λ i. all_weaker (OfReloc f k (reloc_at files b leaders laid n i)) (OfSection f k) (defects_at files b leaders laid n i)
      (λ d is. is.own) (reloc_of n (reloc_at files b leaders laid n (i - 1)) (reloc_at files b leaders laid n i)))) tt

  pub section_up : ((f : ℕ) → AreInOrder (file_at files f)) → (n : ℕ) → Ordered (section_defects files b leaders laid n)
  unfolding section_defects
  section_up rise n =
      let f = (place_of files n).file in
      let k = (place_of files n).index in
      let list = relocs_of files n in
      up_if NotAfter (leads leaders n) (of_section n) []
      (number_walk (length list) NotAfter (λ i. OfReloc f k (get_or list i no_reloc))
      (λ i j x y lt one two. relocs_apart f k (get_or list i no_reloc) (get_or list j no_reloc) x y (read_up RelocsUp list i j no_reloc (rise f k) lt.0 lt.1) one two)
      (defects_at files b leaders laid n)
      (λ i. reloc_of n (reloc_at files b leaders laid n (i - 1)) (reloc_at files b leaders laid n i))
      (λ i. reloc_up n (reloc_at files b leaders laid n (i - 1)) (reloc_at files b leaders laid n i))) tt

-- the cuts of a link
pub laid_ordered : (limits : Limits) (w : LinkOptions) (files : List File) (b : Bindings) (kept : List Bool) → ((f : ℕ) → AreInOrder (file_at files f)) →
    Ordered (layout_defects limits files (laid_out w files b kept))
unfolding laid_out cuts_in calls.cuts_of
laid_ordered limits w files b kept rise =
    layout_ordered limits files (laid_out w files b kept)
    (layout_up files b _ _ (leaders_in w files b kept) (cuts_in w files b kept) (sizes_in (plan_in w files b kept)) _ _ (all_cuts_up files _ _ _ (λ n. rise (place_of files n).file (place_of files n).index)))
