use Rattle.std.proofs.Common.{◌≡◌, ℕ, List, [], get_or, ap, sym, subst, ◌∙◌, arith, length, map}
use Rattle.std.specs.List.{All}
use Rattle.lk_tables.specs.BindingView.{binding_view}
use Rattle.lk_tables.specs.Files.{section_total}
use Rattle.lk_tables.specs.Sites.{relocs_of}
use Rattle.lk_tables.specs.TablesView.{files_of}
use Rattle.link_sections.specs.PoolViews.{merged_views}
use Rattle.link_sections.specs.CutsView.{cut_views}
use Rattle.relax.specs.CallSizes.{AreLeastSafe, all_calls, all_cuts, cuts_by, place_in, size_in}
use Rattle.relax.specs.Jumps.{AreBelow, AreSafe}
use Rattle.relax.specs.Placing.{IsOneSize}
use Rattle.relax.specs.Points.{AreSoundRows, jumps_in}
use Rattle.relax.specs.Scenes.{rows_in}
use Rattle.std.proofs.lemmas.List.FromFn.{get_or-map-range_with_len, length-map-range_with_len}
use Rattle.link_sections.specs.Cuts.{Cut}
use Rattle.relax.proofs.CutSteps.{size_one}
use Rattle.relax.proofs.Fitting.{fit_sections}
use Rattle.relax.proofs.RowFacts.{rows_sound}
use Rattle.relax.proofs.SafeSizes.{count_is, least_are, least_safe, sizes_of}
use Rattle.relax.proofs.keeping.sizes_in.Goals as goal

pub marks_of-requires-clause-sound : goal.marks_of-requires-clause-sound
marks_of-requires-clause-sound g c =
    let s = c.args.scene.now in
    subst (AreSoundRows s.members.now) (sym c.in_ok-calls.ensures)
    (rows_sound s.tables.now (binding_view s.binding.now) (merged_views s.pools.now) s.leaders.now s.members.now c.args.on c.requires.known)

pub call_sizes-requires-clause-sound : goal.call_sizes-requires-clause-sound
call_sizes-requires-clause-sound g c κs within =
    let s = c.args.scene.now in
    subst (AreSoundRows s.members.now) (sym c.in_ok-calls.ensures)
    (rows_sound s.tables.now (binding_view s.binding.now) (merged_views s.pools.now) s.leaders.now s.members.now c.args.on c.requires.known)

pub cut_rows-requires-clause-sound : goal.cut_rows-requires-clause-sound
cut_rows-requires-clause-sound g c κs within =
    let s = c.args.scene.now in
    subst (AreSoundRows s.members.now) (sym c.in_ok-calls.ensures)
    (rows_sound s.tables.now (binding_view s.binding.now) (merged_views s.pools.now) s.leaders.now s.members.now c.args.on c.requires.known)

pub cut_rows-requires-clause-sizes : goal.cut_rows-requires-clause-sizes
cut_rows-requires-clause-sizes g c κs within =
    let s = c.args.scene.now in
    let ms = s.members.now in
    let rows = rows_in s c.args.on in
    let sound = rows_sound s.tables.now (binding_view s.binding.now) (merged_views s.pools.now) s.leaders.now ms c.args.on c.requires.known in
    let safe : AreSafe (jumps_in ms rows) c.in_ok-sizes.sizes.items = subst (λ r. AreSafe (jumps_in ms r) c.in_ok-sizes.sizes.items) c.in_ok-calls.ensures c.in_ok-sizes.ensures.safe in
    subst (λ (l : List ℕ). All IsOneSize l) (sym c.as_slice-3.ensures.value) (sizes_of ms rows sound c.in_ok-sizes.sizes.items safe)

pub cut_rows-requires-clause-count : goal.cut_rows-requires-clause-count
cut_rows-requires-clause-count g c κs within =
    let s = c.args.scene.now in
    let ms = s.members.now in
    let rows = rows_in s c.args.on in
    let sound = rows_sound s.tables.now (binding_view s.binding.now) (merged_views s.pools.now) s.leaders.now ms c.args.on c.requires.known in
    let safe : AreSafe (jumps_in ms rows) c.in_ok-sizes.sizes.items = subst (λ r. AreSafe (jumps_in ms r) c.in_ok-sizes.sizes.items) c.in_ok-calls.ensures c.in_ok-sizes.ensures.safe in
    ap length c.as_slice-3.ensures.value ∙ safe.lawful.count ∙ count_is ms rows sound ∙ ap (λ r. length (all_calls r)) (sym c.in_ok-calls.ensures)

pub returns-clause-cuts : goal.returns-clause-cuts
returns-clause-cuts g c =
    let s = c.args.scene.now in
    let ms = s.members.now in
    let files = files_of s.tables.now in
    let rows = rows_in s c.args.on in
    let z = c.in_ok-sizes.sizes.items in
    let sound = rows_sound s.tables.now (binding_view s.binding.now) (merged_views s.pools.now) s.leaders.now ms c.args.on c.requires.known in
    let safe : AreSafe (jumps_in ms rows) z = subst (λ r. AreSafe (jumps_in ms r) z) c.in_ok-calls.ensures c.in_ok-sizes.ensures.safe in
    let below : AreBelow (jumps_in ms rows) z = subst (λ r. AreBelow (jumps_in ms r) z) c.in_ok-calls.ensures c.in_ok-sizes.ensures.least in
    ap (map cut_views) c.of.ensures ∙ c.in_ok-rows.ensures.views
    ∙ ap (λ r. all_cuts files ms r c.as_slice-3.result.now) c.in_ok-calls.ensures ∙ ap (all_cuts files ms rows) (c.as_slice-3.ensures.value ∙ least_are ms rows sound z safe below)

pub returns-clause-fit : goal.returns-clause-fit
unfolding all_cuts
returns-clause-fit g c =
    let s = c.args.scene.now in
    let ms = s.members.now in
    let files = files_of s.tables.now in
    let calls = c.in_ok-calls.calls in
    let z = c.as_slice-3.result.now in
    let sizes : (n k : ℕ) → ℕ = λ n. size_in calls z (place_in ms n) in
    let rows = rows_in s c.args.on in
    let sound = rows_sound s.tables.now (binding_view s.binding.now) (merged_views s.pools.now) s.leaders.now ms c.args.on c.requires.known in
    let safe : AreSafe (jumps_in ms rows) c.in_ok-sizes.sizes.items = subst (λ r. AreSafe (jumps_in ms r) c.in_ok-sizes.sizes.items) c.in_ok-calls.ensures c.in_ok-sizes.ensures.safe in
    let lawful : All IsOneSize z = subst (λ (l : List ℕ). All IsOneSize l) (sym c.as_slice-3.ensures.value) (sizes_of ms rows sound c.in_ok-sizes.sizes.items safe) in
    let are : map cut_views c.of.result.rows ≡ all_cuts files ms calls z = ap (map cut_views) c.of.ensures ∙ c.in_ok-rows.ensures.views in
    let give : ℕ → List Cut = λ n. cuts_by (sizes n) (relocs_of files n) in
    fit_sections s.tables.now (map cut_views c.of.result.rows) sizes
    (ap length are ∙ length-map-range_with_len give 0 (section_total files))
    (λ n lt. ap (λ l. get_or l n []) are ∙ get_or-map-range_with_len give 0 (section_total files) n n [] lt (omega arith))
    (λ n k. size_one calls z (place_in ms n) k lawful)

pub returns-clause-law : goal.returns-clause-law
returns-clause-law g c =
    let s = c.args.scene.now in
    let ms = s.members.now in
    let rows = rows_in s c.args.on in
    let z = c.in_ok-sizes.sizes.items in
    let sound = rows_sound s.tables.now (binding_view s.binding.now) (merged_views s.pools.now) s.leaders.now ms c.args.on c.requires.known in
    let safe : AreSafe (jumps_in ms rows) z = subst (λ r. AreSafe (jumps_in ms r) z) c.in_ok-calls.ensures c.in_ok-sizes.ensures.safe in
    let below : AreBelow (jumps_in ms rows) z = subst (λ r. AreBelow (jumps_in ms r) z) c.in_ok-calls.ensures c.in_ok-sizes.ensures.least in
    subst (AreLeastSafe ms rows) (least_are ms rows sound z safe below) (least_safe ms rows sound z safe below)
