use Rattle.std.proofs.Common.{◌≡◌, length, refl, ap, sym, ◌∙◌, subst, arith}
use Rattle.std.proofs.lemmas.List.{length-map}
use Rattle.std.proofs.lemmas.Result.{err_from_is_err_and}
use Rattle.lk_tables.specs.BindingView.{binding_view}
use Rattle.lk_tables.specs.TablesView.{files_of}
use Rattle.link_sections.specs.GotEntries.{word_count}
use Rattle.link_sections.specs.GotView.{entries_of}
use Rattle.link_sections.specs.SizesView.{sizes_of}
use Rattle.output_sections.specs.Items.{items}
use Rattle.output_sections.specs.ItemViews.{item_view}
use Rattle.layout.specs.Layout.{frame_sizes, layout_of, limit_defects}
use Rattle.link_sections.specs.LaidOut.{with_contents}
use Rattle.link_sections.specs.PoolViews.{pools_view}
use Rattle.link_sections.specs.Sound.{IsSound}
use Rattle.layout.proofs.AllAligned.{start_seen}
use Rattle.layout.proofs.AllHeld.{held_seen}
use Rattle.layout.proofs.Laying.{stops_first, then_limits}
use Rattle.layout.proofs.PoolSizes.{pools_seen, sizes_seen}
use Rattle.layout.proofs.Seen.{laws_seen}
use Rattle.output_sections.proofs.Sized.{all_sound}
use Rattle.layout.proofs.SizeBounds.{all_apart}
use Rattle.layout.proofs.Sounds.{sound_laid, within_limits}
use Rattle.layout.proofs.placing.place.Goals as goal

pub returns-in_err-layout-clause-goes : goal.returns-in_err-layout-clause-goes
returns-in_err-layout-clause-goes c =
    let files = files_of c.args.tables.now in
    let laid = layout_of files (binding_view c.args.binding.now) c.args.pools.now.pools.items (word_count (entries_of c.args.got.now)) c.args.leaders.now (sizes_of c.args.sizes.now) (frame_sizes c.args.frames.now) in
    let p = err_from_is_err_and c.from_residual.result c.from_residual.ensures.1 in
    rw (p.1, p.2) (stops_first c.args.limits.now files laid c.in_err-layout.field-0.0 c.in_err-layout.ensures.goes)

pub returns-in-Ok-clause-goes : goal.returns-in-Ok-clause-goes
returns-in-Ok-clause-goes c =
    let files = files_of c.args.tables.now in
    let laid = layout_of files (binding_view c.args.binding.now) c.args.pools.now.pools.items (word_count (entries_of c.args.got.now)) c.args.leaders.now (sizes_of c.args.sizes.now) (frame_sizes c.args.frames.now) in
    then_limits c.args.limits.now files laid c.in_ok-layout.ensures.goes ∙ ap (limit_defects c.args.limits.now) (sym c.in_ok-layout.ensures.found) ∙ c.in-Ok.ensures

pub returns-clause-goes : goal.returns-clause-goes
returns-clause-goes c =
    let files = files_of c.args.tables.now in
    let laid = layout_of files (binding_view c.args.binding.now) c.args.pools.now.pools.items (word_count (entries_of c.args.got.now)) c.args.leaders.now (sizes_of c.args.sizes.now) (frame_sizes c.args.frames.now) in
    (c.in-Err.ensures.0, then_limits c.args.limits.now files laid c.in_ok-layout.ensures.goes ∙ ap (limit_defects c.args.limits.now) (sym c.in_ok-layout.ensures.found) ∙ c.in-Err.ensures.1)

pub returns-in-Ok-clause-sound : goal.returns-in-Ok-clause-sound
returns-in-Ok-clause-sound c few =
    let files = files_of c.args.tables.now in
    let b = binding_view c.args.binding.now in
    let sizes = sizes_of c.args.sizes.now in
    let laid = layout_of files b c.args.pools.now.pools.items (word_count (entries_of c.args.got.now)) c.args.leaders.now sizes (frame_sizes c.args.frames.now) in
    let none = then_limits c.args.limits.now files laid c.in_ok-layout.ensures.goes ∙ ap (limit_defects c.args.limits.now) (sym c.in_ok-layout.ensures.found) ∙ c.in-Ok.ensures in
    let pools = c.args.pools.now in
    let merging = pools_view files pools in
    let table = entries_of c.args.got.now in
    subst (λ l. IsSound files b c.args.leaders.now (with_contents l merging table)) (sym c.in_ok-layout.ensures.found)
    (sound_laid files b pools.pools.items (word_count table) c.args.leaders.now sizes merging table c.args.limits.now (frame_sizes c.args.frames.now) (all_sound c.args.tables.now) c.requires.leaders pools.rising
    c.requires.pools c.requires.sizes (all_apart c.args.sizes.now.rows c.args.sizes.now.sound) c.in_ok-layout.ensures.sized c.in_ok-layout.ensures.room
    c.requires.small (pools_seen files pools) (sizes_seen files pools) refl few none)

pub returns-in-Ok-clause-within : goal.returns-in-Ok-clause-within
returns-in-Ok-clause-within c = within_limits c.args.limits.now _ c.in-Ok.ensures

pub returns-in-Ok-clause-rising : goal.returns-in-Ok-clause-rising
returns-in-Ok-clause-rising c =
    (laws_seen c.in_ok-layout.layout (files_of c.args.tables.now) (binding_view c.args.binding.now) c.args.pools.now.pools.items (word_count (entries_of c.args.got.now)) c.args.leaders.now
    (sizes_of c.args.sizes.now) (frame_sizes c.args.frames.now) c.requires.leaders c.requires.sizes (all_apart c.args.sizes.now.rows c.args.sizes.now.sound) c.in_ok-layout.ensures.sized
    c.in_ok-layout.ensures.room c.requires.small c.in_ok-layout.ensures.found).rising

pub returns-in-Ok-clause-segments : goal.returns-in-Ok-clause-segments
returns-in-Ok-clause-segments c =
    (laws_seen c.in_ok-layout.layout (files_of c.args.tables.now) (binding_view c.args.binding.now) c.args.pools.now.pools.items (word_count (entries_of c.args.got.now)) c.args.leaders.now
    (sizes_of c.args.sizes.now) (frame_sizes c.args.frames.now) c.requires.leaders c.requires.sizes (all_apart c.args.sizes.now.rows c.args.sizes.now.sound) c.in_ok-layout.ensures.sized
    c.in_ok-layout.ensures.room c.requires.small c.in_ok-layout.ensures.found).segments

pub returns-in-Ok-clause-apart : goal.returns-in-Ok-clause-apart
returns-in-Ok-clause-apart c =
    (laws_seen c.in_ok-layout.layout (files_of c.args.tables.now) (binding_view c.args.binding.now) c.args.pools.now.pools.items (word_count (entries_of c.args.got.now)) c.args.leaders.now
    (sizes_of c.args.sizes.now) (frame_sizes c.args.frames.now) c.requires.leaders c.requires.sizes (all_apart c.args.sizes.now.rows c.args.sizes.now.sound) c.in_ok-layout.ensures.sized
    c.in_ok-layout.ensures.room c.requires.small c.in_ok-layout.ensures.found).apart

pub returns-in-Ok-clause-inside : goal.returns-in-Ok-clause-inside
returns-in-Ok-clause-inside c =
    (laws_seen c.in_ok-layout.layout (files_of c.args.tables.now) (binding_view c.args.binding.now) c.args.pools.now.pools.items (word_count (entries_of c.args.got.now)) c.args.leaders.now
    (sizes_of c.args.sizes.now) (frame_sizes c.args.frames.now) c.requires.leaders c.requires.sizes (all_apart c.args.sizes.now.rows c.args.sizes.now.sound) c.in_ok-layout.ensures.sized
    c.in_ok-layout.ensures.room c.requires.small c.in_ok-layout.ensures.found).inside

pub returns-in-Ok-clause-aligned : goal.returns-in-Ok-clause-aligned
returns-in-Ok-clause-aligned c =
    (laws_seen c.in_ok-layout.layout (files_of c.args.tables.now) (binding_view c.args.binding.now) c.args.pools.now.pools.items (word_count (entries_of c.args.got.now)) c.args.leaders.now
    (sizes_of c.args.sizes.now) (frame_sizes c.args.frames.now) c.requires.leaders c.requires.sizes (all_apart c.args.sizes.now.rows c.args.sizes.now.sound) c.in_ok-layout.ensures.sized
    c.in_ok-layout.ensures.room c.requires.small c.in_ok-layout.ensures.found).aligned

pub returns-in-Ok-clause-nobits_members : goal.returns-in-Ok-clause-nobits_members
returns-in-Ok-clause-nobits_members c =
    (laws_seen c.in_ok-layout.layout (files_of c.args.tables.now) (binding_view c.args.binding.now) c.args.pools.now.pools.items (word_count (entries_of c.args.got.now)) c.args.leaders.now
    (sizes_of c.args.sizes.now) (frame_sizes c.args.frames.now) c.requires.leaders c.requires.sizes (all_apart c.args.sizes.now.rows c.args.sizes.now.sound) c.in_ok-layout.ensures.sized
    c.in_ok-layout.ensures.room c.requires.small c.in_ok-layout.ensures.found).nobits_members

pub returns-in-Ok-clause-framed : goal.returns-in-Ok-clause-framed
returns-in-Ok-clause-framed c =
    (laws_seen c.in_ok-layout.layout (files_of c.args.tables.now) (binding_view c.args.binding.now) c.args.pools.now.pools.items (word_count (entries_of c.args.got.now)) c.args.leaders.now
    (sizes_of c.args.sizes.now) (frame_sizes c.args.frames.now) c.requires.leaders c.requires.sizes (all_apart c.args.sizes.now.rows c.args.sizes.now.sound) c.in_ok-layout.ensures.sized
    c.in_ok-layout.ensures.room c.requires.small c.in_ok-layout.ensures.found).framed

pub returns-in-Ok-clause-held : goal.returns-in-Ok-clause-held
returns-in-Ok-clause-held c =
    let files = files_of c.args.tables.now in
    let b = binding_view c.args.binding.now in
    let pools = c.args.pools.now in
    let words = word_count (entries_of c.args.got.now) in
    let same = ap length c.requires.items in
    held_seen c.in_ok-layout.layout files b pools.pools.items words c.args.leaders.now (sizes_of c.args.sizes.now) (frame_sizes c.args.frames.now) c.requires.leaders c.requires.sizes
    (all_apart c.args.sizes.now.rows c.args.sizes.now.sound) c.in_ok-layout.ensures.sized (omega (arith, c.args.sections.now.few, length-map c.args.sections.now.items.items item_view, same))
    pools.rising c.requires.pools c.in_ok-layout.ensures.found

pub returns-in-Ok-clause-starts : goal.returns-in-Ok-clause-starts
returns-in-Ok-clause-starts c =
    start_seen c.in_ok-layout.layout (files_of c.args.tables.now) (binding_view c.args.binding.now) c.args.pools.now.pools.items (word_count (entries_of c.args.got.now)) c.args.leaders.now
    (sizes_of c.args.sizes.now) (frame_sizes c.args.frames.now) c.in_ok-layout.ensures.sized c.args.pools.now.rising c.requires.pools c.in_ok-layout.ensures.found
