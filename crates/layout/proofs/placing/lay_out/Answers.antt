use Rattle.std.proofs.Common.{refl, ℕ, List, length, map, ap, sym, ◌∙◌, subst, All, arith}
use Rattle.std.proofs.lemmas.Result.{err_from_is_err_and}
use Rattle.lk_base.specs.Firsts.{StopsAt}
use Rattle.lk_tables.specs.BindingView.{binding_view}
use Rattle.lk_tables.specs.Files.{section_total}
use Rattle.lk_tables.specs.TablesView.{files_of}
use Rattle.link_sections.specs.CutsView.{cut_views}
use Rattle.link_sections.specs.GotEntries.{word_count}
use Rattle.link_sections.specs.GotView.{entries_of}
use Rattle.link_sections.specs.SizesView.{sizes_of}
use Rattle.output_sections.specs.Items.{Item}
use Rattle.output_sections.specs.ItemViews.{items_view}
use Rattle.layout.specs.Layout.{IsThere, all_cuts, all_weight, cut_defects, frame_sizes, layout_of}
use Rattle.output_sections.specs.Order.{orders_of}
use Rattle.output_sections.proofs.ItemFacts.{stays_of}
use Rattle.layout.proofs.ItemFacts.{there_of}
use Rattle.layout.proofs.Laying.{cuts_are, laid_now, room_of, view_is}
use Rattle.output_sections.proofs.Sized.{all_sound, modest}
use Rattle.layout.proofs.placing.lay_out.Goals as goal

pub walk_sections-requires-clause-there : goal.walk_sections-requires-clause-there
walk_sections-requires-clause-there c =
    let files = files_of c.args.tables.now in
    let b = binding_view c.args.binding.now in
    let pools = c.args.pools.now.pools.items in
    let sizes = sizes_of c.args.sizes.now in
    let there = there_of files b pools (word_count (entries_of c.args.got.now)) c.args.leaders.now sizes c.requires.leaders c.requires.sizes in
    let P : List Item → Type 0 = λ l. All (IsThere sizes (section_total files) (length pools)) l in
    let here = subst P (sym c.requires.items) there in
    let Q : ℕ → Type 0 = λ n. All (IsThere sizes n (length pools)) (items_view c.args.sections.now.items.items) in
    let R : ℕ → Type 0 = λ n. All (IsThere sizes c.section_count.result n) (items_view c.args.sections.now.items.items) in
    subst R (sym (ap length c.pools.ensures.value)) (subst Q (sym c.section_count.ensures) here)

pub lay_rows-requires-clause-within : goal.lay_rows-requires-clause-within
lay_rows-requires-clause-within c =
    λ n is k d lt.
    let files = files_of c.args.tables.now in
    let b = binding_view c.args.binding.now in
    let stays = stays_of files b c.args.leaders.now n c.requires.leaders is in
    let within = c.requires.sizes.within n stays.number k d lt in
    let size = (modest files b c.requires.bound (all_sound c.args.tables.now) n stays).sized in
    omega (arith, within, size)

pub returns-in_err-cuts-clause-goes : goal.returns-in_err-cuts-clause-goes
returns-in_err-cuts-clause-goes c =
    let files = files_of c.args.tables.now in
    let b = binding_view c.args.binding.now in
    let pools = c.args.pools.now.pools.items in
    let sizes = sizes_of c.args.sizes.now in
    let leaders = c.args.leaders.now in
    let words = (word_count (entries_of c.args.got.now)) in
    let laid = laid_now files b pools c.pools.result.now words leaders sizes c.args.sections.now.items.items c.args.sections.now.items.items c.in_ok-walked.walked (frame_sizes c.args.frames.now) c.in_ok-walked.bounds c.section_count.result
    refl c.requires.items c.section_count.ensures c.pools.ensures.value c.in_ok-walked.ensures.bounds c.in_ok-walked.ensures.trail in
    let cuts = cuts_are c.in_ok-walked.walked c.in_ok-walked.bounds leaders sizes (section_total files) (layout_of files b pools words leaders sizes (frame_sizes c.args.frames.now)) laid in
    let p = err_from_is_err_and c.from_residual-in_err-cuts.result c.from_residual-in_err-cuts.ensures.1 in
    let here = subst (λ l. StopsAt c.in_err-cuts.field-0.0 (cut_defects files (all_cuts leaders sizes l (section_total files)) (section_total files))) c.deref.ensures.value
    c.in_err-cuts.ensures.goes in
    rw (p.1, p.2) (subst (λ l. StopsAt c.in_err-cuts.field-0.0 (cut_defects files l (section_total files))) cuts here)

pub returns-clause-goes : goal.returns-clause-goes
returns-clause-goes c =
    let files = files_of c.args.tables.now in
    let b = binding_view c.args.binding.now in
    let pools = c.args.pools.now.pools.items in
    let sizes = sizes_of c.args.sizes.now in
    let leaders = c.args.leaders.now in
    let words = (word_count (entries_of c.args.got.now)) in
    let laid = laid_now files b pools c.pools.result.now words leaders sizes c.args.sections.now.items.items c.args.sections.now.items.items c.in_ok-walked.walked (frame_sizes c.args.frames.now) c.in_ok-walked.bounds c.section_count.result
    refl c.requires.items c.section_count.ensures c.pools.ensures.value c.in_ok-walked.ensures.bounds c.in_ok-walked.ensures.trail in
    let cuts = cuts_are c.in_ok-walked.walked c.in_ok-walked.bounds leaders sizes (section_total files) (layout_of files b pools words leaders sizes (frame_sizes c.args.frames.now)) laid in
    ap (λ l. cut_defects files l (section_total files)) (sym cuts)
    ∙ ap (λ l. cut_defects files (all_cuts leaders sizes l (section_total files)) (section_total files)) (sym c.deref.ensures.value) ∙ c.in_ok-cuts.ensures.goes

pub returns-clause-found : goal.returns-clause-found
returns-clause-found c =
    let files = files_of c.args.tables.now in
    let b = binding_view c.args.binding.now in
    let pools = c.args.pools.now.pools.items in
    let sizes = sizes_of c.args.sizes.now in
    let leaders = c.args.leaders.now in
    let words = (word_count (entries_of c.args.got.now)) in
    let laid = laid_now files b pools c.pools.result.now words leaders sizes c.args.sections.now.items.items c.args.sections.now.items.items c.in_ok-walked.walked (frame_sizes c.args.frames.now) c.in_ok-walked.bounds c.section_count.result
    refl c.requires.items c.section_count.ensures c.pools.ensures.value c.in_ok-walked.ensures.bounds c.in_ok-walked.ensures.trail in
    let cuts = ap (map cut_views) c.of.ensures ∙ c.in_ok-cuts.ensures.rows ∙ ap (λ l. all_cuts leaders sizes l (section_total files)) c.deref.ensures.value in
    view_is c.in_ok-walked.walked c.of.result c.in_ok-walked.bounds leaders sizes (section_total files) cuts ∙ laid

pub returns-clause-sized : goal.returns-clause-sized
returns-clause-sized c = rw c.requires.items at c.args.sections.now.sized

pub returns-clause-room : goal.returns-clause-room
returns-clause-room c =
    let room = room_of c.args.sections.now.items.items c.args.sections.now.few c.args.sections.now.bytes in
    omega (arith, room, ap (λ l. all_weight (orders_of l)) c.requires.items)
