use Rattle.std.proofs.Common.{◌+◌, ◌∙◌, List, ap, arith, flat_map, get_or, length, slice_index, subst, sym, take}
use Rattle.link_sections.specs.declared.got.GotEntry.{GotEntry}
use Rattle.link_sections.specs.GotEntries.{word_count}
use Rattle.link_sections.specs.LaidOut.{with_contents}
use Rattle.link_sections.specs.Views.{binding_in, files_in, laid_in, leaders_in}
use Rattle.reloc_apply.specs.Image.{ShowsFrom}
use Rattle.reloc_apply.specs.Standing.{no_entry}
use Rattle.reloc_apply.proofs.PieceWalks.{walk_end, walk_next, walk_start}
use Rattle.reloc_apply.proofs.TableSteps.{begins_last, ends_first, entry_away, entry_pieces, table_over, word_within}
use Rattle.reloc_apply.proofs.table_words.write_table.Goals as goal

pub loop-k-init : goal.loop-k-init
unfolding with_contents
loop-k-init c =
    let view = c.args.view.now in
    let f = entry_pieces (files_in view) (binding_in view) (leaders_in view) (laid_in view) c.args.at in
    let entries = c.entries-entries.result.now in
    let P : List GotEntry → Type 0 = λ l. ShowsFrom c.args.from c.args.block.now c.args.block.now (flat_map f (take c.ended_before-k.result l)) in
    subst P c.entries-entries.ensures.value
    (walk_start f no_entry entries c.args.from c.ended_before-k.result c.args.block.now c.ended_before-k.ensures.bound (λ j lt.
    let e = get_or entries j no_entry in
    let before = c.ended_before-k.ensures.before j lt in
    entry_away (files_in view) (binding_in view) (leaders_in view) (laid_in view) c.args.from (length c.args.block.now) c.args.at e
    (ends_first c.args.from (length c.args.block.now) c.args.at e.word (omega (arith, before, c.saturating_sub-2.ensures)))))

pub write_entry-requires-clause-room : goal.write_entry-requires-clause-room
unfolding with_contents
write_entry-requires-clause-room c =
    let within = c.loop-k.auto.k-end in
    let lt = c.loop-k-test.true in
    let low = word_within c.entries-entries.result.now c.loop-k.k c.entries-entries.ensures.numbered (omega (arith, lt, within, c.begun_before-last.ensures.bound)) in
    let count = ap word_count c.entries-entries.ensures.value in
    let room = c.requires.room in
    omega (arith, low, count, room)

pub loop-k-preserved : goal.loop-k-preserved
unfolding with_contents
loop-k-preserved c =
    let view = c.args.view.now in
    let f = entry_pieces (files_in view) (binding_in view) (leaders_in view) (laid_in view) c.args.at in
    let entries = c.entries-entries.result.now in
    let P : List GotEntry → Type 0 = λ l. ShowsFrom c.args.from c.args.block.now c.write_entry.new.block (flat_map f (take (c.loop-k.k + 1) l)) in
    let Q : List GotEntry → Type 0 = λ l. ShowsFrom c.args.from c.args.block.now c.loop-k.block (flat_map f (take c.loop-k.k l)) in
    let lt = c.loop-k-test.true in
    let within = c.loop-k.auto.k-end in
    subst P c.entries-entries.ensures.value
    (walk_next f no_entry entries c.args.from c.loop-k.k c.args.block.now c.loop-k.block c.write_entry.new.block (omega (arith, lt, within, c.begun_before-last.ensures.bound))
    (subst Q (sym c.entries-entries.ensures.value) c.loop-k.invariant) c.write_entry.ensures)

pub returns : goal.returns
unfolding with_contents
returns c =
    let view = c.args.view.now in
    let f = entry_pieces (files_in view) (binding_in view) (leaders_in view) (laid_in view) c.args.at in
    let entries = c.entries-entries.result.now in
    let Q : List GotEntry → Type 0 = λ l. ShowsFrom c.args.from c.args.block.now c.loop-k.block (flat_map f (take c.loop-k.k l)) in
    let R : List GotEntry → Type 0 = λ l. ShowsFrom c.args.from c.args.block.now c.loop-k.block (flat_map f l) in
    let past = c.loop-k-test.false in
    let shown = subst R c.entries-entries.ensures.value (walk_end f no_entry entries c.args.from c.loop-k.k c.args.block.now c.loop-k.block (λ j le lt.
    let e = get_or entries j no_entry in
    let after = c.begun_before-last.ensures.after j (omega (arith, past, le)) lt in
    entry_away (files_in view) (binding_in view) (leaders_in view) (laid_in view) c.args.from (length c.args.block.now) c.args.at e
    (begins_last c.args.from (length c.args.block.now) c.args.at e.word (omega (arith, after, c.div_ceil.ensures, c.saturating_sub.ensures))))
    (subst Q (sym c.entries-entries.ensures.value) c.loop-k.invariant)) in (
      shown.0,
      λ i lt.
          shown.1 i lt
          ∙ table_over (files_in view) (binding_in view) (leaders_in view) (laid_in view) c.args.at (slice_index c.args.block.now i) (c.args.from + i) view.got.now.numbered,
    )
