use Rattle.std.proofs.Common.{◌≡◌, length, replicate, refl, sym, ap, ◌∙◌, arith, rules}
use Rattle.std.specs.Prelude.{flat_map}
use Rattle.std.specs.List.{range_with_len}
use Rattle.lk_tables.specs.TablesView.{files_of}
use Rattle.sym_resolve.specs.Asks.{no_room, room_at, ask_at, asks, after_asks, rooms_asked}
use Rattle.sym_resolve.specs.Symbols.{in_file}
use Rattle.sym_resolve.proofs.Claiming.{asks_more}
use Rattle.sym_resolve.proofs.Meaning.{no_rooms}
use Rattle.sym_resolve.proofs.rooms.rooms_of.Goals as goal

pub returns-then-not-has_commons : goal.returns-then-not-has_commons
returns-then-not-has_commons c = λ word.
    ap (λ l. room_at l word) c.new.ensures.items ∙ sym (no_rooms (files_of c.args.tables.now) (c.if-not-has_commons.ensures refl) word)

pub loop-f-preserved : goal.loop-f-preserved
loop-f-preserved c =
    let files = files_of c.args.tables.now in
    asks_more (in_file files (ask_at files)) c.in_ok-rooms.rooms.items c.loop-f.rooms.items c.widen_each.new.rooms.items c.loop-f.f c.loop-f.invariant c.widen_each.ensures

pub returns : goal.returns
unfolding asks rooms_asked
returns c = λ word.
    let files = files_of c.args.tables.now in
    let g = in_file files (ask_at files) in
    let start : c.in_ok-rooms.rooms.items ≡ replicate c.symbol_count.result no_room = search rules in
    let all : c.loop-f.f ≡ length files = omega arith in
    ap (λ l. room_at l word) (c.loop-f.invariant ∙ ap (λ k. after_asks c.in_ok-rooms.rooms.items (flat_map g (range_with_len 0 k))) all
    ∙ ap (λ l. after_asks l (flat_map g (range_with_len 0 (length files)))) (start ∙ ap (λ k. replicate k no_room) c.symbol_count.ensures))
