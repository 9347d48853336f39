use Rattle.std.proofs.Common.{◌++◌, sym, ap, ◌∙◌, arith}
use Rattle.std.proofs.lemmas.Bool.{eq-eqb, ne_eqb}
use Rattle.std.proofs.lemmas.List.{append-nil}
use Rattle.lk_tables.specs.Ranks.{rank_of}
use Rattle.lk_tables.specs.TablesView.{files_of}
use Rattle.lk_tables.proofs.FirstNumbers.{first_within}
use Rattle.sym_resolve.specs.Asks.{room_at}
use Rattle.sym_resolve.specs.Claims.{rank_by}
use Rattle.sym_resolve.proofs.Claiming.{common_one, common_other}
use Rattle.name_numbers.proofs.NameWords.{word_read}
use Rattle.sym_resolve.proofs.commons.push_common.Goals as goal

pub rank_of-requires-clause-symbol : goal.rank_of-requires-clause-symbol
rank_of-requires-clause-symbol c =
    let few = c.prove_few.ensures.symbol_count in
    let inside = c.requires.symbol in
    omega (arith, first_within (files_of c.args.tables.now) c.args.f c.requires.file)

pub overflow_cast-i : goal.overflow_cast-i
overflow_cast-i c =
    let few = c.prove_few.ensures.symbol_count in
    let inside = c.requires.symbol in
    omega (arith, first_within (files_of c.args.tables.now) c.args.f c.requires.file)

pub returns-in_ok-push : goal.returns-in_ok-push
returns-in_ok-push c =
    let files = files_of c.args.tables.now in
    let row = c.args.least.now in
    let rooms = c.args.rooms.now in
    let f = c.args.f in
    let i = c.args.i in
    let is = eq-eqb (rank_by files row f i) (rank_of 1 f i) (sym c.symbol_rank.ensures ∙ c.if-symbol_rank-rank_of.true ∙ c.rank_of.ensures) in
    c.in_ok-push.ensures.items ∙ ap (λ l. c.args.commons.now.items ++ l) (sym (common_one files row rooms f i c.args.section c.room_at-room.result c.requires.common is c.requires.section (c.room_at-room.ensures ∙ ap (room_at rooms) (word_read files c.args.names.now f i c.number.result c.number.ensures c.requires.numbered c.requires.file c.requires.symbol))))

pub returns-else-symbol_rank-rank_of : goal.returns-else-symbol_rank-rank_of
returns-else-symbol_rank-rank_of c =
    let files = files_of c.args.tables.now in
    let row = c.args.least.now in
    let f = c.args.f in
    let i = c.args.i in
    let is = ne_eqb (rank_by files row f i) (rank_of 1 f i) (λ e. c.if-symbol_rank-rank_of.false (c.symbol_rank.ensures ∙ e ∙ sym c.rank_of.ensures)) in
    sym (ap (λ l. c.args.commons.now.items ++ l) (common_other files row c.args.rooms.now f i is) ∙ append-nil c.args.commons.now.items)
