use Rattle.std.proofs.Common.{◌≡◌, ◌<◌, List, length, get_or, sym, ap, subst, arith}
use Rattle.std.proofs.lemmas.Bool.{ltb-true}
use Rattle.lk_tables.specs.declared.records.Record.{Record}
use Rattle.lk_tables.proofs.FrameLists.{Listed}
use Rattle.eh_frame.proofs.ListsFound.{near_is}
use Rattle.eh_frame.proofs.lookups.record_of_list.Goals as goal

pub returns : goal.returns
returns c =
    let own = c.in-Some.own.now in
    let read = c.in-Some-get.record.now in
    let lists = c.deref.ensures.value in
    let records = c.deref-2.ensures.value in
    let lt : c.args.list < length c.deref.result.now = ltb-true c.args.list (length c.deref.result.now) (sym c.in-Some.ensures.lookup.0) in
    let below : c.args.number.at < length c.deref-2.result.now = ltb-true c.args.number.at (length c.deref-2.result.now) (sym c.in-Some-get.ensures.lookup.0) in
    let P : List Listed → Type 0 = λ l. own ≡ get_or l c.args.list own in
    let Q : List Record → Type 0 = λ l. read ≡ get_or l c.args.number.at read in
    near_is c.args.frames.now.records.items c.args.number c.args.list own read c.requires (omega (arith, lt, ap length lists)) (subst P lists c.in-Some.ensures.lookup.1)
    c.if-own-number.false (omega (arith, below, ap length records)) (subst Q records c.in-Some-get.ensures.lookup.1)
