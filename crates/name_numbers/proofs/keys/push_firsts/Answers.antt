use Rattle.std.proofs.Common.{◌≡◌, ℕ, ◌+◌, ◌++◌, ◌<◌, List, length, map, sym, ap, ◌∙◌, subst, arith}
use Rattle.std.specs.List.{range_with_len}
use Rattle.lk_tables.specs.FileView.{file_view}
use Rattle.lk_tables.specs.NameNumbers.{is_named}
use Rattle.name_numbers.specs.Keys.{first_in}
use Rattle.name_numbers.proofs.Keyed.{first_read, length_firsts_of, first_named, first_not_named}
use Rattle.name_numbers.proofs.FirstSpans.{first_le}
use Rattle.name_numbers.proofs.Walks.{walk_map}
use Rattle.name_numbers.proofs.keys.push_firsts.Goals as goal
use Rattle.name_numbers.proofs.keys.push_firsts.Goals.{then-is_named+in_ok-push, else-is_named+in_ok-push-2}

pub bounds-firsts-i : goal.bounds-firsts-i
bounds-firsts-i c = omega (arith, ap length c.symbols-i-end.ensures, length_firsts_of (file_view c.args.file.now).head.symbols c.args.firsts.now c.requires.firsts)

pub overflow_add-start : goal.overflow_add-start
overflow_add-start c =
    let symbols = (file_view c.args.file.now).head.symbols in
    let i = c.loop-i.i in
    let lt : i < length symbols = omega (arith, ap length c.symbols-i-end.ensures) in
    let named = ap is_named (sym c.symbol.ensures) ∙ sym c.is_named.ensures ∙ c.if-is_named.true in
    omega (arith, c.requires.few, first_read symbols c.args.firsts.now i c.requires.firsts lt named, first_le symbols i lt named)

pub loop-i-preserved : goal.loop-i-preserved
loop-i-preserved c =
    let symbols = (file_view c.args.file.now).head.symbols in
    let start = c.args.start in
    let i = c.loop-i.i in
    let lt : i < length symbols = omega (arith, ap length c.symbols-i-end.ensures) in
    let base = c.args.list.now.items in
    let named = ap is_named (sym c.symbol.ensures) ∙ sym c.is_named.ensures in
    let P : List ℕ → Type 0 = λ list. list ≡ base ++ map (first_in symbols start) (range_with_len 0 (i + 1)) in
    elim c.if-is_named.branch [
      | then-is_named+in_ok-push w ↦ subst P (sym (ap (λ v. v.items) w.list-is)) (walk_map (first_in symbols start) base c.loop-i.list.items w.push.new.self.items _ i c.loop-i.invariant w.in_ok-push.ensures.items (first_named symbols c.args.firsts.now start i c.requires.firsts lt (named ∙ w.if-is_named.true)))
      | else-is_named+in_ok-push-2 w ↦ subst P (sym (ap (λ v. v.items) w.list-is)) (walk_map (first_in symbols start) base c.loop-i.list.items w.push-else-is_named.new.self.items _ i c.loop-i.invariant w.in_ok-push-2.ensures.items (first_not_named symbols start i (named ∙ w.if-is_named.false)))
    ]
