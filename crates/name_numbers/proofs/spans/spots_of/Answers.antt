use Rattle.std.proofs.Common.{◌≡◌, ◌+◌, List, length, sym, ap, ◌∙◌, subst, arith}
use Rattle.std.specs.Prelude.{flat_map}
use Rattle.std.specs.List.{range_with_len}
use Rattle.lk_tables.specs.declared.heads.Symbol.{Symbol}
use Rattle.lk_tables.specs.FileView.{file_view}
use Rattle.lk_tables.specs.NameNumbers.{is_named}
use Rattle.name_numbers.specs.declared.spans.Spot.{Spot}
use Rattle.name_numbers.specs.Spans.{spot, spot_at, spots}
use Rattle.name_numbers.proofs.FirstSpans.{spot_next, spot_skip}
use Rattle.name_numbers.proofs.spans.spots_of.Goals as goal
use Rattle.name_numbers.proofs.spans.spots_of.Goals.{then-is_named+in_ok-push, else-is_named}

pub loop-i-preserved : goal.loop-i-preserved
loop-i-preserved c =
    let symbols = (file_view c.args.file.now).head.symbols in
    let i = c.loop-i.i in
    let named = ap is_named (sym c.symbol-symbol.ensures) ∙ sym c.is_named.ensures in
    let P : List Spot → Type 0 = λ list. list ≡ flat_map (spot_at symbols) (range_with_len 0 (i + 1)) in
    elim c.if-is_named.branch [
      | then-is_named+in_ok-push w ↦ subst P (sym (ap (λ v. v.items) w.list-is)) (spot_next symbols i c.loop-i.list.items w.push.new.self.items _ (named ∙ w.if-is_named.true) (ap (λ (s : Symbol). spot s.name.from s.name.len i) c.symbol-symbol.ensures) w.in_ok-push.ensures.items c.loop-i.invariant)
      | else-is_named w ↦ subst P (sym (ap (λ v. v.items) w.list-is)) (spot_skip symbols i c.loop-i.list.items (named ∙ w.if-is_named.false) c.loop-i.invariant)
    ]

pub returns : goal.returns
unfolding spots
returns c =
    let symbols = (file_view c.args.file.now).head.symbols in
    let all : c.loop-i.i ≡ length symbols = omega (arith, ap length c.symbols-count.ensures) in
    c.loop-i.invariant ∙ ap (λ k. flat_map (spot_at symbols) (range_with_len 0 k)) all
