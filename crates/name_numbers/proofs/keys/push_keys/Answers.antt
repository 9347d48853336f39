use Rattle.std.proofs.Common.{◌+◌, ◌<◌, ◌==◌, ◌&&◌, Bool, length, sym, ap, ◌∙◌, subst, get_or, arith}
use Rattle.std.specs.Prelude.{flat_map}
use Rattle.std.specs.List.{range_with_len}
use Rattle.lk_tables.specs.declared.heads.Symbol.{Symbol}
use Rattle.lk_tables.specs.FileView.{file_view}
use Rattle.lk_tables.specs.Names.{text_of}
use Rattle.lk_tables.specs.NameNumbers.{is_named}
use Rattle.name_numbers.specs.declared.keys.Keys.{Keys}
use Rattle.name_numbers.specs.Columns.{Appends}
use Rattle.name_numbers.specs.Keys.{key_in}
use Rattle.name_numbers.proofs.Columns.{appends_none, key_next, key_skip}
use Rattle.name_numbers.proofs.Keyed.{first_read, length_firsts_of}
use Rattle.name_numbers.proofs.keys.push_keys.Goals as goal
use Rattle.name_numbers.proofs.keys.push_keys.Goals.{then-has_key+in_ok-push_key, else-has_key}

pub bounds-firsts-i : goal.bounds-firsts-i
bounds-firsts-i c = omega (arith, ap length c.symbols-i-end.ensures, length_firsts_of (file_view c.args.file.now).head.symbols c.args.firsts.now c.requires.firsts)

pub loop-i-init : goal.loop-i-init
loop-i-init c = appends_none c.args.keys.now

pub loop-i-preserved : goal.loop-i-preserved
loop-i-preserved c =
    let b = (file_view c.args.file.now).bytes in
    let symbols = (file_view c.args.file.now).head.symbols in
    let i = c.loop-i.i in
    let lt : i < length symbols = omega (arith, ap length c.symbols-i-end.ensures) in
    let first = first_read symbols c.args.firsts.now i c.requires.firsts lt in
    let test : Symbol → Bool = λ s. is_named s && get_or c.args.firsts.now i 0 == i in
    let has = ap test (sym c.symbol-symbol.ensures) ∙ sym c.has_key.ensures in
    let P : Keys → Type 0 = Appends (flat_map (key_in b symbols c.args.start) (range_with_len 0 (i + 1))) c.args.keys.now in
    elim c.if-has_key.branch [
      | then-has_key+in_ok-push_key w ↦
          let text = w.text_of.ensures ∙ ap (λ x. text_of x c.symbol-symbol.result.name) w.bytes.ensures ∙ ap (λ (s : Symbol). text_of b s.name) c.symbol-symbol.ensures in
          subst P (sym w.keys-is)
          (key_next b symbols c.args.start i (get_or c.args.firsts.now i 0) w.text_of.result.now c.args.keys.now c.loop-i.keys w.push_key.new.keys first (has ∙ w.if-has_key.true) text w.in_ok-push_key.ensures c.loop-i.invariant)
      | else-has_key w ↦ subst P (sym w.keys-is) (key_skip b symbols c.args.start i (get_or c.args.firsts.now i 0) c.args.keys.now c.loop-i.keys first (has ∙ w.if-has_key.false) c.loop-i.invariant)
    ]
