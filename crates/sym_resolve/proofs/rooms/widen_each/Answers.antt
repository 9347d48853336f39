use Rattle.std.proofs.Common.{◌≡◌, ◌+◌, ◌<◌, max, List, length, sym, ap, ◌∙◌, subst, arith}
use Rattle.std.specs.Prelude.{flat_map}
use Rattle.std.specs.List.{range_with_len}
use Rattle.lk_tables.specs.Symbols.{is_common}
use Rattle.lk_tables.specs.declared.heads.Symbol.{Symbol}
use Rattle.lk_tables.specs.Files.{File, file_at, symbol_at}
use Rattle.lk_tables.specs.TablesView.{files_of}
use Rattle.sym_resolve.specs.declared.rooms.Room.{Room}
use Rattle.sym_resolve.specs.Asks.{ask_at, after_asks}
use Rattle.sym_resolve.proofs.Walks.{live_in_file}
use Rattle.sym_resolve.proofs.Claiming.{asks_more, ask_one, ask_none}
use Rattle.sym_resolve.proofs.CommonNumbers.{common_live, none_common}
use Rattle.name_numbers.proofs.NameWords.{word_read}
use Rattle.sym_resolve.proofs.rooms.widen_each.Goals as goal
use Rattle.sym_resolve.proofs.rooms.widen_each.Goals.{then-is_common, else-is_common}

pub returns-then-common_count-eq0 : goal.returns-then-common_count-eq0
returns-then-common_count-eq0 c =
    let files = files_of c.args.tables.now in
    let none = none_common files (ask_at files) c.args.f (λ i is. ask_none files c.args.f i is) (sym c.common_count.ensures ∙ c.if-common_count-eq0.true) in
    sym (ap (after_asks c.args.rooms.now.items) none)

pub loop-i-preserved : goal.loop-i-preserved
loop-i-preserved c =
    let files = files_of c.args.tables.now in
    let f = c.args.f in
    let i = c.loop-i.i in
    let old = c.loop-i.rooms.items in
    let g = ask_at files f in
    let start = c.args.rooms.now.items in
    let P : List Room → Type 0 = λ l. l ≡ after_asks start (flat_map g (range_with_len 0 (i + 1))) in
    let own : c.symbol-symbol.result ≡ symbol_at (file_at files f) i = c.symbol-symbol.ensures ∙ ap (λ (x : File). symbol_at x i) c.file-file.ensures in
    let long : length c.symbols-i-end.result.now ≡ length (file_at files c.args.f).head.symbols = ap length c.symbols-i-end.ensures ∙ ap (λ (x : File). length x.head.symbols) c.file-file.ensures in
    let lt : i < length (file_at files f).head.symbols = omega arith in
    let common = ap (λ (s : Symbol). is_common s.place) (sym own) ∙ sym c.is_common.ensures in
    let sized = ap (λ (s : Symbol). s.size) own in
    let valued = ap (λ (s : Symbol). s.value) own in
    elim c.if-is_common.branch [
      | then-is_common w ↦
          let aligned : w.max.result ≡ max 1 (symbol_at (file_at files f) i).value = omega (arith, w.max.ensures, valued) in
          subst P (sym (ap (λ v. v.items) w.rooms-is)) (asks_more g start old w.widen.new.rooms.items i c.loop-i.invariant
          (w.widen.ensures ∙ ap (after_asks old) (sym (ask_one files f i w.number.result c.symbol-symbol.result.size w.max.result (common ∙ w.if-is_common.true) (word_read files c.args.names.now f i w.number.result w.number.ensures c.requires.numbered c.requires.file lt) sized aligned))))
      | else-is_common w ↦
          subst P (sym (ap (λ v. v.items) w.rooms-is)) (asks_more g start old old i c.loop-i.invariant (ap (after_asks old) (sym (ask_none files f i (common ∙ w.if-is_common.false)))))
    ]

pub returns : goal.returns
returns c =
    let files = files_of c.args.tables.now in
    let f = c.args.f in
    let live = common_live (file_at files f) (λ e. c.if-common_count-eq0.false (c.common_count.ensures ∙ e)) in
    let long : length c.symbols-i-end.result.now ≡ length (file_at files f).head.symbols = ap length c.symbols-i-end.ensures ∙ ap (λ (x : File). length x.head.symbols) c.file-file.ensures in
    let all : c.loop-i.i ≡ length (file_at files f).head.symbols = omega arith in
    c.loop-i.invariant ∙ ap (after_asks c.args.rooms.now.items) (live_in_file files (ask_at files) f c.loop-i.i live all)
