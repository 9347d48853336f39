use Rattle.std.proofs.Common.{◌≡◌, ◌+◌, ◌&&◌, ◌==◌, ◌++◌, List, length, sym, ap, ◌∙◌, subst, arith}
use Rattle.std.specs.Prelude.{flat_map}
use Rattle.std.specs.List.{range_with_len}
use Rattle.lk_tables.specs.BindingView.{binding_view}
use Rattle.lk_tables.specs.Files.{File, file_at, is_visible, symbol_at, symbol_no}
use Rattle.lk_tables.specs.Ranks.{no_rank}
use Rattle.lk_tables.specs.TablesView.{files_of}
use Rattle.lk_tables.specs.Targets.{rank_at}
use Rattle.lk_tables.proofs.FirstNumbers.{first_within}
use Rattle.sym_resolve.specs.declared.unbound.Unbound.{Unbound}
use Rattle.sym_resolve.specs.Unbound.{is_unbound_at, unbound_at}
use Rattle.sym_resolve.proofs.Linking.{unbound_next, unbound_skip}
use Rattle.sym_resolve.proofs.unbound.push_unbound.Goals as goal
use Rattle.sym_resolve.proofs.unbound.push_unbound.Goals.{then-is_unbound+in_ok-push, else-is_unbound}

pub symbol_no-number-requires-clause-symbol : goal.symbol_no-number-requires-clause-symbol
symbol_no-number-requires-clause-symbol c =
    let files = files_of c.args.tables.now in
    let few = c.prove_few.ensures.symbol_count in
    let long : length c.symbols-i-end.result.now ≡ length (file_at files c.args.f).head.symbols = ap length c.symbols-i-end.ensures ∙ ap (λ (x : File). length x.head.symbols) c.file-file.ensures in
    let sum = first_within files c.args.f c.requires.file in
    omega arith

pub overflow_cast-i : goal.overflow_cast-i
overflow_cast-i c =
    let files = files_of c.args.tables.now in
    let few = c.prove_few.ensures.symbol_count in
    let long : length c.symbols-i-end.result.now ≡ length (file_at files c.args.f).head.symbols = ap length c.symbols-i-end.ensures ∙ ap (λ (x : File). length x.head.symbols) c.file-file.ensures in
    let sum = first_within files c.args.f c.requires.file in
    omega arith

pub loop-i-preserved : goal.loop-i-preserved
loop-i-preserved c =
    let files = files_of c.args.tables.now in
    let b = binding_view c.args.binding.now in
    let f = c.args.f in
    let i = c.loop-i.i in
    let base = c.args.unbound.now.items in
    let P : List Unbound → Type 0 = λ us. us ≡ base ++ flat_map (unbound_at files b f) (range_with_len 0 (i + 1)) in
    let own : c.symbol.result ≡ symbol_at (file_at files f) i = c.symbol.ensures ∙ ap (λ (x : File). symbol_at x i) c.file-file.ensures in
    let tested : is_unbound_at files b f i ≡ c.is_unbound.result =
    ap (λ s. is_visible s && rank_at b (symbol_no files f i) == no_rank) (sym own)
    ∙ ap (λ n. is_visible c.symbol.result && rank_at b n == no_rank) (sym c.symbol_no-number.ensures) ∙ sym c.is_unbound.ensures in
    elim c.if-is_unbound.branch [
      | then-is_unbound+in_ok-push w ↦ subst P (sym (ap (λ v. v.items) w.unbound-is)) (unbound_next files b f i c.symbol_no-number.result base c.loop-i.unbound.items w.push.new.self.items
          (tested ∙ w.if-is_unbound.true) c.symbol_no-number.ensures w.in_ok-push.ensures.items c.loop-i.invariant)
      | else-is_unbound w ↦ subst P (sym (ap (λ v. v.items) w.unbound-is)) (unbound_skip files b f i base c.loop-i.unbound.items (tested ∙ w.if-is_unbound.false) c.loop-i.invariant)
    ]
