use Rattle.std.proofs.Common.{◌≡◌, ◌+◌, ◌<◌, ◌++◌, List, length, sym, ap, ◌∙◌, subst, arith}
use Rattle.std.specs.Prelude.{flat_map}
use Rattle.std.specs.List.{range_with_len}
use Rattle.claim_core.specs.declared.events.Event.{Event}
use Rattle.lk_tables.specs.Binding.{class_of}
use Rattle.lk_tables.specs.Files.{File, file_at, symbol_at}
use Rattle.lk_tables.specs.Ranks.{rank_of}
use Rattle.lk_tables.specs.TablesView.{files_of}
use Rattle.lk_tables.proofs.FirstNumbers.{first_within}
use Rattle.sym_resolve.specs.Claims.{claim_at}
use Rattle.sym_resolve.proofs.Claiming.{offered_at, claim_next, claim_skip}
use Rattle.name_numbers.proofs.NameWords.{word_read}
use Rattle.sym_resolve.proofs.offers.push_offers.Goals as goal
use Rattle.sym_resolve.proofs.offers.push_offers.Goals.{then-is_offered+in_ok-push, else-is_offered}

pub rank_of-requires-clause-symbol : goal.rank_of-requires-clause-symbol
rank_of-requires-clause-symbol c =
    let files = files_of c.args.tables.now in
    let few = c.prove_few.ensures.symbol_count in
    let long : length c.symbols-i-end.result.now ≡ length (file_at files c.args.f).head.symbols = ap length c.symbols-i-end.ensures ∙ ap (λ (x : File). length x.head.symbols) c.file-file.ensures in
    let sum = first_within files c.args.f c.requires.file in
    omega arith

pub loop-i-preserved : goal.loop-i-preserved
loop-i-preserved c =
    let files = files_of c.args.tables.now in
    let gone = c.args.discarded.now in
    let f = c.args.f in
    let i = c.loop-i.i in
    let base = c.args.offers.now.items in
    let P : List Event → Type 0 = λ es. es ≡ base ++ flat_map (claim_at files gone f) (range_with_len 0 (i + 1)) in
    let own : c.symbol-symbol.result ≡ symbol_at (file_at files f) i = c.symbol-symbol.ensures ∙ ap (λ (x : File). symbol_at x i) c.file-file.ensures in
    let long : length c.symbols-i-end.result.now ≡ length (file_at files c.args.f).head.symbols = ap length c.symbols-i-end.ensures ∙ ap (λ (x : File). length x.head.symbols) c.file-file.ensures in
    let lt : i < length (file_at files f).head.symbols = omega arith in
    let offered = ap (offered_at files gone f) (sym own) ∙ sym c.is_offered.ensures in
    elim c.if-is_offered.branch [
      | then-is_offered+in_ok-push w ↦ subst P (sym (ap (λ v. v.items) w.offers-is)) (claim_next files gone f i w.number.result w.rank_of.result base c.loop-i.offers.items w.push.new.self.items (offered ∙ w.if-is_offered.true) (word_read files c.args.names.now f i w.number.result w.number.ensures c.requires.numbered c.requires.file lt)
          (w.rank_of.ensures ∙ ap (λ k. rank_of k f i) (w.class_of.ensures.class ∙ ap class_of own)) w.in_ok-push.ensures.items c.loop-i.invariant)
      | else-is_offered w ↦ subst P (sym (ap (λ v. v.items) w.offers-is)) (claim_skip files gone f i base c.loop-i.offers.items (offered ∙ w.if-is_offered.false) c.loop-i.invariant)
    ]
