use Rattle.std.proofs.Common.{◌≡◌, ◌+◌, ◌++◌, ◌<◌, List, length, sym, ap, ◌∙◌, subst, arith}
use Rattle.std.specs.Prelude.{flat_map}
use Rattle.std.specs.List.{range_with_len}
use Rattle.std.proofs.lemmas.List.{length-map}
use Rattle.claim_core.specs.declared.events.Event.{Event}
use Rattle.claim_core.specs.Events.{event}
use Rattle.lk_tables.specs.FileView.{file_view, file_views}
use Rattle.lk_tables.specs.Files.{File, file_at, symbol_at}
use Rattle.lk_tables.specs.Binding.{is_offer}
use Rattle.lk_tables.specs.NameNumbers.{name_number}
use Rattle.lk_tables.specs.Ranks.{rank_of}
use Rattle.lk_tables.proofs.FirstNumbers.{file_read, first_within}
use Rattle.name_numbers.proofs.NameWords.{word_read}
use Rattle.file_live.specs.Live.{early_class}
use Rattle.file_live.specs.Claims.{claim_at, claims_in}
use Rattle.file_live.proofs.Claimed.{claim_next, claim_skip}
use Rattle.file_live.proofs.claims.push_claims.Goals as goal
use Rattle.file_live.proofs.claims.push_claims.Goals.{then-is_offer+in_ok-push, else-is_offer}

pub rank_of-requires-clause-symbol : goal.rank_of-requires-clause-symbol
rank_of-requires-clause-symbol c =
    let lent = c.args.files.now in
    let own = ap (λ (x : File). length x.head.symbols) (file_read lent c.args.f c.index-files-f.result c.requires.file c.index-files-f.is) in
    omega (arith, ap length c.symbols-i-end.ensures, own, c.requires.file, first_within (file_views lent) c.args.f (omega (arith, c.requires.file, length-map lent file_view)))

pub loop-i-preserved : goal.loop-i-preserved
loop-i-preserved c =
    let lent = c.args.files.now in
    let files = file_views lent in
    let f = c.args.f in
    let i = c.loop-i.i in
    let base = c.args.list.now.items in
    let file = file_read lent f c.index-files-f.result c.requires.file c.index-files-f.is in
    let within : f < length files = omega (arith, c.requires.file, length-map lent file_view) in
    let inside : i < length (file_at files f).head.symbols = omega (arith, ap length c.symbols-i-end.ensures, ap (λ (x : File). length x.head.symbols) file) in
    let symbol = c.symbol-symbol.ensures ∙ ap (λ (x : File). symbol_at x i) file in
    let offered = ap is_offer (sym symbol) ∙ sym c.is_offer.ensures in
    let P : List Event → Type 0 = λ list. list ≡ base ++ flat_map (claim_at files f) (range_with_len 0 (i + 1)) in
    elim c.if-is_offer.branch [
      | then-is_offer+in_ok-push w ↦
          let word = word_read files c.args.names.now f i w.number.result w.number.ensures c.requires.names within inside in
          let class = w.early_class.ensures.class ∙ ap (λ x. early_class x c.symbol-symbol.result) file ∙ ap (early_class (file_at files f)) symbol in
          let rank = w.rank_of.ensures ∙ ap (λ k. rank_of k f i) class in
          subst P (sym (ap (λ v. v.items) w.list-is)) (claim_next files f i c.loop-i.list.items w.push.new.self.items base _ (offered ∙ w.if-is_offer.true)
          (ap (λ k. event k w.rank_of.result) word ∙ ap (event (name_number files f i)) rank) w.in_ok-push.ensures.items c.loop-i.invariant)
      | else-is_offer w ↦ subst P (sym (ap (λ v. v.items) w.list-is)) (claim_skip files f i c.loop-i.list.items base (offered ∙ w.if-is_offer.false) c.loop-i.invariant)
    ]

pub returns : goal.returns
unfolding claims_in
returns c =
    let lent = c.args.files.now in
    let files = file_views lent in
    let own = ap (λ (x : File). length x.head.symbols) (file_read lent c.args.f c.index-files-f.result c.requires.file c.index-files-f.is) in
    let all : c.loop-i.i ≡ length (file_at files c.args.f).head.symbols = omega (arith, ap length c.symbols-i-end.ensures, own) in
    c.loop-i.invariant ∙ ap (λ k. c.args.list.now.items ++ flat_map (claim_at files c.args.f) (range_with_len 0 k)) all
