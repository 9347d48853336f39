use Rattle.std.proofs.Common.{arith, ℕ, List, [], ◌∷◌, ◌++◌, take, sym, ap, ◌∙◌, rules}
use Rattle.std.specs.Slots.{slots_items, slots_counts}
use Rattle.std.proofs.lemmas.List.{take_more}
use Rattle.rank_claims.proofs.Rows.{read_at}
use Rattle.rank_claims.proofs.table.first_words.Goals as goal

pub loop-word-preserved : goal.loop-word-preserved
loop-word-preserved c =
    let words = slots_items c.args.closed.now.words in
    let i : ℕ = c.loop-word.word in
    let read = read_at words i c.word.result c.word.ensures in
    let pushed = c.push_reserved.ensures in
    let counts = slots_counts c.args.closed.now.words in
    let enough = c.requires.count in
    let inv = c.loop-word.invariant in record {
      copied = pushed.items ∙ ap (λ (l : List ℕ). l ++ c.word.result ∷ []) inv.copied ∙ ap (λ (n : ℕ). take i words ++ n ∷ []) (sym read) ∙ sym (take_more words i 0 (omega arith));
      length = omega arith;
      room = search rules;
    }
