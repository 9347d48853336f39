use Rattle.std.proofs.Common.{◌≡◌, take, vec_len, vec_capacity}
use Rattle.std.specs.Slots.{slots_items}
use Rattle.rank_claims.proofs.table.first_words.Given as goal

abbrev pub invariant-loop-word : goal.invariant-loop-word
invariant-loop-word l = record {
  copied : l.row.items ≡ take l.word (slots_items l.closed.words);
  length : vec_len l.row ≡ l.word;
  room : vec_capacity l.row ≡ l.count;
}
