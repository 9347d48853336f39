use Rattle.std.proofs.Common.{◌≡◌, map, take, vec_len, vec_capacity, length}
use Rattle.intern_race.specs.Interning.{HasPlacedAll, SitsAt}
use Rattle.intern_race.specs.Texts.{text_number}
use Rattle.intern_race.proofs.table.Interner.numbers_of.Given as goal

abbrev pub invariant-loop-i : goal.invariant-loop-i
invariant-loop-i l = record {
  sits : SitsAt l.self l.seat;
  placed : HasPlacedAll l.seat;
  numbers : l.numbers.items ≡ map (text_number l.texts) (take l.i l.texts);
  count : vec_len l.numbers ≡ l.i;
  room : vec_capacity l.numbers ≡ length l.texts;
}
