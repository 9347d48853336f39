use Rattle.std.proofs.Common.{◌<◌}
use Rattle.intern_race.specs.Interning.{AreApart, SitsAt, known}
use Rattle.intern_race.proofs.Walks.{IsGoing}
use Rattle.intern_race.proofs.table.Interner.place_hashed.Given as goal

abbrev pub invariant-loop-far : goal.invariant-loop-far
invariant-loop-far l = record {
  sits : SitsAt l.self l.seat;
  within : l.slot < l.self.slots;
  apart : 0 < l.far → AreApart l.self.texts (known l.seat);
  going : IsGoing l.self l.fn.i l.far l.slot l.fn.seat l.seat;
}
