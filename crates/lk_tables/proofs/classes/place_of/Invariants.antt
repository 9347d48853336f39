use Rattle.std.proofs.Common.{◌≡◌, ◌+◌, drop}
use Rattle.lk_tables.specs.Classes.{place_of}
use Rattle.lk_tables.specs.OutputNames.{texts}
use Rattle.lk_tables.proofs.classes.place_of.Given as goal

abbrev pub invariant-loop-i : goal.invariant-loop-i
invariant-loop-i l = l.i + place_of (texts (drop l.i l.table)) l.name ≡ place_of (texts l.table) l.name
