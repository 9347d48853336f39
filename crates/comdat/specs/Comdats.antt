-- COMDAT groups as plain records.
use Rattle.std.specs.Prelude.{List, map}
use Rattle.comdat.specs.declared.groups.ComdatGroup.{ComdatGroup}
use Rattle.comdat.specs.Discarded.{Comdat}

abbrev pub comdat_view : ComdatGroup → Comdat
comdat_view group = record { file = group.file; section = group.section; signature = group.signature.now; members = group.members.now }

abbrev pub comdat_views : List ComdatGroup → List Comdat
comdat_views list = map comdat_view list
