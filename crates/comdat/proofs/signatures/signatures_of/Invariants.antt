use Rattle.std.proofs.Common.{◌≡◌, take}
use Rattle.name_numbers.specs.Texts.{lent_texts}
use Rattle.comdat.specs.Signatures.{signatures}
use Rattle.comdat.specs.Comdats.{comdat_views}
use Rattle.comdat.proofs.signatures.signatures_of.Given as goal

abbrev pub invariant-loop-group : goal.invariant-loop-group
invariant-loop-group l = lent_texts l.list.items ≡ signatures (comdat_views (take l.group-index l.groups))
