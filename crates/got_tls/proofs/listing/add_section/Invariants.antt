use Rattle.std.proofs.Common.{◌≡◌, flat_map, take}
use Rattle.lk_tables.specs.TablesView.{files_of}
use Rattle.link_sections.specs.GotView.{entries_of}
use Rattle.got_tls.specs.GotList.{all_added, wanted_by}
use Rattle.got_tls.proofs.listing.add_section.Given as goal

abbrev pub invariant-loop-k : goal.invariant-loop-k
invariant-loop-k l = entries_of l.got ≡ all_added (entries_of l.fn.got) (flat_map (wanted_by (files_of l.tables) l.place.file) (take l.k l.relocs))
