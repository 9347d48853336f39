use Rattle.std.proofs.Common.{◌≡◌, [], flat_map}
use Rattle.std.specs.List.{range_with_len}
use Rattle.lk_tables.specs.TablesView.{files_of}
use Rattle.link_sections.specs.GotView.{entries_of}
use Rattle.got_tls.specs.GotList.{all_added, wanted_in}
use Rattle.got_tls.proofs.listing.entries.Given as goal

abbrev pub invariant-loop-section : goal.invariant-loop-section
invariant-loop-section l = entries_of l.got ≡ all_added [] (flat_map (wanted_in (files_of l.tables) l.leaders) (range_with_len 0 l.section))
