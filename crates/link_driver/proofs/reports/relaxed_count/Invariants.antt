use Rattle.std.proofs.Common.{◌≡◌, ◌*◌, ◌≤◌, ◌^◌, length, flat_map}
use Rattle.std.specs.List.{range_with_len}
use Rattle.link_sections.specs.LaidOut.{cuts_at}
use Rattle.link_sections.specs.Views.{laid_in}
use Rattle.link_driver.specs.Reports.{short_calls}
use Rattle.link_driver.proofs.reports.relaxed_count.Given as goal

abbrev pub invariant-loop-section : goal.invariant-loop-section
invariant-loop-section l = record {
  total : l.count ≡ length (flat_map (λ n. short_calls (cuts_at (laid_in l.view) n)) (range_with_len 0 l.section));
  few : l.count ≤ l.section * 2 ^ 64;
}
