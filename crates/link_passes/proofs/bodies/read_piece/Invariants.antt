use Rattle.std.proofs.Common.{◌≡◌, ◌-◌, flat_map}
use Rattle.std.specs.List.{range_with_len}
use Rattle.work_split.specs.Shares.{EachFrom}
use Rattle.link_passes.specs.Contents.{sources_of}
use Rattle.link_passes.specs.Defects.{body_defects_at}
use Rattle.link_passes.specs.Reading.{IsBodyAt}
use Rattle.link_passes.proofs.bodies.read_piece.Given as goal

abbrev pub invariant-loop-at : goal.invariant-loop-at
invariant-loop-at l = record {
  none : flat_map (body_defects_at (sources_of l.sources) l.live) (range_with_len l.at (l.fn.piece.end - l.at))
      ≡ flat_map (body_defects_at (sources_of l.sources) l.live) (range_with_len l.fn.piece.start (l.fn.piece.end - l.fn.piece.start));
  each : EachFrom (IsBodyAt (sources_of l.sources) l.live) l.fn.piece.start l.at l.bodies.items;
}
