use Rattle.std.proofs.Common.{length, ap, arith}
use Rattle.lk_tables.specs.FramePlans.{plan_view}
use Rattle.lk_tables.specs.Frames.{lists_of}
use Rattle.eh_frame.proofs.PlacedSteps.{fdes_length}
use Rattle.eh_frame.proofs.contents.frame_bytes.Goals as goal

pub records_bytes-requires-clause-first : goal.records_bytes-requires-clause-first
records_bytes-requires-clause-first g c = λ κs bound.
    omega (
      arith,
      ap length c.requires.fdes_are,
      fdes_length (lists_of c.args.plan.now.frames.now) (plan_view c.args.plan.now),
      c.args.plan.now.fdes.ok.0,
    )
