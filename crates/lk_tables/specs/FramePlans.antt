-- Which unwind records are written, as plain lists (LSB Core, "Exception Frames").
use Rattle.std.specs.Prelude.{ℕ, List}
use Rattle.lk_tables.specs.declared.frames.FramePlan.{FramePlan}
use Rattle.lk_tables.specs.declared.records.FrameNo.{FrameNo}

-- the records that are written: the CIEs, the FDEs, and of each FDE the number of its CIE among the CIEs
pub record PlanView : Type 0 where
  pub cies : List FrameNo
  pub fdes : List FrameNo
  pub uses : List ℕ
  pub frame_len : ℕ
  pub header_len : ℕ

abbrev pub plan_view : FramePlan → PlanView
plan_view plan = record {
  cies = plan.cies.items;
  fdes = plan.fdes.items;
  uses = plan.uses.items;
  frame_len = plan.frame_len;
  header_len = plan.header_len;
}
