use Rattle.std.proofs.Common.{ℕ, ◌<◌, List, length, ap, ◌∙◌, subst, sym}
use Rattle.lk_tables.specs.FramePlans.{PlanView, plan_view}
use Rattle.lk_tables.specs.Frames.{lists_of}
use Rattle.link_sections.specs.Views.{binding_in, files_in, laid_in, leaders_in}
use Rattle.eh_frame.specs.Bytes.{placed_fdes}
use Rattle.eh_frame.specs.FrameLaws.{IsFdeWritten}
use Rattle.eh_frame.specs.Laws.{IsPlanned}
use Rattle.eh_frame.specs.TableLaws.{IsTable}
use Rattle.eh_frame.proofs.FrameStands.{plan_written}
use Rattle.eh_frame.proofs.KnownRecords.{plan_cies_known, plan_fdes_known, plan_frame_len, plan_uses}
use Rattle.eh_frame.proofs.LowSums.{not_low}
use Rattle.eh_frame.proofs.PlanLaws.{plan_laws}
use Rattle.eh_frame.proofs.RecordBytes.{frame_length}
use Rattle.eh_frame.proofs.TableOrder.{header_is}
use Rattle.eh_frame.proofs.standing.prove_records_stand.Goals as goal

pub returns : goal.returns
returns c =
    let view = c.args.view.now in
    let files = files_in view in
    let b = binding_in view in
    let leaders = leaders_in view in
    let laid = laid_in view in
    let merged = laid.merging.merged in
    let plan = plan_view c.args.plan.now in
    let lists = lists_of c.args.plan.now.frames.now in
    let P : PlanView → Type 0 = IsPlanned files b merged lists leaders in
    let W : List ℕ → Type 0 = λ bytes. (k : ℕ) → k < length plan.fdes → IsFdeWritten files b leaders laid lists plan laid.bounds.frames bytes k in
    let T : List ℕ → Type 0 = IsTable files b leaders laid lists (placed_fdes lists plan) laid.bounds.frame_header laid.bounds.frames in
    let planned = subst P (sym c.requires.plan) (plan_laws files b merged lists leaders c.requires.lists.order) in
    record {
      planned = planned;
      len = ap length c.requires.frame
          ∙ frame_length files b leaders laid lists laid.bounds.frames plan (plan_cies_known files lists b merged leaders plan c.requires.lists c.requires.plan)
          (plan_fdes_known files lists b merged leaders plan c.requires.lists c.requires.plan) (plan_uses files lists b merged leaders plan c.requires.plan)
          ∙ sym (plan_frame_len files lists b merged leaders plan c.requires.plan);
      written = subst W (sym c.requires.frame) (plan_written files b leaders laid lists laid.bounds.frames plan c.requires.lists c.requires.plain c.requires.plan planned);
      table = subst T (sym c.requires.header) (header_is files b leaders laid lists plan laid.bounds.frame_header laid.bounds.frames (λ p. not_low files b leaders laid lists p c.requires.plain));
    }
