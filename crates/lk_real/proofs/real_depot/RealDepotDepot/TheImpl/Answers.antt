use Rattle.std.proofs.Common.{[], refl, None, string_bytes}
use Rattle.lk_real.proofs.StreamSteps.{either_way}
use Rattle.lk_real.proofs.FileSteps.{loaded, loaded_all, untold_file, appended, begun, put_nowhere}
use Rattle.lk_real.proofs.real_depot.RealDepotDepot.TheImpl.Goals as goal

pub load-tells : goal.load-tells
load-tells g c =
    let step = loaded c.result _ _ _ c.ensures.after in
    record {
      found = untold_file c.result [];
      absent = λ is. absurd (c.ensures.untold is);
      failed = step.failed;
      unread = step.unread;
      later = step.later;
      files = refl;
      kinds = refl;
      begun = step.begun;
    }

pub load_files-asks : goal.load_files-asks
load_files-asks g c = record { sync = record { shared = c.requires.sync.shared }; some = c.requires.some; most = c.requires.most }

pub load_files-tells : goal.load_files-tells
load_files-tells g c =
    let step = loaded_all string_bytes c.args.names.now c.result _ _ c.ensures.names c.ensures.after in
    record {
      loads = step.loads;
      later = step.later;
      files = refl;
      kinds = refl;
      begun = step.begun;
    }

pub begin-tells : goal.begin-tells
begin-tells g c =
    let step = begun c.result _ _ c.ensures.after in
    record {
      files = put_nowhere None c.result;
      kinds = put_nowhere None c.result;
      begun = step.begun;
      cause = step.cause;
      unread = step.unread;
    }

pub append-tells : goal.append-tells
append-tells g c =
    let step = appended c.result _ _ c.ensures.after in
    record {
      some = c.ensures.some;
      most = c.ensures.most;
      files = either_way None c.result;
      cause = step.cause;
      kinds = refl;
      begun = step.begun;
      unread = step.unread;
    }
