use Rattle.lk_depot.proofs.ShelfLoadSteps.{kept_by}
use Rattle.lk_depot.proofs.mem_depot.MemDepotDepot.TheImpl.Goals as goal

pub load_files-tells : goal.load_files-tells
load_files-tells g c =
    let kept = kept_by _ _ _ c.result c.ensures.ends in
    record { loads = c.ensures.loads; later = kept.later; files = kept.files; kinds = kept.kinds; begun = kept.begun }
