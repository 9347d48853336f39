use Rattle.std.proofs.Common.{length, sym, ap, arith}
use Rattle.lk_tables.specs.FileView.{file_view}
use Rattle.lk_tables.proofs.Owners.{unframed_past}
use Rattle.lk_tables.proofs.files.File.is_frame.Goals as goal

pub returns-in-None : goal.returns-in-None
returns-in-None c =
    let past = c.in-None.ensures.lookup.3 in
    sym (unframed_past (file_view c.args.self.now) c.args.index (omega (arith, past, ap length c.deref.ensures.value)))
