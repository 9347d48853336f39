use Rattle.std.proofs.Common.{List, Vec, Global, ap, ◌∙◌}
use Rattle.lk_tables.specs.declared.commons.BoundCommon.{BoundCommon}
use Rattle.lk_tables.specs.TablesView.{files_of}
use Rattle.sym_resolve.specs.Asks.{common_by, common_from}
use Rattle.sym_resolve.specs.Symbols.{in_file}
use Rattle.sym_resolve.proofs.Claiming.{list_more, rooms_same}
use Rattle.sym_resolve.proofs.commons.commons_of.Goals as goal

pub loop-f-preserved : goal.loop-f-preserved
loop-f-preserved c =
    let view : Vec BoundCommon Global → List BoundCommon = λ v. v.items in
    let files = files_of c.args.tables.now in
    let row = c.args.least.now in
    let rooms = c.in_ok-rooms.rooms.items in
    let same = c.in_ok-commons_in.ensures ∙ ap (λ l. in_file files (common_from files row l) c.loop-f.f) c.as_slice.ensures.value ∙ rooms_same files row rooms c.loop-f.f c.in_ok-rooms.ensures in
    list_more view (in_file files (common_by files row)) c.loop-f.commons.items c.push.new.self.items c.in_ok-commons_in.field-0 c.loop-f.f c.loop-f.invariant c.in_ok-push.ensures.items same
