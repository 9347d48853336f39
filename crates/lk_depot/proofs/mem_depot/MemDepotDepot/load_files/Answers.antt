use Rattle.std.proofs.Common.{◌≡◌, ◌++◌, ◌∷◌, [], true, ap, arith, is_ok, string_bytes, Some}
use Rattle.lk_depot.proofs.NameLists.{named_at, loaded_one_more}
use Rattle.lk_depot.proofs.ShelfLoadSteps.{given_one_more, left_one_more}
use Rattle.lk_depot.proofs.ShelfSteps.{loaded_is_there}
use Rattle.lk_depot.proofs.mem_depot.MemDepotDepot.load_files.Goals as goal

pub loop-index-preserved : goal.loop-index-preserved
loop-index-preserved g c =
    let ok : is_ok c.push.result ≡ true = c.if-is_err.ensures.negation in
    let pushed : c.push.new.self.items ≡ c.loop-index.contents.items ++ c.in-Ok.bytes ∷ [] = rw ok at c.push.ensures.items in
    let so_far = c.loop-index.invariant in
    let named =
    named_at string_bytes c.args.names.now c.loop-index.index c.index-names-index.result _ (omega arith) c.index-names-index.is c.as_str.ensures.value in
    record {
      loaded = loaded_one_more (λ buffer. buffer.items) string_bytes _ _ c.args.names.now
          c.loop-index.contents.items c.push.new.self.items c.loop-index.index c.in-Ok.bytes c.index-names-index.result _
          (omega arith) c.index-names-index.is c.as_str.ensures.value (ap (λ s. Some s.files) so_far.left) pushed
          so_far.loaded (loaded_is_there c.loop-index.self _ c.in-Ok.bytes.items c.in-Ok.ensures.ok);
      given = given_one_more _ c.loop-index.self _ c.loop-index.index _ c.in-Ok.bytes.items so_far.left named c.in-Ok.ensures.ok so_far.given;
      left = left_one_more _ c.loop-index.self _ c.loop-index.index so_far.left c.in-Ok.ensures.after;
    }
