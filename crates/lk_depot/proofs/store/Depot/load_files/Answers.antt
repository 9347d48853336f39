use Rattle.std.proofs.Common.{◌≡◌, ◌++◌, ◌∷◌, [], ◌∙◌, arith, string_bytes}
use Rattle.std.proofs.lemmas.Grind.{common_steps}
use Rattle.lk_depot.proofs.NameLists.{loaded_one_more}
use Rattle.lk_depot.proofs.store.Depot.load_files.Goals as goal

pub loop-index-preserved : goal.loop-index-preserved
loop-index-preserved g c =
    let pushed : c.push.new.self.items ≡ c.loop-index.contents.items ++ c.in-Ok.bytes ∷ [] =
    grind (arith, common_steps, c.push.ensures.items, c.in_ok-map_err.ensures.variant) in
    record {
      loaded = loaded_one_more (λ buffer. buffer.items) string_bytes _ _ c.args.names.now
          c.loop-index.contents.items c.push.new.self.items c.loop-index.index c.in-Ok.bytes c.index-names-index.result _
          (omega arith) c.index-names-index.is c.as_str.ensures.value c.loop-index.invariant.files pushed
          c.loop-index.invariant.loaded c.in-Ok.ensures.found;
      unread = c.in-Ok.ensures.unread ∙ c.loop-index.invariant.unread;
      files = c.in-Ok.ensures.files ∙ c.loop-index.invariant.files;
      kinds = c.in-Ok.ensures.kinds ∙ c.loop-index.invariant.kinds;
      begun = c.in-Ok.ensures.begun ∙ c.loop-index.invariant.begun;
      later = omega (arith, c.in-Ok.ensures.later);
    }
