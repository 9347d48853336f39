use Rattle.std.proofs.Common.{◌∙◌, ap, arith, map, string_bytes, refl}
use Rattle.crossbeam_queue.specs.Passes.{view}
use Rattle.piped_reads.specs.declared.rule.Hand.{Hand}
use Rattle.piped_reads.proofs.LoadSteps.{kept_first, kept_more, none_put, put_next}
use Rattle.piped_reads.proofs.loader.put_files.Goals as goal

pub put_one-requires-clause-first : goal.put_one-requires-clause-first
put_one-requires-clause-first g c = c.loop-index.invariant.same.1 ∙ c.requires.first

pub put_one-requires-clause-below : goal.put_one-requires-clause-below
put_one-requires-clause-below g c = c.loop-index.invariant.put.below

pub loop-index-init : goal.loop-index-init
loop-index-init g c = record {
  queue = c.requires.queue;
  same = (refl, refl, refl);
  taken = ap (λ (v : Hand). v.taken) c.requires.view;
  put = none_put (g.D.Depot.store c.args.depot.now) (g.D.Depot.store c.args.depot.now) (map string_bytes c.args.names.now) (view c.args.pass.now).put c.args.results.now.took.items (ap (λ (v : Hand). v.put) c.requires.view) c.requires.results refl;
  store = kept_first _ _ refl;
}

pub loop-index-preserved : goal.loop-index-preserved
loop-index-preserved g c =
    let before = c.loop-index.invariant in
    record {
      queue = (c.put_one.ensures.queue.0 ∙ before.queue.0, c.put_one.ensures.queue.2 ∙ before.queue.1);
      same = (c.put_one.ensures.queue.0 ∙ before.same.0, c.put_one.ensures.queue.1 ∙ before.same.1, c.put_one.ensures.queue.2 ∙ before.same.2);
      taken = c.put_one.ensures.taken ∙ before.taken;
      put = put_next string_bytes (g.D.Depot.store c.args.depot.now) (g.D.Depot.store c.loop-index.depot) (g.D.Depot.store c.load.new.self) c.args.names.now c.loop-index.index c.index-names-index.result _ c.in-Ok.bytes _ _ _ _
          (omega arith) c.index-names-index.is c.as_str.ensures.value before.store.files c.in-Ok.ensures.found c.in-Ok.ensures.unread c.put_one.ensures.put before.put;
      store = kept_more _ _ _ before.store c.in-Ok.ensures.files c.in-Ok.ensures.kinds c.in-Ok.ensures.begun c.in-Ok.ensures.later;
    }
