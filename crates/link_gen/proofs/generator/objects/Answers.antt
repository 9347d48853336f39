use Rattle.lk_base.proofs.Loops.{map_step}
use Rattle.link_gen.specs.Generated.{generated, objects_in}
use Rattle.link_gen.proofs.Whole.{listed}
use Rattle.link_gen.proofs.generator.objects.Goals as goal

pub loop-k-preserved : goal.loop-k-preserved
loop-k-preserved c =
    map_step (generated c.args.n) c.loop-k.k (objects_in c.loop-k.list.items) (objects_in c.push.new.self.items) c.loop-k.invariant
    (listed c.loop-k.list.items c.push.new.self.items c.in_ok-object_name.field-0 c.in_ok-object.field-0 c.args.n c.loop-k.k
    c.in_ok-push.ensures.items c.in_ok-object_name.ensures c.in_ok-object.ensures)
