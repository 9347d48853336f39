use Rattle.std.proofs.Common.{◌∙◌, map, string_bytes, sym}
use Rattle.std.proofs.lemmas.List.{length-map}
use Rattle.piped_reads.proofs.OfLoaded.{all_contents, each_read}
use Rattle.piped_reads.proofs.RuleSteps.{begins}
use Rattle.piped_reads.proofs.piped.read_piped.Goals as goal

pub ruled-requires-clause-rule : goal.ruled-requires-clause-rule
ruled-requires-clause-rule g c = begins

pub returns-clause-loads : goal.returns-clause-loads
returns-clause-loads g c =
    let held = c.read_loaded-gathered.ensures.gathered in
    let order = c.in-Ok-in_order.ensures in
    all_contents (g.D.Depot.store c.args.depot.now) (g.D.Depot.store c.read_loaded-gathered.new.depot) (map string_bytes c.args.names.now) held.0 c.read_loaded-gathered.result.stop c.in_default-stop.field-0 c.args.workers _ _
    c.in_default-stop.is held.1 held.2 order.0 (order.1 ∙ sym (length-map c.args.names.now string_bytes))

pub returns-clause-read : goal.returns-clause-read
returns-clause-read g c =
    let held = c.read_loaded-gathered.ensures.gathered in
    each_read c.args.workers held.0 _ _ held.2 c.in-Ok-in_order.ensures.0
