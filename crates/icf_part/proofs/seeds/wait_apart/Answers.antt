use Rattle.std.proofs.Common.{ℕ, List, set, true, sym, subst}
use Rattle.icf_part.specs.Classes.{IsLonger}
use Rattle.icf_part.proofs.Seeded.{longer_one}
use Rattle.icf_part.proofs.seeds.wait_apart.Goals as goal

pub returns-clause-longer : goal.returns-clause-longer
returns-clause-longer c =
    let waits = c.args.waiting.now.waits.items in
    let queue = c.args.waiting.now.queue.items in
    let P : List ℕ → Type 0 = λ q. IsLonger waits queue (set waits c.args.class true) q in
    subst P (sym c.in_ok-push.ensures.items) (longer_one waits queue c.args.class c.requires)
