use Rattle.claim_rows.proofs.Sharing.{finished}
use Rattle.claim_rows.proofs.shares.least_offers.Goals as goal

pub returns-in-Ok-clause-least : goal.returns-in-Ok-clause-least
returns-in-Ok-clause-least g c =
    (finished c.in_ok-claims.claims c.claim_each.new.seat c.in-Ok.row.items c.args.words c.args.offers.now c.in_ok-claims.ensures.words c.in_ok-claims.ensures.offers c.in-Ok.ensures.ok c.in_ok-claim_each.ensures.claimed).0

pub returns-in-Ok-clause-alone : goal.returns-in-Ok-clause-alone
returns-in-Ok-clause-alone g c =
    (finished c.in_ok-claims.claims c.claim_each.new.seat c.in-Ok.row.items c.args.words c.args.offers.now c.in_ok-claims.ensures.words c.in_ok-claims.ensures.offers c.in-Ok.ensures.ok c.in_ok-claim_each.ensures.claimed).1
