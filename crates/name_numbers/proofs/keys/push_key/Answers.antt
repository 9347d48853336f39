use Rattle.name_numbers.proofs.Columns.{appends_one}
use Rattle.name_numbers.proofs.keys.push_key.Goals as goal

pub returns : goal.returns
returns c =
    appends_one c.args.text c.args.symbol c.args.keys.now _ c.in_ok-push.ensures.items c.in_ok-push-2.ensures.items
