use Rattle.std.proofs.Common.{◌≡◌, ◌+◌, ◌≤◌, slice_index, arith}
use Rattle.std.proofs.lemmas.Bool.{ltb-false}
use Rattle.got_tls.proofs.NoUppers.{none_listed}
use Rattle.got_tls.proofs.listing.has_uppers.Goals as goal

pub returns : goal.returns
returns c = λ not_less lists listed lt.
    let firsts = c.args.uppers.now.firsts.items in
    let past : c.first_at-next.result ≤ c.first_at-first.result = ltb-false c.first_at-first.result c.first_at-next.result not_less in
    let le : slice_index firsts (c.args.section + 1) ≤ slice_index firsts c.args.section = omega (arith, past, c.first_at-first.ensures, c.first_at-next.ensures) in
    none_listed lists c.args.uppers.now c.args.section listed lt le
