use Rattle.std.proofs.Common.{arith}
use Rattle.link_passes.specs.Contents.{sources_of}
use Rattle.link_passes.proofs.KnownHeads.{known_heads_of, known_share}
use Rattle.link_passes.proofs.heads.heads_for.Goals as goal

pub returns-then-len-count : goal.returns-then-len-count
returns-then-len-count g c =
    let ss = sources_of c.args.sources.now in
    let counts = c.in-Some.list.ok.0 in
    known_share ss c.in-Some.list c.args.count (known_heads_of c.args.known c.in-Some.list ss c.in-Some.is c.requires.known) (omega (arith, counts))
