use Rattle.std.proofs.Common.{◌-◌, arith, length, min}
use Rattle.lk_tables.specs.Files.{file_at}
use Rattle.link_sections.specs.Links.{link_files}
use Rattle.symbol_addresses.specs.Prevailing.{own_address}
use Rattle.symbol_addresses.proofs.NumberRuns.{walk_done, walk_next}
use Rattle.symbol_addresses.proofs.addresses.addresses_in.Goals as goal

pub loop-file-preserved : goal.loop-file-preserved
loop-file-preserved c =
    let link = c.args.sources.now.link in
    let files = link_files link in
    let first = c.symbol_no-first.result in
    walk_next files (own_address link) 0 c.args.piece.start c.args.piece.end c.loop-file.file c.saturating_sub-in-loop-file.result
    (min (c.args.piece.end - first) (length (file_at files c.loop-file.file).head.symbols)) c.loop-file.found.items _
    (omega arith) (omega arith) (omega arith) (omega (arith, c.symbol_no-first.ensures)) c.loop-file.invariant c.in_ok-push_addresses.ensures

pub returns : goal.returns
returns c =
    let link = c.args.sources.now.link in
    walk_done (link_files link) (own_address link) 0 c.args.piece.start c.args.piece.end c.loop-file.file c.loop-file.found.items
    (omega arith) c.requires.piece c.loop-file.invariant
