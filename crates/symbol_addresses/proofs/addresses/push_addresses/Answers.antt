use Rattle.std.proofs.Common.{ap, arith, length, min}
use Rattle.lk_tables.specs.Files.{File}
use Rattle.lk_tables.proofs.FirstNumbers.{first_within}
use Rattle.link_sections.specs.Links.{link_files}
use Rattle.symbol_addresses.specs.Prevailing.{own_address}
use Rattle.symbol_addresses.proofs.NumberRuns.{push_step}
use Rattle.symbol_addresses.proofs.addresses.push_addresses.Goals as goal

pub overflow_cast-symbol : goal.overflow_cast-symbol
overflow_cast-symbol c =
    omega (
      arith,
      ap length c.symbols-count.ensures,
      ap (λ (file : File). length file.head.symbols) c.file.ensures,
      c.prove_few.ensures.symbol_count,
      first_within (link_files c.args.sources.now.link) c.args.file c.requires.file,
    )

pub loop-symbol-preserved : goal.loop-symbol-preserved
loop-symbol-preserved c =
    push_step (own_address c.args.sources.now.link c.args.file) c.loop-symbol.symbol (min c.args.symbols.end (length c.symbols-count.result.now))
    c.loop-symbol.found.items c.push.new.self.items _ c.own_address.result (omega arith) c.loop-symbol.invariant c.in_ok-push.ensures.items c.own_address.ensures
