use Rattle.lk_tables.proofs.BodyFacts.{symbol_at}
use Rattle.elf_read.proofs.sound_file.SoundFile.symbol.Goals as goal

pub returns-clause-value : goal.returns-clause-value
returns-clause-value c =
    symbol_at c.args.self.now.bytes.now c.args.self.now.symbols.now c.args.index _ c.args.self.now.symbols_are c.requires
