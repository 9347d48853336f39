use Rattle.std.proofs.Common.{ap, arith, length, rules, sym}
use Rattle.std.proofs.lemmas.List.{append-nil}
use Rattle.lk_tables.specs.Files.{File}
use Rattle.lk_tables.proofs.FirstNumbers.{first_within}
use Rattle.link_sections.specs.Views.{binding_in, files_in, laid_in, leaders_in}
use Rattle.symbol_table.specs.NamedViews.{named_views}
use Rattle.symbol_table.specs.SymbolTable.{entry_of}
use Rattle.symbol_table.proofs.EntrySteps.{more_entries}
use Rattle.symbol_table.proofs.SeenPlaces.{none_seen}
use Rattle.symbol_table.proofs.listing.push_symbols.Goals as goal

pub overflow_cast-symbol : goal.overflow_cast-symbol
overflow_cast-symbol c =
    omega (
      arith,
      ap length c.symbols-symbol-end.ensures,
      ap (λ (file : File). length file.head.symbols) c.file-2.ensures,
      c.prove_few.ensures.symbol_count,
      first_within (files_in c.args.view.now) c.args.file c.requires.file,
    )

pub loop-symbol-init : goal.loop-symbol-init
loop-symbol-init c =
    let v = c.args.view.now in
    record {
      list = sym (append-nil (named_views c.args.list.now.items));
      seen = none_seen (files_in v) (binding_in v) (laid_in v) c.args.file _ _ _ c.resize.new.self.items (search rules) c.in_ok-resize.ensures.items;
    }

pub loop-symbol-preserved : goal.loop-symbol-preserved
loop-symbol-preserved c =
    let v = c.args.view.now in
    record {
      list = more_entries (entry_of (files_in v) (binding_in v) v.kept.now (leaders_in v) (laid_in v) c.args.file) c.loop-symbol.symbol
          (named_views c.args.list.now.items) (named_views c.loop-symbol.list.items) (named_views c.push_if.new.list.items) _ c.loop-symbol.invariant.list c.in_ok-push_if.ensures
          c.entry_of.ensures.entry;
      seen = c.entry_of.ensures.seen;
    }
