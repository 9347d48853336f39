use Rattle.std.proofs.Common.{map, ◌∙◌}
use Rattle.lk_tables.specs.TablesView.{files_of}
use Rattle.sym_resolve.proofs.Meaning.{tables_are}
use Rattle.sym_resolve.proofs.Lawful.{commons_numbered, commons_rise}
use Rattle.sym_resolve.proofs.binding.offered_binding.Goals as goal

pub of-requires : goal.of-requires
of-requires g c =
    let commons = map (λ list. list.items) c.in_ok-commons.commons.items in
    record {
      ordered = commons_rise (files_of c.args.tables.now) c.args.least.now commons c.in_ok-commons.ensures;
      numbered = commons_numbered (files_of c.args.tables.now) c.args.least.now commons c.in_ok-commons.ensures;
    }

pub returns : goal.returns
returns g c = λ name bound.
    c.of.ensures ∙ tables_are (files_of c.args.tables.now) c.args.discarded.now c.args.least.now c.requires.least c.in_ok-discarded.discarded.items c.in_ok-ranks.ranks.items
    (map (λ list. list.items) c.in_ok-commons.commons.items) c.args.entry name c.in_ok-discarded.ensures.items c.in_ok-ranks.ensures c.in_ok-commons.ensures bound
