use Rattle.std.proofs.Common.{ap, get_or, sym, ◌∙◌, arith, inl, None}
use Rattle.symbol_table.proofs.SeenPlaces.{seen_set}
use Rattle.symbol_table.proofs.entries.note_place.Goals as goal

pub returns : goal.returns
returns c = λ i p is. seen_set c.args.seen.now.items c.args.index i c.args.place p (omega arith) is
