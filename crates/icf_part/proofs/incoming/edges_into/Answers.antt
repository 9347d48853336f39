use Rattle.std.proofs.Common.{[], length, replicate, ap, sym, ◌∙◌, arith}
use Rattle.icf_part.specs.Classes.{lists_of}
use Rattle.icf_part.proofs.EdgesInto.{into_first, into_last, into_next, lists_wide, row_within}
use Rattle.icf_part.proofs.incoming.edges_into.Goals as goal

pub loop-a-init : goal.loop-a-init
loop-a-init c = into_first c.args.ends.now (lists_of c.in_ok-into.into.items) (c.in_ok-into.ensures ∙ ap (λ n. replicate n []) c.count.ensures)

pub push_edges-requires-clause-within : goal.push_edges-requires-clause-within
push_edges-requires-clause-within c =
    row_within c.args.ends.now c.loop-a.a (length c.loop-a.into.items) c.row.result.now c.row.ensures (sym (lists_wide c.loop-a.into.items) ∙ c.loop-a.invariant.count) c.requires.within

pub loop-a-preserved : goal.loop-a-preserved
loop-a-preserved c =
    into_next c.args.ends.now c.loop-a.a c.row.result.now (lists_of c.loop-a.into.items) (lists_of c.push_edges.new.into.items) (omega arith) c.row.ensures c.loop-a.invariant c.in_ok-push_edges.ensures

pub returns : goal.returns
returns c = into_last c.args.ends.now c.loop-a.a (lists_of c.loop-a.into.items) (omega arith) c.loop-a.invariant
