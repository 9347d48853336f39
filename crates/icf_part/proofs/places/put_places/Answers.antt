use Rattle.std.proofs.Common.{[], arith}
use Rattle.icf_part.specs.Signatures.{reloc_places, places}
use Rattle.icf_part.proofs.Collected.{flat_more, flat_all}
use Rattle.icf_part.proofs.places.put_places.Goals as goal

pub loop-k-preserved : goal.loop-k-preserved
loop-k-preserved c =
    flat_more (reloc_places c.args.sections.now) [] c.args.item.now.relocs.items c.loop-k.k c.index.result.now c.loop-k.list.items c.push_place.new.list.items
    (omega (arith, c.loop-k-test.true, c.len-k-end.ensures)) c.index.ensures c.loop-k.invariant c.in_ok-push_place.ensures

pub returns : goal.returns
unfolding places
returns c = flat_all (reloc_places c.args.sections.now) [] c.args.item.now.relocs.items c.loop-k.k c.loop-k.list.items (omega arith) c.loop-k.invariant
