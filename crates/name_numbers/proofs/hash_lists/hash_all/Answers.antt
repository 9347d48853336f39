use Rattle.std.proofs.Common.{ℕ, List, sym, subst}
use Rattle.std.specs.Prelude.{Result}
use Rattle.std.specs.Global.{Vec}
use Rattle.lk_base.specs.declared.defects.LinkStop.{LinkStop}
use Rattle.name_numbers.specs.Placed.{AreHashes}
use Rattle.name_numbers.proofs.hash_lists.hash_all.Goals as goal

pub tags_of-requires-clause-hashes : goal.tags_of-requires-clause-hashes
tags_of-requires-clause-hashes g c κs bound =
    let P : List (Result (Vec ℕ) LinkStop) → Type 0 = AreHashes c.args.texts.now c.args.cuts.now in
    subst P (sym c.as_slice.ensures.value) c.in_ok-hashes.ensures

pub returns : goal.returns
returns g c = record { hashes = c.in_ok-hashes.ensures; tags = c.in_ok-tags.ensures }
