use Rattle.std.proofs.Common.{ℕ, List, sym, subst}
use Rattle.std.specs.Prelude.{Result}
use Rattle.std.specs.Global.{Vec}
use Rattle.lk_base.specs.declared.defects.LinkStop.{LinkStop}
use Rattle.intern_race.specs.Texts.{AreTags}
use Rattle.name_numbers.specs.Placed.{AreHashes}
use Rattle.name_numbers.proofs.Placing.{all_sit, ready_if}
use Rattle.name_numbers.proofs.racing.place_all.Goals as goal

pub place_pieces-requires-clause-hashes : goal.place_pieces-requires-clause-hashes
place_pieces-requires-clause-hashes g c κs bound =
    let P : List (Result (Vec ℕ) LinkStop) → Type 0 = AreHashes c.args.texts.now c.args.cuts.now in
    subst P (sym c.as_slice-hashes.ensures.value) c.requires.hashes.hashes

pub place_pieces-requires-clause-tags : goal.place_pieces-requires-clause-tags
place_pieces-requires-clause-tags g c κs bound =
    let P : List ℕ → Type 0 = AreTags c.args.texts.now in
    subst P (sym c.as_slice-tags.ensures.value) c.requires.hashes.tags

pub place_pieces-requires-clause-seated : goal.place_pieces-requires-clause-seated
place_pieces-requires-clause-seated g c κs bound = all_sit c.args.table.now _ c.in_ok-seats.seats.items c.in_ok-seats.ensures.seated

pub join_all-requires-clause-done : goal.join_all-requires-clause-done
join_all-requires-clause-done g c = c.in_ok-done.ensures.seated

pub returns : goal.returns
returns g c = ready_if c.args.table.now _ c.args.cuts.now c.in_ok-done.done.items c.join_all.new.seat c.join_all.result c.requires.tiles c.in_ok-done.ensures c.join_all.ensures
