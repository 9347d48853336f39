use Rattle.std.proofs.Common.{ℕ, List, ◌-◌, ◌≡◌, ◌∙◌, ap, sym, subst, get_or, length, map}
use Rattle.std.specs.List.{range_with_len}
use Rattle.std.specs.Prelude.{Result}
use Rattle.std.specs.Global.{Vec}
use Rattle.lk_base.specs.declared.defects.LinkStop.{LinkStop}
use Rattle.intern_race.specs.Hash.{tag_of}
use Rattle.name_numbers.specs.Placed.{HasHashes}
use Rattle.name_numbers.proofs.HashLists.{tags_by_hashes}
use Rattle.name_numbers.proofs.hash_lists.piece_tags.Goals as goal

pub returns-in_ok-tags_by-in-Ok : goal.returns-in_ok-tags_by-in-Ok
returns-in_ok-tags_by-in-Ok c =
    let P : Result (Vec ℕ) LinkStop → Type 0 = HasHashes c.args.texts.now c.args.piece in
    let are = subst P c.in-Ok.is c.requires in
    let T : List ℕ → Type 0 = λ l. c.in_ok-tags_by-in-Ok.field-0.items ≡ map (λ i. tag_of (get_or l i 0)) (range_with_len 0 (length l)) in
    tags_by_hashes c.args.texts.now c.args.piece.start (c.args.piece.end - c.args.piece.start) c.in-Ok.list.items _ are (subst T c.as_slice.ensures.value c.in_ok-tags_by-in-Ok.ensures)
