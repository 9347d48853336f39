use Rattle.std.proofs.Common.{ℕ, List, ◌≤◌, length, ap, sym, ◌∙◌, subst, arith}
use Rattle.name_numbers.specs.Placed.{AreAlike}
use Rattle.name_numbers.proofs.BlockTexts.{own_alike, written_back}
use Rattle.name_numbers.proofs.blocks.find_near.Goals as goal

pub compare_others-requires-clause-alike : goal.compare_others-requires-clause-alike
compare_others-requires-clause-alike c =
    let texts = c.args.texts.now in
    let n : ℕ = length c.args.hashes.now in
    let len = c.own_numbers.ensures.len in
    let whole = ap length c.as_mut_slice-2.ensures.value in
    let room = c.requires.room.alike in
    let most = c.requires.most in
    let P : List ℕ → Type 0 = AreAlike texts c.args.from n in
    let ok = c.args.block.now.alike.ok.0 in
    let back = c.as_mut_slice-6.ensures.value ∙ written_back _ c.own_numbers.new.alike _ (omega (arith, len, whole, ok)) in
    subst P (sym back) (own_alike texts c.args.from n c.own_numbers.new.alike (omega (arith, len, whole, room, most)) c.own_numbers.ensures.own)
