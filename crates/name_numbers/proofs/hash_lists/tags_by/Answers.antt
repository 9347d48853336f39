use Rattle.std.proofs.Common.{ℕ, ◌≡◌, ◌+◌, ◌∙◌, ap, arith, get_or, length, map, subst}
use Rattle.std.specs.List.{range_with_len}
use Rattle.intern_race.specs.Hash.{tag_of}
use Rattle.name_numbers.proofs.Placing.{map_next}
use Rattle.name_numbers.proofs.hash_lists.tags_by.Goals as goal

pub loop-k-preserved : goal.loop-k-preserved
loop-k-preserved c =
    let f : ℕ → ℕ = λ i. tag_of (get_or c.args.hashes.now i 0) in
    let from : c.loop-k.k ≡ 0 + c.loop-k.k = omega arith in
    map_next f 0 c.loop-k.k c.tag_of.result c.loop-k.list.items c.push.new.self.items c.in_ok-push.ensures.items (c.tag_of.ensures ∙ ap f from) c.loop-k.invariant

pub returns : goal.returns
returns c =
    let all : c.loop-k.k ≡ length c.args.hashes.now = omega arith in
    let P : ℕ → Type 0 = λ n. c.loop-k.list.items ≡ map (λ i. tag_of (get_or c.args.hashes.now i 0)) (range_with_len 0 n) in
    subst P all c.loop-k.invariant
