use Rattle.std.proofs.Common.{◌≡◌, ◌<◌, ◌+◌, ◌++◌, length, map, get_or, ap, sym, ◌∙◌, arith}
use Rattle.std.specs.List.{range_with_len}
use Rattle.std.proofs.lemmas.List.{get_or_default}
use Rattle.intern_race.specs.Hash.{tag_of}
use Rattle.name_numbers.specs.Texts.{hash_at}
use Rattle.name_numbers.proofs.Placing.{hash_read, hashed_whole, length_hashes, tags_next, tags_so_far}
use Rattle.name_numbers.proofs.hash_lists.hash_block.Goals as goal

pub loop-k-init : goal.loop-k-init
loop-k-init c = tags_so_far c.args.texts.now c.args.start (c.args.start + 0) c.args.tags.now.items (omega arith) c.requires.tags

pub loop-k-preserved : goal.loop-k-preserved
loop-k-preserved c =
    let texts = c.args.texts.now in
    let start = c.args.start in
    let k = c.loop-k.k in
    let n = c.block_of.result in
    let hashes = c.push_hashes.new.hashes.items in
    let is = c.in_ok-push_hashes.ensures ∙ ap (λ l. l ++ map (hash_at texts) (range_with_len start n)) c.clear.ensures.items in
    let long = length_hashes texts start n hashes is in
    let lt : k < length hashes = omega arith in
    let at : c.index.result.now ≡ get_or hashes k 0 = c.index.ensures ∙ get_or_default hashes k c.index.result.now 0 lt in
    tags_next texts start k c.tag_of.result c.loop-k.tags.items c.push.new.self.items c.in_ok-push.ensures.items
    (c.tag_of.ensures ∙ ap tag_of (at ∙ hash_read texts start n k hashes is (omega (arith, long, lt)))) c.loop-k.invariant

pub returns-clause-some : goal.returns-clause-some
returns-clause-some c =
    let texts = c.args.texts.now in
    let is = c.in_ok-push_hashes.ensures ∙ ap (λ l. l ++ map (hash_at texts) (range_with_len c.args.start c.block_of.result)) c.clear.ensures.items in
    let long = length_hashes texts c.args.start c.block_of.result c.push_hashes.new.hashes.items is in
    let some = c.block_of.ensures.some in
    omega (arith, long, some)

pub returns-clause-most : goal.returns-clause-most
returns-clause-most c =
    let texts = c.args.texts.now in
    let is = c.in_ok-push_hashes.ensures ∙ ap (λ l. l ++ map (hash_at texts) (range_with_len c.args.start c.block_of.result)) c.clear.ensures.items in
    let long = length_hashes texts c.args.start c.block_of.result c.push_hashes.new.hashes.items is in
    let room = c.block_of.ensures.room in
    omega (arith, long, room)

pub returns-clause-within : goal.returns-clause-within
returns-clause-within c =
    let texts = c.args.texts.now in
    let is = c.in_ok-push_hashes.ensures ∙ ap (λ l. l ++ map (hash_at texts) (range_with_len c.args.start c.block_of.result)) c.clear.ensures.items in
    let long = length_hashes texts c.args.start c.block_of.result c.push_hashes.new.hashes.items is in
    let most = c.block_of.ensures.most in
    let start = c.requires.start in
    omega (arith, long, most, start)

pub returns-clause-hashes : goal.returns-clause-hashes
returns-clause-hashes c =
    let texts = c.args.texts.now in
    let is = c.in_ok-push_hashes.ensures ∙ ap (λ l. l ++ map (hash_at texts) (range_with_len c.args.start c.block_of.result)) c.clear.ensures.items in
    hashed_whole texts c.args.start c.block_of.result c.push_hashes.new.hashes.items is

pub returns-clause-tags : goal.returns-clause-tags
returns-clause-tags c = tags_so_far c.args.texts.now (c.args.start + c.loop-k.k) _ c.loop-k.tags.items (ap (λ n. c.args.start + n) (omega arith)) c.loop-k.invariant
