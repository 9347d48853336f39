use Rattle.std.proofs.Common.{ℕ, ◌/◌, ◌≡◌, ◌+◌, ◌*◌, ◌++◌, ap, arith, map, subst, ◌∙◌}
use Rattle.std.specs.List.{range_with_len}
use Rattle.intern_race.specs.Hash.{hash_of}
use Rattle.name_numbers.specs.Texts.{hash_at}
use Rattle.name_numbers.proofs.HashSteps.{run_joined, run_none, run_pushed}
use Rattle.name_numbers.proofs.hashing.push_hashes.Goals as goal

pub loop-n-init : goal.loop-n-init
loop-n-init c = run_none (hash_at c.args.texts.now) c.args.start c.args.hashes.now.items

pub loop-n-preserved : goal.loop-n-preserved
loop-n-preserved c =
    let f = hash_at c.args.texts.now in
    let old = c.args.hashes.now.items in
    let P : ℕ → Type 0 = λ m. c.push_four.new.hashes.items ≡ old ++ map f (range_with_len c.args.start m) in
    let more : 4 * c.loop-n.n + 4 ≡ 4 * (c.loop-n.n + 1) = omega arith in
    subst P more (run_joined f c.args.start (4 * c.loop-n.n) 4 old c.loop-n.hashes.items c.push_four.new.hashes.items c.loop-n.invariant c.in_ok-push_four.ensures)

pub loop-k-init : goal.loop-k-init
loop-k-init c =
    let f = hash_at c.args.texts.now in
    let all : c.loop-n.n ≡ c.args.count / 4 = omega arith in
    let P : ℕ → Type 0 = λ m. c.loop-n.hashes.items ≡ c.args.hashes.now.items ++ map f (range_with_len c.args.start (4 * m)) in
    (omega arith, subst P all c.loop-n.invariant)

pub loop-k-preserved : goal.loop-k-preserved
loop-k-preserved c = (
  omega arith,
  run_pushed (hash_at c.args.texts.now) c.args.start c.loop-k.k (c.args.start + c.loop-k.k) c.args.hashes.now.items c.loop-k.hashes.items c.push.new.self.items c.hash_of.result
      (omega arith) c.loop-k.invariant.1 c.in_ok-push.ensures.items (c.hash_of.ensures ∙ ap hash_of c.text.ensures),
)

pub returns : goal.returns
returns c =
    let f = hash_at c.args.texts.now in
    let all : c.loop-k.k ≡ c.args.count = omega arith in
    let P : ℕ → Type 0 = λ m. c.loop-k.hashes.items ≡ c.args.hashes.now.items ++ map f (range_with_len c.args.start m) in
    subst P all c.loop-k.invariant.1
