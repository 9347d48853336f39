use Rattle.std.proofs.Common.{◌+◌, ap, arith, ◌∙◌}
use Rattle.intern_race.specs.Hash.{hash_of}
use Rattle.name_numbers.specs.Texts.{hash_at}
use Rattle.name_numbers.proofs.HashSteps.{run_none, run_pushed}
use Rattle.name_numbers.proofs.hashing.push_four.Goals as goal

pub returns : goal.returns
returns c =
    let f = hash_at c.args.texts.now in
    let i = c.args.i in
    let old = c.args.hashes.now.items in
    let one = run_pushed f i 0 i old old c.push.new.self.items c.hash_four-of_first.result.0 (omega arith) (run_none f i old) c.in_ok-push.ensures.items (c.hash_four-of_first.ensures.a ∙ ap hash_of c.four.ensures.first) in
    let two = run_pushed f i 1 (i + 1) old c.push.new.self.items c.push-2.new.self.items _ (omega arith) one c.in_ok-push-2.ensures.items (c.hash_four-of_first.ensures.b ∙ ap hash_of c.four.ensures.second) in
    let three = run_pushed f i 2 (i + 2) old c.push-2.new.self.items c.push-3.new.self.items _ (omega arith) two c.in_ok-push-3.ensures.items (c.hash_four-of_first.ensures.c ∙ ap hash_of c.four.ensures.third) in
    run_pushed f i 3 (i + 3) old c.push-3.new.self.items c.push-4.new.self.items _ (omega arith) three c.in_ok-push-4.ensures.items (c.hash_four-of_first.ensures.d ∙ ap hash_of c.four.ensures.fourth)
