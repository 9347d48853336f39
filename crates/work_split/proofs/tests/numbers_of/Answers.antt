use Rattle.std.proofs.Common.{◌≡◌, ◌-◌, ℕ, List, [], ◌∷◌, flat_map, refl, subst, arith}
use Rattle.std.specs.List.{range_with_len}
use Rattle.work_split.specs.Shares.{EachFrom}
use Rattle.work_split.proofs.Sharing.{each_pushed}
use Rattle.work_split.proofs.tests.numbers_of.Goals as goal

no_defects : {X : Type 0} (xs : List ℕ) → flat_map {A = X} (λ _. []) xs ≡ []
no_defects [] = refl
no_defects (x ∷ xs) = no_defects xs

pub loop-number-preserved : goal.loop-number-preserved
loop-number-preserved c =
    each_pushed (λ n x. x ≡ n) c.args.piece.start c.loop-number.number c.loop-number.numbers.items c.push.new.self.items c.loop-number.number
    c.in_ok-push.ensures.items c.loop-number.invariant refl

pub returns : goal.returns
returns c =
    let ordered = c.requires.ordered in
    let past = c.loop-number-test.false in
    let end = c.loop-number.auto.number-end in
    let same : c.loop-number.number ≡ c.args.piece.end = omega arith in
    let P : ℕ → Type 0 = λ k. EachFrom (λ n x. x ≡ n) c.args.piece.start k c.loop-number.numbers.items in
    record { goes = no_defects (range_with_len c.args.piece.start (c.args.piece.end - c.args.piece.start)); each = subst P same c.loop-number.invariant }
