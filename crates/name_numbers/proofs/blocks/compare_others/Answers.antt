use Rattle.std.proofs.Common.{ℕ, List, [], ◌≡◌, length, refl, sym, ◌∙◌, arith}
use Rattle.std.specs.Borrow.{Bor}
use Rattle.std.proofs.lemmas.List.{get_or-map}
use Rattle.name_numbers.proofs.blocks.compare_others.Goals as goal

pub loop-n-init : goal.loop-n-init
loop-n-init c = record { len = refl; alike = c.requires.alike }

pub compare_other-requires-clause-other : goal.compare_other-requires-clause-other
compare_other-requires-clause-other c =
    let n : ℕ = c.loop-n.n in
    let others = c.requires.others in
    let listed = others.listed in
    let lt = c.loop-n-test.true in
    let blank : Bor (List ℕ) = record { ref_ptr = (0, 0); now = [] } in
    let now : Bor (List ℕ) → List ℕ = λ t. t.now in
    sym (get_or-map now c.args.list.now n blank [] (omega (arith, listed, lt))) ∙ others.each n lt

pub loop-n-preserved : goal.loop-n-preserved
loop-n-preserved c = record { len = c.compare_other.ensures.len ∙ c.loop-n.invariant.len; alike = c.compare_other.ensures.alike }
