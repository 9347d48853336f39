use Rattle.std.proofs.Common.{◌≡◌, ◌<◌, ◌∙◌, ℕ, List, All, replicate, sym, subst, arith, rules}
use Rattle.std.proofs.lemmas.List.Elements.{All-replicate}
use Rattle.tests_image.proofs.tests.kept.a_star_of_many_edges.Goals as goal

twos : (list : List ℕ) → list ≡ replicate 3000 2 → All (λ end. end < 5) list
twos list is = let P : List ℕ → Type 0 = All (λ end. end < 5) in subst P (sym is) (All-replicate (λ end. end < 5) 3000 2 (omega arith))

pub five-requires-clause-first : goal.five-requires-clause-first
five-requires-clause-first g c =
    let many : c.in_ok-many.many.items ≡ replicate 3000 2 = search rules in
    twos c.deref.result.now (c.deref.ensures.value ∙ many)

pub five-requires-clause-second : goal.five-requires-clause-second
five-requires-clause-second g c =
    let many : c.in_ok-many.many.items ≡ replicate 3000 2 = search rules in
    twos c.deref-2.result.now (c.deref-2.ensures.value ∙ many)
