use Rattle.std.proofs.Common.{ℕ, List, length, ap, arith}
use Rattle.tests_passes.proofs.tests.text_table.are_same.Goals as goal

pub same-requires-clause-first : goal.same-requires-clause-first
same-requires-clause-first c =
    let texts = ap (λ (l : List (List ℕ)). length l) c.requires.texts in
    let own = ap (λ (l : List (List ℕ)). length l) c.requires.seat.texts in
    c.requires.placed c.args.i (omega (arith, c.requires.first, texts, own))

pub same-requires-clause-second : goal.same-requires-clause-second
same-requires-clause-second c =
    let texts = ap (λ (l : List (List ℕ)). length l) c.requires.texts in
    let own = ap (λ (l : List (List ℕ)). length l) c.requires.seat.texts in
    c.requires.placed c.args.j (omega (arith, c.requires.second, texts, own))
