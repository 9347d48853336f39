use Rattle.std.proofs.Common.{◌≡◌, ◌∙◌, ◌++◌, ◌+◌, ◌≤◌, length, sym, arith, rules}
use Rattle.std.proofs.lemmas.List.{length-append}
use Rattle.why_chain.proofs.Joined.{same_bytes}
use Rattle.why_chain.proofs.alike.same_joined.Goals as goal

pub returns : goal.returns
returns c =
    let head = c.args.head.now in
    let tail = c.args.tail.now in
    let other = c.args.other.now in
    let rest = c.args.rest.now in
    let past : length head + length tail ≤ c.loop-k.k = search rules in
    let wide : length head + length tail ≡ length other + length rest = c.if-head-tail.false in
    sym (same_bytes (head ++ tail) (other ++ rest) (length-append head tail ∙ wide ∙ sym (length-append other rest))
    (λ i less. c.loop-k.invariant i (omega (arith, less, past, length-append head tail))))
