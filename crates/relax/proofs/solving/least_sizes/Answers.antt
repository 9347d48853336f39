use Rattle.std.proofs.Common.{◌≡◌, arith, ◌<◌, ℕ, length, ap, sym, ◌∙◌, subst}
use Rattle.std.proofs.lemmas.Bool.{not-false, not-true}
use Rattle.relax.specs.Jumps.{AreBelow, AreLawful, IsJump, all_lost, jump_at, no_jump, raised, some_rises}
use Rattle.relax.proofs.LeastSizes.{are_safe, fewer_lost, least_below, least_lawful, raised_below, raised_lawful}
use Rattle.relax.proofs.solving.least_sizes.Goals as goal

pub loop-sizes-init : goal.loop-sizes-init
loop-sizes-init c =
    let js = c.args.jumps.now in
    let are : (k : ℕ) → k < length js → IsJump (length js) (jump_at js k) = λ k lt. c.requires.jumps k no_jump lt in
    record {
      lawful = subst (AreLawful js) (sym c.in_ok-sizes.ensures) (least_lawful js are);
      below = subst (AreBelow js) (sym c.in_ok-sizes.ensures) (least_below js are);
    }

pub returns-then-not-next-clause-safe : goal.returns-then-not-next-clause-safe
returns-then-not-next-clause-safe c =
    let js = c.args.jumps.now in
    let are : (k : ℕ) → k < length js → IsJump (length js) (jump_at js k) = λ k lt. c.requires.jumps k no_jump lt in
    are_safe js are c.loop-sizes.sizes.items c.loop-sizes.invariant.lawful
    (sym (c.in_ok-next.ensures.rises ∙ ap (λ l. some_rises js l (length js)) c.as_slice.ensures.value) ∙ not-true c.in_ok-next.next.rises c.if-not-next.true)

pub settle-requires-clause-lawful : goal.settle-requires-clause-lawful
settle-requires-clause-lawful c =
    let js = c.args.jumps.now in
    let are : (k : ℕ) → k < length js → IsJump (length js) (jump_at js k) = λ k lt. c.requires.jumps k no_jump lt in
    subst (AreLawful js) (sym (c.in_ok-next.ensures.sizes ∙ ap (raised js) c.as_slice.ensures.value)) (raised_lawful js are c.loop-sizes.sizes.items c.loop-sizes.invariant.lawful)

pub settle-requires-clause-below : goal.settle-requires-clause-below
settle-requires-clause-below c =
    let js = c.args.jumps.now in
    let are : (k : ℕ) → k < length js → IsJump (length js) (jump_at js k) = λ k lt. c.requires.jumps k no_jump lt in
    subst (AreBelow js) (sym (c.in_ok-next.ensures.sizes ∙ ap (raised js) c.as_slice.ensures.value)) (raised_below js are c.loop-sizes.sizes.items c.loop-sizes.invariant.lawful c.loop-sizes.invariant.below)

pub loop-sizes-smaller : goal.loop-sizes-smaller
loop-sizes-smaller c =
    let js = c.args.jumps.now in
    let are : (k : ℕ) → k < length js → IsJump (length js) (jump_at js k) = λ k lt. c.requires.jumps k no_jump lt in
    let less = fewer_lost js are c.loop-sizes.sizes.items c.loop-sizes.invariant.lawful
    (sym (c.in_ok-next.ensures.rises ∙ ap (λ l. some_rises js l (length js)) c.as_slice.ensures.value) ∙ not-false c.in_ok-next.next.rises c.if-not-next.false) in
    let next : all_lost c.in_ok-next.next.sizes.items ≡ all_lost (raised js c.loop-sizes.sizes.items) =
    ap all_lost (c.in_ok-next.ensures.sizes ∙ ap (raised js) c.as_slice.ensures.value) in
    let most = c.in_ok-settle.ensures.lost in
    let fewer : all_lost c.settle.new.sizes.items < all_lost c.loop-sizes.sizes.items = omega (arith, less, next, most) in
    fewer

pub loop-sizes-preserved : goal.loop-sizes-preserved
loop-sizes-preserved c = record { lawful = c.in_ok-settle.ensures.lawful; below = c.in_ok-settle.ensures.below }
