use Rattle.std.proofs.Common.{◌+◌, ◌*◌, ◌/◌, ℕ, length, get_or, ap, ◌∙◌, arith}
use Rattle.std.proofs.lemmas.List.FromFn.{get_or-map-range_with_len, length-map-range_with_len}
use Rattle.relax.specs.Jumps.{lost_upto}
use Rattle.relax.proofs.losses.lost_by.Goals as goal

pub bounds-sums-near : goal.bounds-sums-near
bounds-sums-near c =
    let z = c.args.sizes.now in
    omega (arith, c.requires.within, ap length c.requires.sums, length-map-range_with_len (λ (n : ℕ). lost_upto z (n * 16)) 0 (length z / 16 + 1))

pub with_calls-requires-clause-before : goal.with_calls-requires-clause-before
with_calls-requires-clause-before c =
    let z = c.args.sizes.now in
    let near = c.args.call / 16 in
    ap (λ l. get_or l near 0) c.requires.sums
    ∙ get_or-map-range_with_len (λ (n : ℕ). lost_upto z (n * 16)) 0 (length z / 16 + 1) near near 0 (omega (arith, c.requires.within)) (omega arith)
