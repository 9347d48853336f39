use Rattle.std.proofs.Common.{◌≡◌, ◌-◌, ◌*◌, ◌/◌, ◌≤◌, ap, sym, ◌∙◌, subst, set, get_or, arith}
use Rattle.relax.specs.Jumps.{size_at}
use Rattle.relax.specs.Losses.{AreRuns}
use Rattle.relax.proofs.RunSteps.{run_falls}
use Rattle.relax.proofs.losses.double.Goals as goal

pub returns-clause-losses : goal.returns-clause-losses
returns-clause-losses c =
    let z = c.args.sizes.now.items in
    let k = c.args.call in
    let s = c.args.size in
    let near = c.args.losses.now.near.items in
    let far = c.args.losses.now.far.items in
    let up : size_at z k ≤ 2 * s = omega (arith, c.requires.size) in
    let gain : s ≡ 2 * s - size_at z k = omega (arith, c.requires.size) in
    record {
      near =
          let fallen = run_falls 64 z near k (2 * s) (k / 64) c.requires.losses.near c.requires.within up c.requires.few (omega arith) (omega arith)
          (omega (arith, c.requires.losses.near.covers, c.requires.within)) in
          subst (AreRuns 64 (set z k (2 * s))) (sym (c.take_off.ensures ∙ ap (λ n. set near (k / 64) (get_or near (k / 64) 0 - n)) gain)) fallen;
      far =
          let fallen = run_falls 4096 z far k (2 * s) (k / 4096) c.requires.losses.far c.requires.within up c.requires.few (omega arith) (omega arith)
          (omega (arith, c.requires.losses.far.covers, c.requires.within)) in
          subst (AreRuns 4096 (set z k (2 * s))) (sym (c.take_off-2.ensures ∙ ap (λ n. set far (k / 4096) (get_or far (k / 4096) 0 - n)) gain)) fallen;
    }
