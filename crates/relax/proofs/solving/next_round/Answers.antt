use Rattle.std.proofs.Common.{◌≡◌, ◌*◌, ◌++◌, ◌∷◌, [], Bool, true, false, not, ◌||◌, refl, get_or, ap, sym, ◌∙◌, arith}
use Rattle.std.specs.Prelude.{if◌then◌else◌}
use Rattle.std.proofs.lemmas.List.{get_or_default}
use Rattle.lk_base.proofs.Loops.{map_step}
use Rattle.relax.specs.declared.jumps.Jump.{Jump}
use Rattle.relax.specs.Jumps.{is_allowed, jump_bytes, no_jump, no_point, raised_size, size_at, some_rises, allows}
use Rattle.relax.proofs.LeastSizes.{lawful_most, rises_more}
use Rattle.relax.proofs.solving.next_round.Goals as goal

not_is : (b : Bool) → not b ≡ (if b then false else true)
not_is true = refl
not_is false = refl

abbrev zero_jump : Jump
zero_jump = record { low = no_point; high = no_point; forwards = false; least = 0 }

pub raised_size-requires : goal.raised_size-requires
raised_size-requires c =
    let z = c.args.sizes.now in
    let k = c.loop-k.k in
    let lt = c.loop-k-test.true in
    omega (arith, lawful_most c.args.jumps.now z k c.requires.lawful lt, get_or_default z k 0 8 (omega (arith, lt, c.requires.lawful.count)))

pub loop-k-preserved : goal.loop-k-preserved
loop-k-preserved c =
    let js = c.args.jumps.now in
    let z = c.args.sizes.now in
    let k = c.loop-k.k in
    let lt = c.loop-k-test.true in
    let same = get_or_default z k 0 8 (omega (arith, lt, c.requires.lawful.count)) in
    let allowed : c.allows-allowed.result ≡ is_allowed js z k =
    c.allows-allowed.ensures ∙ ap (λ n. allows (get_or z k 0) (get_or js k zero_jump).forwards n) c.bytes_of.ensures
    ∙ ap (λ s. allows s (get_or js k zero_jump).forwards (jump_bytes z (get_or js k zero_jump))) same
    ∙ ap (λ (j : Jump). allows (size_at z k) j.forwards (jump_bytes z j)) (get_or_default js k zero_jump no_jump lt) in
    let size : c.raised_size.result ≡ raised_size js z k =
    c.raised_size.ensures ∙ ap (λ b. if b then get_or z k 0 else 2 * get_or z k 0) allowed ∙ ap (λ s. if is_allowed js z k then s else 2 * s) same in
    record {
      raised = map_step (raised_size js z) k c.loop-k.raised.items c.push.new.self.items c.loop-k.invariant.raised (c.in_ok-push.ensures.items ∙ ap (λ n. c.loop-k.raised.items ++ n ∷ []) size);
      rises = ap (λ b. b || not c.allows-allowed.result) c.loop-k.invariant.rises ∙ ap (λ b. some_rises js z k || not b) allowed ∙ ap (λ b. some_rises js z k || b) (not_is (is_allowed js z k)) ∙ sym (rises_more js z k);
    }
