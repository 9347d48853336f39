use Rattle.std.proofs.Common.{◌≡◌, ◌<◌, ◌-◌, ◌*◌, ℕ, false, ap, sym, subst, ◌∙◌, arith, get_or, set, length}
use Rattle.std.proofs.lemmas.List.{get_or_default}
use Rattle.std.proofs.lemmas.List.Sums.{sum_by-set}
use Rattle.relax.specs.declared.jumps.Jump.{Jump}
use Rattle.relax.specs.Jumps.{AreBelow, AreLawful, IsJump, all_lost, allows, is_allowed, jump_at, jump_bytes, no_jump, no_point, size_at}
use Rattle.relax.proofs.LeastSizes.{larger_below, larger_lawful, twice_few}
use Rattle.relax.proofs.settling.raise.Goals as goal

abbrev zero_jump : Jump
zero_jump = record { low = no_point; high = no_point; forwards = false; least = 0 }

pub double-requires-clause-few : goal.double-requires-clause-few
double-requires-clause-few c =
    let js = c.args.jumps.now in
    let z = c.args.sizes.now.items in
    let k = c.args.call in
    let s = c.index-size.result.now in
    let is = c.requires.rising in
    let lt : k < length js = omega (arith, c.if-call-jumps.false) in
    let own : s ≡ size_at z k = c.index-size.ensures ∙ get_or_default z k s 8 (omega (arith, lt, is.lawful.count)) in
    let allowed : c.allows.result ≡ is_allowed js z k =
    c.allows.ensures ∙ ap (allows s (get_or js k zero_jump).forwards) (c.bytes_now-bytes.ensures ∙ ap (λ l. jump_bytes l (get_or js k zero_jump)) c.as_slice.ensures.value)
    ∙ ap (λ n. allows n (get_or js k zero_jump).forwards (jump_bytes z (get_or js k zero_jump))) own
    ∙ ap (λ (j : Jump). allows (size_at z k) j.forwards (jump_bytes z j)) (get_or_default js k zero_jump no_jump lt) in
    let are : (m : ℕ) → m < length js → IsJump (length js) (jump_at js m) = λ m less. c.requires.jumps m no_jump less in
    let few = twice_few js are z is.lawful is.below k lt (sym allowed ∙ c.if-allows.false) in
    omega (arith, own, few)

pub returns-clause-rising : goal.returns-clause-rising
returns-clause-rising c =
    let js = c.args.jumps.now in
    let z = c.args.sizes.now.items in
    let k = c.args.call in
    let s = c.index-size.result.now in
    let is = c.requires.rising in
    let lt : k < length js = omega (arith, c.if-call-jumps.false) in
    let own : s ≡ size_at z k = c.index-size.ensures ∙ get_or_default z k s 8 (omega (arith, lt, is.lawful.count)) in
    let allowed : c.allows.result ≡ is_allowed js z k =
    c.allows.ensures ∙ ap (allows s (get_or js k zero_jump).forwards) (c.bytes_now-bytes.ensures ∙ ap (λ l. jump_bytes l (get_or js k zero_jump)) c.as_slice.ensures.value)
    ∙ ap (λ n. allows n (get_or js k zero_jump).forwards (jump_bytes z (get_or js k zero_jump))) own
    ∙ ap (λ (j : Jump). allows (size_at z k) j.forwards (jump_bytes z j)) (get_or_default js k zero_jump no_jump lt) in
    let are : (m : ℕ) → m < length js → IsJump (length js) (jump_at js m) = λ m less. c.requires.jumps m no_jump less in
    let differs = sym allowed ∙ c.if-allows.false in
    let after = c.double.ensures.sizes ∙ ap (λ n. set z k (2 * n)) own in
    record {
      lawful = subst (AreLawful js) (sym after) (larger_lawful js are z is.lawful is.below k lt differs);
      below = subst (AreBelow js) (sym after) (larger_below js are z is.lawful is.below k lt differs);
      losses = c.double.ensures.losses;
    }

pub returns-clause-lost : goal.returns-clause-lost
returns-clause-lost c =
    let js = c.args.jumps.now in
    let z = c.args.sizes.now.items in
    let k = c.args.call in
    let s = c.index-size.result.now in
    let is = c.requires.rising in
    let lt : k < length js = omega (arith, c.if-call-jumps.false) in
    let sum = sum_by-set (λ n. 8 - n) z k (2 * s) 8 (omega (arith, lt, is.lawful.count)) in
    let own : s ≡ size_at z k = c.index-size.ensures ∙ get_or_default z k s 8 (omega (arith, lt, is.lawful.count)) in
    omega (arith, sum, own, ap all_lost c.double.ensures.sizes)
