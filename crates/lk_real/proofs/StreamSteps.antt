-- What the steps of a stream mean for a sink.
use Rattle.std.proofs.Common.{◌≡◌, refl, sym, subst, arith}
use Rattle.std.specs.Prelude.{Result, Ok, Err, MatchResult}
use Rattle.lk_depot.specs.Faults.{HasCause}
use Rattle.lk_real.specs.RealStream.{RealStream, after_put}

-- What is not shown stays so, whatever the result.
pub either_way : {T E X : Type 0} (x : X) (result : Result T E) → MatchResult result (λ _. x ≡ x) (λ _. x ≡ x)
either_way x (Ok _) = refl
either_way x (Err _) = refl

cause_of : {T E : Type 0} (result : Result T E) (before : RealStream) → HasCause before.faults (after_put before result).faults result
cause_of (Ok x) before = record { later = omega arith; failed = tt }
cause_of (Err e) before = record { later = omega arith; failed = omega arith }

pub put_cause : {T E : Type 0} (result : Result T E) (before after : RealStream) → after ≡ after_put before result → HasCause before.faults after.faults result
put_cause result before after is = subst (λ (s : RealStream). HasCause before.faults s.faults result) (sym is) (cause_of result before)
