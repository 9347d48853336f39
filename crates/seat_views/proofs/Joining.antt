-- What a caller needs who gives a seat to each of several workers and joins what they give back.
use Rattle.std.proofs.Math.Seq.{get_or-append_right}
use Rattle.std.proofs.Common.{◌≡◌, ℕ, ◌-◌, ◌<◌, Result, Ok, Err, IfOk, List, [], ◌∷◌, ◌++◌, length, get_or, All, sym, ap, ◌∙◌, subst, arith, length-append}

-- two facts of one answer are a third
pub IfOk-both : {X E : Type 0} (r : Result X E) (P Q R : X → Type 0) → ((x : X) → P x → Q x → R x) → IfOk r P → IfOk r Q → IfOk r R
IfOk-both (Ok x) P Q R f p q = f x p q
IfOk-both (Err e) P Q R f p q = tt

-- what holds of each element holds of one in the midst
pub among : {X : Type 0} (P : X → Type 0) (done rest whole : List X) (x : X) → done ++ x ∷ rest ≡ whole → All P whole → P x
among P done rest whole x e all =
    let count = ap length (sym e) in
    let lt : length done < length whole = omega (arith, count, length-append done (x ∷ rest)) in
    let none : length done - length done ≡ 0 = omega arith in
    let here : get_or whole (length done) x ≡ x =
    ap (λ l. get_or l (length done) x) (sym e) ∙ get_or-append_right done (x ∷ rest) (length done) x (omega arith)
    ∙ ap (λ k. get_or (x ∷ rest) k x) none in
    subst P here (all (length done) x lt)
