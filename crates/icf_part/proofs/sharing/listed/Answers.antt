use Rattle.std.proofs.Common.{◌≡◌, ℕ, Bool, [], ◌∷◌, ◌++◌, cond, length, sym, ap, ◌∙◌, arith}
use Rattle.std.specs.List.{filter, range_with_len}
use Rattle.icf_part.specs.Chosen.{is_shared}
use Rattle.icf_part.proofs.ChosenRanks.{passing_more}
use Rattle.icf_part.proofs.sharing.listed.Goals as goal

pub loop-a-preserved : goal.loop-a-preserved
loop-a-preserved c =
    let test : ℕ → Bool = is_shared c.args.bytes.now c.args.shared.now in
    let a = c.loop-a.a in
    c.in_ok-push_if.ensures ∙ ap (λ l. l ++ cond c.is_shared.result (a ∷ []) []) c.loop-a.invariant
    ∙ ap (λ b. filter test (range_with_len 0 a) ++ cond b (a ∷ []) []) c.is_shared.ensures ∙ sym (passing_more test a)

pub returns : goal.returns
returns c =
    let same : c.loop-a.a ≡ length c.args.bytes.now = omega arith in
    c.loop-a.invariant ∙ ap (λ n. filter (is_shared c.args.bytes.now c.args.shared.now) (range_with_len 0 n)) same
