use Rattle.std.proofs.Common.{◌++◌, ◌∷◌, [], ℕ, List, take, map, ap, sym, ◌∙◌, arith, append_assoc}
use Rattle.std.specs.Borrow.{Bor}
use Rattle.std.proofs.lemmas.List.{map-append, take_all, take_more}
use Rattle.name_numbers.specs.Texts.{lent_texts}
use Rattle.icf_part.proofs.numbering.push_texts.Goals as goal

pub loop-n-preserved : goal.loop-n-preserved
loop-n-preserved c =
    let lent : Bor (List ℕ) → List ℕ = λ t. t.now in
    let old = lent_texts c.args.texts.now.items in
    ap (map lent) c.in_ok-push.ensures.items ∙ map-append lent c.loop-n.texts.items (c.row.result ∷ [])
    ∙ ap (λ l. l ++ c.row.result.now ∷ []) c.loop-n.invariant ∙ ap (λ t. (old ++ take c.loop-n.n c.args.rows.now) ++ t ∷ []) c.row.ensures
    ∙ append_assoc old (take c.loop-n.n c.args.rows.now) _
    ∙ ap (λ l. old ++ l) (sym (take_more c.args.rows.now c.loop-n.n [] (omega (arith, c.count-n-end.ensures))))

pub returns : goal.returns
returns c = c.loop-n.invariant ∙ ap (λ l. lent_texts c.args.texts.now.items ++ l) (take_all c.loop-n.n c.args.rows.now (omega (arith, c.count-n-end.ensures)))
