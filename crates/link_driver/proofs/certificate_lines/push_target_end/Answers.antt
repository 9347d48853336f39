use Rattle.std.proofs.Common.{◌∙◌, ◌++◌, ◌∷◌, [], append_assoc, ap, codes, decimal}
use Rattle.link_driver.proofs.certificate_lines.push_target_end.Goals as goal

pub returns : goal.returns
returns c =
    c.in_ok-push.ensures.items ∙ ap (λ l. l ++ 10 ∷ []) c.in_ok-push_count.ensures
    ∙ append_assoc c.args.text.now.items (codes "differ target " ++ decimal c.args.k) (10 ∷ [])
