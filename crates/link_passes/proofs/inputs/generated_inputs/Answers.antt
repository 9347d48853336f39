use Rattle.std.proofs.Common.{◌∙◌, List, ℕ, map, ap}
use Rattle.link_passes.proofs.Generated.{bytes_out, names_out}
use Rattle.link_passes.proofs.inputs.generated_inputs.Goals as goal

pub returns-clause-names : goal.returns-clause-names
returns-clause-names c =
    names_out c.in_ok-files.files.items ∙ ap (λ (l : List (List ℕ × List ℕ)). map (λ o. o.0) l) c.in_ok-files.ensures.objects

pub returns-clause-contents : goal.returns-clause-contents
returns-clause-contents c =
    bytes_out c.in_ok-files.files.items ∙ ap (λ (l : List (List ℕ × List ℕ)). map (λ o. o.1) l) c.in_ok-files.ensures.objects
