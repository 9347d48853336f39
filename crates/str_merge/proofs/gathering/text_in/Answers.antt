use Rattle.std.proofs.Common.{ℕ, ◌-◌, List, get_or, take, drop, ap, ◌∙◌}
use Rattle.str_merge.specs.Sites.{cut_text, start_of}
use Rattle.str_merge.proofs.gathering.text_in.Goals as goal

pub returns-clause-value : goal.returns-clause-value
unfolding cut_text
returns-clause-value c =
    let bytes = c.args.cut.now.bytes.now in
    let k = c.args.k in
    c.part_of.ensures.value
    ∙ ap (λ s. take (get_or c.as_slice-ends.result.now k 0 - s) (drop s bytes)) c.start_of.ensures.value
    ∙ ap (λ (l : List ℕ). take (get_or l k 0 - start_of l k) (drop (start_of l k) bytes)) c.as_slice-ends.ensures.value
