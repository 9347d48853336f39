use Rattle.std.proofs.Common.{◌∙◌, ap, ℕ, Bool, List, [], map, Vec, Global}
use Rattle.lk_tables.specs.declared.commons.BoundCommon.{BoundCommon}
use Rattle.lk_tables.specs.Ranks.{no_rank}
use Rattle.tests_image.proofs.NoFiles.{none_bound}
use Rattle.tests_image.proofs.tests.addresses.no_names.Goals as goal

pub returns : goal.returns
returns c =
    let commons : List (Vec BoundCommon Global) → List (List BoundCommon) = λ rows. map (λ list. list.items) rows in
    let is = c.of.ensures
    ∙ ap (λ (xs : List Bool). record { discarded = xs; ranks = c.new-2.result.items; entry = no_rank; commons = commons c.new-3.result.items }) c.new.ensures.items
    ∙ ap (λ (xs : List ℕ). record { discarded = []; ranks = xs; entry = no_rank; commons = commons c.new-3.result.items }) c.new-2.ensures.items
    ∙ ap (λ (xs : List (Vec BoundCommon Global)). record { discarded = []; ranks = []; entry = no_rank; commons = commons xs }) c.new-3.ensures.items
    ∙ none_bound in
    ([], [], is)
