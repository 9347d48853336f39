use Rattle.std.proofs.Common.{List, Bool, length, ap, ◌∙◌}
use Rattle.std.specs.List.{filter, range_with_len}
use Rattle.icf_part.specs.Chosen.{is_shared}
use Rattle.icf_part.proofs.SharedItems.{shared_are}
use Rattle.icf_part.proofs.sharing.shared_items.Goals as goal

pub returns : goal.returns
returns c =
    let bytes = c.args.bytes.now in
    shared_are bytes c.in_ok-list.list.items c.in_ok-shared.shared.items c.in_ok-shared.ensures
    (c.in_ok-list.ensures ∙ ap (λ (l : List Bool). filter (is_shared bytes l) (range_with_len 0 (length bytes))) c.as_slice.ensures.value)
