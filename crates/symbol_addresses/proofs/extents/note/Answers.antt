use Rattle.std.proofs.Common.{ℕ, ◌∙◌, ap, Some, Bor, List}
use Rattle.std.specs.Prelude.{if◌then◌else◌}
use Rattle.std.specs.Str.{bytes_eq}
use Rattle.symbol_addresses.specs.Noted.{noted}
use Rattle.symbol_addresses.proofs.extents.note.Goals as goal

pub returns : goal.returns
unfolding noted
returns c = λ name.
    let q : Bor (List ℕ) = record { ref_ptr = (0, 0); now = name } in
    let place = c.args.place.now in
    c.in_ok-insert.ensures.updates.0 q
    ∙ ap (λ n. if bytes_eq place.name.now name then Some (record { start = n; end = place.end }) else noted c.args.known.now name) c.first_start.ensures
