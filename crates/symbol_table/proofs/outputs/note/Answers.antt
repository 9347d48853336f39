use Rattle.std.proofs.Common.{Some, ◌&&◌, ◌==◌, ap, ◌∙◌}
use Rattle.std.specs.Prelude.{if◌then◌else◌}
use Rattle.std.specs.Str.{bytes_eq}
use Rattle.lk_tables.specs.Classes.{class_no}
use Rattle.symbol_table.specs.Noted.{HeldKey, noted}
use Rattle.symbol_table.proofs.outputs.note.Goals as goal
use Rattle.symbol_table.proofs.NotedSteps.{by_class_first}

pub returns : goal.returns
unfolding noted
returns c = λ name class.
    let q : HeldKey = (record { ref_ptr = (0, 0); now = name }, class) in
    c.in_ok-insert.ensures.updates.0 q
    ∙ ap (λ k. if bytes_eq c.args.output.now.name.now name && k == class then Some c.args.number else noted c.args.known.now name class) c.class_no.ensures
    ∙ ap (λ t. if t then Some c.args.number else noted c.args.known.now name class) (by_class_first c.args.output.now.name.now name (class_no c.args.output.now.class) class)
