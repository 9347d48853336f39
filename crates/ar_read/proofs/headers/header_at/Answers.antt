use Rattle.std.proofs.Common.{sym, ◌∙◌, ap}
use Rattle.std.specs.Prelude.{Ok}
use Rattle.ar_read.specs.Fields.{form_checks, head_of}
use Rattle.lk_tables.proofs.Passing.{first_from_err, err_from_first, ok_from_none}
use Rattle.ar_read.proofs.Walk.{header_from}
use Rattle.ar_read.proofs.headers.header_at.Goals as goal

pub returns-clause-found : goal.returns-clause-found
returns-clause-found c = header_from c.args.bytes.now c.args.off c.read_header.result c.read_header.ensures.value

pub returns-clause-only : goal.returns-clause-only
returns-clause-only c = λ head is.
    c.read_header.ensures.value ∙ ok_from_none (form_checks c.args.bytes.now c.args.off) (head_of c.args.bytes.now c.args.off) is.sound
    ∙ ap Ok (sym is.fields)

pub returns-clause-refused : goal.returns-clause-refused
returns-clause-refused c = λ flaw is.
    first_from_err (form_checks c.args.bytes.now c.args.off) (head_of c.args.bytes.now c.args.off) flaw (sym c.read_header.ensures.value ∙ is)

pub returns-clause-broken : goal.returns-clause-broken
returns-clause-broken c = λ flaw is.
    c.read_header.ensures.value ∙ err_from_first (form_checks c.args.bytes.now c.args.off) (head_of c.args.bytes.now c.args.off) flaw is
