use Rattle.std.proofs.Common.{◌≡◌, rules, subst, sym}
use Rattle.lk_base.specs.Lines.{IsOneLine, defect_line}
use Rattle.lk_base.proofs.ShownBytes.{bytes_from, defect_line-IsOneLine}
use Rattle.lk_base.proofs.lines.line_of.Goals as goal

pub returns-clause-one_line : goal.returns-clause-one_line
returns-clause-one_line c =
    let whole : c.push.new.self.items ≡ defect_line c.args.defect.now c.args.file.now c.args.name.now c.args.other.now = search rules in
    subst IsOneLine (sym whole)
    (defect_line-IsOneLine c.args.defect.now c.args.file.now c.args.name.now c.args.other.now
    (bytes_from c.args.file.now c.type_inv.file) (bytes_from c.args.name.now c.type_inv.name) (bytes_from c.args.other.now c.type_inv.other))
