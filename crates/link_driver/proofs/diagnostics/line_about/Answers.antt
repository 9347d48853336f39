use Rattle.std.proofs.Common.{◌≡◌, true, rules, subst, sym}
use Rattle.link_driver.specs.Link.{about}
use Rattle.link_driver.specs.OneLine.{is_line}
use Rattle.link_driver.proofs.OneLine.{about_is_line}
use Rattle.lk_base.proofs.ShownBytes.{bytes_from}
use Rattle.link_driver.proofs.diagnostics.line_about.Goals as goal

pub invariant_of-result : goal.invariant_of-result
invariant_of-result c =
    let whole : c.push.new.self.items ≡ about c.args.text.now c.args.name.now = search rules in
    record {
      one = subst (λ xs. is_line xs ≡ true) (sym whole)
          (about_is_line c.args.text.now c.args.name.now c.requires (bytes_from c.args.name.now c.type_inv.name));
    }
