use Rattle.link_sections.specs.Views.{binding_in, laid_in, leaders_in}
use Rattle.link_driver.proofs.CodeLaws.{prove_code_stands}
use Rattle.link_driver.proofs.code.prove_code_stands.Goals as goal

pub returns : goal.returns
returns c =
    let v = c.args.view.now in
    prove_code_stands v.tables.now (binding_in v) (leaders_in v) (laid_in v) v.sound c.requires.cuts c.requires.done
