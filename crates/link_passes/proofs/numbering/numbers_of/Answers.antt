use Rattle.std.proofs.Common.{Option, subst, ◌∙◌}
use Rattle.std.specs.Prelude.{IfSome}
use Rattle.lk_tables.specs.NameNumbers.{NumbersNames, heads_alone}
use Rattle.lk_tables.specs.TablesView.{files_of}
use Rattle.link_passes.proofs.numbering.numbers_of.Goals as goal

pub unwrap-requires : goal.unwrap-requires
unwrap-requires c = c.names.ensures.some ∙ c.requires

pub returns : goal.returns
returns c =
    let P : Option _ → Type 0 = λ o. IfSome o (λ names. NumbersNames (heads_alone (files_of c.args.tables.now)) names.now) in
    subst P c.unwrap.ensures c.names.ensures.numbers
