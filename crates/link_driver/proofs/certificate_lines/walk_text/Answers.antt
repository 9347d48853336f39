use Rattle.std.proofs.Common.{◌<◌, All, List, Option, ℕ, sym, subst}
use Rattle.std.specs.Prelude.{IfSome}
use Rattle.lk_tables.specs.BindingView.{binding_view}
use Rattle.lk_tables.specs.Files.{section_total}
use Rattle.lk_tables.specs.TablesView.{files_of}
use Rattle.why_chain.specs.declared.chains.LiveChain.{LiveChain}
use Rattle.why_chain.specs.Walks.{sections_in}
use Rattle.link_passes.specs.Contents.{names_of}
use Rattle.link_driver.proofs.Certifying.{no_walk, walk_is}
use Rattle.link_passes.proofs.Handing.{on_each}
use Rattle.link_driver.proofs.certificate_lines.walk_text.Goals as goal

pub returns-in_default : goal.returns-in_default
returns-in_default c =
    on_each c.name_line.result (λ text is.
    no_walk (names_of c.args.names.now) (files_of c.args.tables.now) (binding_view c.args.binding.now) c.args.name.now c.args.chain.now text.items c.in_default.is is)
    c.name_line.ensures

pub push_walk-requires : goal.push_walk-requires
push_walk-requires c =
    let n = section_total (files_of c.args.tables.now) in
    let P : Option LiveChain → Type 0 = λ o. IfSome o (λ w. All (λ s. s < n) (sections_in w)) in
    let Q : List ℕ → Type 0 = λ l. All (λ s. s < n) l in
    subst Q (sym c.as_slice.ensures.value) (subst P c.in-Some.is c.requires)

pub returns : goal.returns
returns c =
    walk_is (names_of c.args.names.now) (files_of c.args.tables.now) (binding_view c.args.binding.now) c.args.name.now c.in-Some.chain c.args.chain.now c.as_slice.result.now
    c.in_ok-text.text.items c.push_walk.new.text.items c.in-Some.is c.as_slice.ensures.value c.in_ok-text.ensures c.in_ok-push_walk.ensures
