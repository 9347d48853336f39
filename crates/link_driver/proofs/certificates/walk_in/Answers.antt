use Rattle.std.proofs.Common.{◌<◌, ◌∙◌, All, List, ℕ, ap₂, arith, length, sym, subst}
use Rattle.std.specs.Prelude.{IfOk, IfSome}
use Rattle.lk_tables.specs.BindingView.{binding_view}
use Rattle.lk_tables.specs.TablesView.{files_of}
use Rattle.link_sections.specs.Edges.{ends_of}
use Rattle.why_chain.specs.Walks.{live_chain, sections_in}
use Rattle.link_driver.proofs.Certifying.{walks_count}
use Rattle.link_passes.proofs.Handing.{on_each}
use Rattle.link_driver.proofs.certificates.walk_in.Goals as goal

pub why_live-requires-clause-roots : goal.why_live-requires-clause-roots
why_live-requires-clause-roots c =
    let files = files_of c.args.tables.now in
    let ends = ends_of c.in_ok-walks.walks in
    let count = walks_count files (binding_view c.args.binding.now) ends c.in_ok-walks.ensures.value in
    let P : List ℕ → Type 0 = λ l. All (λ r. r < length ends) l in
    let Q : ℕ → Type 0 = λ n. All (λ r. r < n) c.args.graph.now.roots.items in
    subst P (sym c.as_slice.ensures.value) (subst Q (sym count) c.requires.roots)

pub why_live-requires-clause-target : goal.why_live-requires-clause-target
why_live-requires-clause-target c =
    let ends = ends_of c.in_ok-walks.walks in
    let count = walks_count (files_of c.args.tables.now) (binding_view c.args.binding.now) ends c.in_ok-walks.ensures.value in
    omega (arith, c.requires.target, count)

pub returns-clause-walk : goal.returns-clause-walk
returns-clause-walk c =
    on_each c.why_live.result (λ chain is.
    is ∙ ap₂ (λ (roots : List ℕ) (ends : List (List ℕ)). live_chain roots ends c.args.target) c.as_slice.ensures.value c.in_ok-walks.ensures.value)
    c.why_live.ensures.chain

pub returns-clause-within : goal.returns-clause-within
returns-clause-within c =
    let ends = ends_of c.in_ok-walks.walks in
    let P : ℕ → Type 0 = λ n. IfOk c.why_live.result (λ chain. IfSome chain (λ w. All (λ s. s < n) (sections_in w))) in
    subst P (walks_count (files_of c.args.tables.now) (binding_view c.args.binding.now) ends c.in_ok-walks.ensures.value) c.why_live.ensures.within
