use Rattle.std.proofs.Common.{◌∷◌, ◌++◌, [], ℕ, List, map, ap, ◌∙◌, arith}
use Rattle.std.specs.Borrow.{Bor}
use Rattle.std.proofs.lemmas.List.{map-append}
use Rattle.lk_base.proofs.Loops.{mapped_all, mapped_at}
use Rattle.lk_tables.specs.TablesView.{files_of}
use Rattle.sec_graph.specs.Foldable.{contents_at}
use Rattle.sec_graph.proofs.fold_lists.contents_of.Goals as goal

pub loop-i-preserved : goal.loop-i-preserved
loop-i-preserved c =
    let lent : Bor (List ℕ) → List ℕ = λ t. t.now in
    mapped_at (contents_at (files_of c.args.tables.now)) c.args.sections.now c.loop-i.i 0 (map lent c.loop-i.list.items) (map lent c.push.new.self.items)
    c.loop-i-test.true c.loop-i.invariant
    (ap (map lent) c.in_ok-push.ensures.items ∙ map-append lent c.loop-i.list.items (c.section_contents.result ∷ []) ∙ ap (λ t. map lent c.loop-i.list.items ++ t ∷ []) c.section_contents.ensures)

pub returns : goal.returns
returns c = mapped_all (contents_at (files_of c.args.tables.now)) c.args.sections.now c.loop-i.i _ (omega arith) c.loop-i.invariant
