use Rattle.std.proofs.Common.{◌≡◌, ◌++◌, ◌∷◌, [], get_or, ap, sym, ◌∙◌, arith, rules}
use Rattle.std.specs.Global.{Vec}
use Rattle.symbol_table.specs.declared.symbols.TablePlace.{TablePlace}
use Rattle.map_file.specs.Folded.{one_if}
use Rattle.map_file.specs.MapText.{is_output}
use Rattle.map_file.specs.MapView.{lists_view}
use Rattle.map_file.proofs.FoldedSteps.{pushed_at}
use Rattle.map_file.proofs.folded.push_at.Goals as goal

pub returns-in_ok-push-clause-each : goal.returns-in_ok-push-clause-each
returns-in_ok-push-clause-each c = λ number less.
    let old = c.args.lists.now.items in
    let k = c.in-Output.number in
    let section = c.args.section in
    let own : c.push.new.self.items ≡ (get_or old k c.index_mut.result.now).items ++ section ∷ [] =
    c.in_ok-push.ensures.items ∙ ap (λ (v : Vec _). v.items ++ section ∷ []) c.index_mut.ensures.value in
    pushed_at old k section c.push.new.self c.index_mut.result.now (search (rules, arith)) own number less
    ∙ ap (λ (p : TablePlace). get_or (lists_view old) number [] ++ one_if (is_output number p) section) (sym c.in-Output.is)
