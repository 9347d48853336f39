use Rattle.std.proofs.Common.{◌≡◌, filter, ap, arith, rules}
use Rattle.std.specs.List.{sum_by}
use Rattle.std.proofs.lemmas.Fn.{filter_same}
use Rattle.link_sections.specs.Cuts.{kept_before}
use Rattle.link_sections.specs.CutsView.{cut_views}
use Rattle.layout.specs.CutsSoFar.{all_kept, kept_if_ended, reaches}
use Rattle.layout.proofs.CutsPassed.{ended_all, ended_split}
use Rattle.layout.proofs.cutting.settle.Goals as goal

pub returns-clause-kepts : goal.returns-clause-kepts
returns-clause-kepts c o le =
    let old = c.args.passed.now.reaching.items in
    let is : c.retain.new.self.items ≡ filter (reaches c.args.offset) old =
    filter_same _ (reaches c.args.offset) _ (λ x b f' k. search rules) old c.retain.new.self.items c.retain.ensures.filtered in
    omega (arith, ended_split c.args.offset o old le, ap (λ l. kept_before (cut_views l) o) is, c.kept_by_ended.ensures.value, ap (λ l. sum_by (kept_if_ended c.args.offset) l) c.deref.ensures.value)

pub returns-clause-all : goal.returns-clause-all
returns-clause-all c =
    let old = c.args.passed.now.reaching.items in
    let is : c.retain.new.self.items ≡ filter (reaches c.args.offset) old =
    filter_same _ (reaches c.args.offset) _ (λ x b f' k. search rules) old c.retain.new.self.items c.retain.ensures.filtered in
    omega (arith, ended_all c.args.offset old, ap (λ l. all_kept (cut_views l)) is, c.kept_by_ended.ensures.value, ap (λ l. sum_by (kept_if_ended c.args.offset) l) c.deref.ensures.value)
