use Rattle.std.proofs.Common.{ℕ, ◌<◌, ◌∙◌, List, All, map, sym, ap, subst}
use Rattle.std.specs.List.{range_with_len}
use Rattle.lk_tables.specs.BindingView.{binding_view}
use Rattle.lk_tables.specs.Files.{section_total}
use Rattle.lk_tables.specs.LinkerSymbols.{all_named}
use Rattle.lk_tables.specs.TablesView.{files_of}
use Rattle.sec_graph.specs.declared.pairs.Pair.{Pair}
use Rattle.sec_graph.specs.NamedSections.{IsKnown}
use Rattle.sec_graph.proofs.NamedLists.{asked_within, named_lists}
use Rattle.sec_graph.proofs.named_sections.named_sections.Goals as goal

pub names_of-requires : goal.names_of-requires
names_of-requires g c =
    let files = files_of c.args.tables.now in
    let b = binding_view c.args.binding.now in
    let P : List ℕ → Type 0 = All (λ n. n < section_total files) in
    subst P (sym (c.as_slice.ensures.value ∙ c.in_ok-asked.ensures)) (asked_within files b c.requires.bound c.prove_few.ensures)

pub returns : goal.returns
unfolding all_named
returns g c =
    let files = files_of c.args.tables.now in
    let b = binding_view c.args.binding.now in
    let names = c.in_ok-names.names in
    let all = range_with_len 0 (section_total files) in
    let P : List ℕ → Type 0 = All (IsKnown files b names) in
    record {
      rises = c.in_ok-pairs.ensures.rises;
      lists = λ name n is. ap (map (λ (p : Pair). p.to)) (c.in_ok-pairs.ensures.same n) ∙ named_lists files b names name n all c.in_ok-names.ensures.noted is;
      known = subst P (c.as_slice.ensures.value ∙ c.in_ok-asked.ensures) c.in_ok-names.ensures.known;
    }
