use Rattle.std.proofs.Common.{Bool, map, sym, ap, ◌∙◌}
use Rattle.std.specs.List.{list_any}
use Rattle.std.proofs.lemmas.Bool.{or_left}
use Rattle.lk_tables.specs.Binding.{Bindings}
use Rattle.lk_tables.specs.BindingView.{binding_view}
use Rattle.lk_tables.specs.TablesView.{files_of}
use Rattle.sym_resolve.specs.declared.unbound.Unbound.{Unbound}
use Rattle.sym_resolve.specs.Unbound.{after_linked, linked_of, name_of, names_sections}
use Rattle.sym_resolve.proofs.Linking.{linked_binding}
use Rattle.sym_resolve.proofs.linker.bind_linker.Goals as goal

pub ranks_of-requires : goal.ranks_of-requires
ranks_of-requires g c =
    let test : Unbound → Bool = λ u. names_sections (name_of (files_of c.args.tables.now) u) in
    record {
      index = λ named. c.in_ok-sections.ensures (c.are_sections_named-asked.ensures
          ∙ or_left (list_any test c.as_slice.result.now) (names_sections c.args.entry.now) (ap (list_any test) (c.as_slice.ensures.value ∙ sym c.as_slice-2.ensures.value) ∙ named));
    }

pub returns : goal.returns
returns g c =
    let files = files_of c.args.tables.now in
    let b = binding_view c.args.binding.now in
    let ls = c.as_slice-3.result.now in
    c.set_ranks.ensures
    ∙ ap (λ (n : Bindings). after_linked n ls) c.set_entry_rank.ensures
    ∙ linked_binding files b c.args.entry.now c.entry_rank-rank.result ls c.requires.offered c.entry_rank-rank.ensures
    (c.as_slice-3.ensures.value ∙ c.in_ok-linked.ensures ∙ ap (map (linked_of files b)) (c.as_slice-2.ensures.value ∙ c.in_ok-unbound.ensures))
