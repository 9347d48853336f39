use Rattle.std.proofs.Common.{ℕ, List, Option, ap, sym, subst, ◌∙◌}
use Rattle.link_sections.specs.Addresses.{entry_address, symbol_addresses}
use Rattle.link_sections.specs.GotUses.{HasAllUses}
use Rattle.link_sections.specs.GotView.{entries_of}
use Rattle.link_sections.specs.Sound.{IsSound}
use Rattle.lk_tables.specs.BindingView.{binding_view}
use Rattle.lk_tables.specs.TablesView.{files_of}
use Rattle.link_driver.specs.Linked.{laid_of}
use Rattle.link_driver.proofs.linked.view_of.Goals as goal

pub invariant_of-result : goal.invariant_of-result
invariant_of-result c =
    let e = c.args.executable.now in
    let same = sym c.as_slice-2.ensures.value in
    let P : List (Option ℕ) → Type 0 = λ l. IsSound (files_of e.tables) (binding_view e.binding) l (laid_of e) in
    let U : List (Option ℕ) → Type 0 = λ l. HasAllUses (files_of e.tables) l (entries_of e.got) in
    record {
      found = record {
        symbols = e.found.symbols ∙ ap (λ l. symbol_addresses (files_of e.tables) (binding_view e.binding) l (laid_of e)) same;
        entry = e.found.entry ∙ ap (λ l. entry_address (files_of e.tables) (binding_view e.binding) l (laid_of e)) same;
      };
      numbered = c.numbers_of.ensures;
      listed = e.listed;
      uses = subst U same e.uses;
      sound = subst P same e.sound;
    }
