use Rattle.std.proofs.Common.{◌≡◌, ℕ, Some, None, List, [], ◌∷◌, sym, ap, ◌∙◌, subst}
use Rattle.claim_core.specs.declared.events.Event.{Event}
use Rattle.claim_core.specs.Events.{AllInRow}
use Rattle.lk_base.specs.Firsts.{BeginsWith}
use Rattle.lk_base.specs.declared.defects.Defect.{Defect}
use Rattle.lk_tables.specs.Binding.{Bindings, duplicate_defects, first_phase}
use Rattle.lk_tables.specs.BindingView.{binding_view}
use Rattle.lk_tables.specs.BoundNames.{bindings, entry_defects}
use Rattle.lk_tables.specs.TablesView.{files_of}
use Rattle.sym_resolve.specs.Claims.{claims}
use Rattle.sym_resolve.proofs.Ends.{bindings_are, duplicate_found, entry_missing, entry_there, first_passes, first_stops, offered_again}
use Rattle.sym_resolve.proofs.Meaning.{claimed_row, claims_in_row}
use Rattle.sym_resolve.proofs.binding.bind_names.Goals as goal

pub least_offers-requires-clause-row : goal.least_offers-requires-clause-row
least_offers-requires-clause-row g c = λ κs bound.
    let files = files_of c.args.tables.now in
    let P : List Event → Type 0 = AllInRow c.symbol_count-words.result in
    let Q : ℕ → Type 0 = λ k. AllInRow k (claims files c.args.discarded.now) in
    subst P (sym (c.as_slice-2.ensures.value ∙ c.in_ok-offers.ensures)) (subst Q (sym c.symbol_count-words.ensures) (claims_in_row files c.args.discarded.now))

pub returns-in-Some-clause-goes : goal.returns-in-Some-clause-goes
returns-in-Some-clause-goes g c =
    let files = files_of c.args.tables.now in
    let gone = c.args.discarded.now in
    let row = c.in_ok-least.least.items in
    let is = claimed_row files gone row c.symbol_count-words.result c.as_slice-2.result.now c.in_ok-least.ensures.alone c.symbol_count-words.ensures (c.as_slice-2.ensures.value ∙ c.in_ok-offers.ensures) in
    let few = c.prove_few.ensures in
    first_stops (duplicate_defects files gone) (entry_defects files gone c.args.entry.now ∷ []) c.in-Some.duplicate
    (duplicate_found files gone row is c.as_slice-3.result.now c.as_slice-4.result.now (Some c.in-Some.duplicate) few.file_count few.symbol_count c.as_slice-3.ensures.value (c.as_slice-4.ensures.value ∙ c.in_ok-offers.ensures) c.in-Some.ensures)

pub bind_linker-requires-clause-offered : goal.bind_linker-requires-clause-offered
bind_linker-requires-clause-offered g c = λ κs within.
    let files = files_of c.args.tables.now in
    let gone = c.args.discarded.now in
    let entry = c.args.entry.now in
    let rank = c.rank_of_name-rank.ensures gone (c.as_slice-5.ensures.value ∙ c.in_ok-offers.ensures) in
    offered_again files gone entry (binding_view c.in_ok-binding.binding) (c.in_ok-binding.ensures entry rank)

pub returns-then-entry_rank-clause-goes : goal.returns-then-entry_rank-clause-goes
returns-then-entry_rank-clause-goes g c =
    let files = files_of c.args.tables.now in
    let gone = c.args.discarded.now in
    let row = c.in_ok-least.least.items in
    let is = claimed_row files gone row c.symbol_count-words.result c.as_slice-2.result.now c.in_ok-least.ensures.alone c.symbol_count-words.ensures (c.as_slice-2.ensures.value ∙ c.in_ok-offers.ensures) in
    let few = c.prove_few.ensures in
    let entry = c.args.entry.now in
    let once = duplicate_found files gone row is c.as_slice-3.result.now c.as_slice-4.result.now None few.file_count few.symbol_count c.as_slice-3.ensures.value (c.as_slice-4.ensures.value ∙ c.in_ok-offers.ensures) c.in_default.ensures in
    let rank = c.rank_of_name-rank.ensures gone (c.as_slice-5.ensures.value ∙ c.in_ok-offers.ensures) in
    let bound = bindings_are files gone entry (binding_view c.in_ok-binding.binding) (binding_view c.bind_linker.new.binding) (c.in_ok-binding.ensures entry rank) c.in_ok-bind_linker.ensures in
    let own : c.entry_rank.result ≡ (bindings files gone entry).entry = c.entry_rank.ensures ∙ ap (λ (n : Bindings). n.entry) bound in
    let P : Defect → Type 0 = BeginsWith (first_phase (duplicate_defects files gone ∷ entry_defects files gone entry ∷ [])) in
    subst P (sym c.linkwide.ensures)
    ([], first_passes (duplicate_defects files gone) (entry_defects files gone entry ∷ []) once ∙ ap (λ l. first_phase (l ∷ [])) (entry_missing files gone entry c.entry_rank.result own c.if-entry_rank.true))

pub returns-clause-bound : goal.returns-clause-bound
returns-clause-bound g c =
    let files = files_of c.args.tables.now in
    let gone = c.args.discarded.now in
    let entry = c.args.entry.now in
    let rank = c.rank_of_name-rank.ensures gone (c.as_slice-5.ensures.value ∙ c.in_ok-offers.ensures) in
    bindings_are files gone entry (binding_view c.in_ok-binding.binding) (binding_view c.bind_linker.new.binding) (c.in_ok-binding.ensures entry rank) c.in_ok-bind_linker.ensures

pub returns-clause-goes : goal.returns-clause-goes
returns-clause-goes g c =
    let files = files_of c.args.tables.now in
    let gone = c.args.discarded.now in
    let row = c.in_ok-least.least.items in
    let is = claimed_row files gone row c.symbol_count-words.result c.as_slice-2.result.now c.in_ok-least.ensures.alone c.symbol_count-words.ensures (c.as_slice-2.ensures.value ∙ c.in_ok-offers.ensures) in
    let few = c.prove_few.ensures in
    let entry = c.args.entry.now in
    let once = duplicate_found files gone row is c.as_slice-3.result.now c.as_slice-4.result.now None few.file_count few.symbol_count c.as_slice-3.ensures.value (c.as_slice-4.ensures.value ∙ c.in_ok-offers.ensures) c.in_default.ensures in
    let rank = c.rank_of_name-rank.ensures gone (c.as_slice-5.ensures.value ∙ c.in_ok-offers.ensures) in
    let bound = bindings_are files gone entry (binding_view c.in_ok-binding.binding) (binding_view c.bind_linker.new.binding) (c.in_ok-binding.ensures entry rank) c.in_ok-bind_linker.ensures in
    let own : c.entry_rank.result ≡ (bindings files gone entry).entry = c.entry_rank.ensures ∙ ap (λ (n : Bindings). n.entry) bound in
    first_passes (duplicate_defects files gone) (entry_defects files gone entry ∷ []) once
    ∙ first_passes (entry_defects files gone entry) [] (entry_there files gone entry c.entry_rank.result own c.if-entry_rank.false)
