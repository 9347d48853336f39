use Rattle.std.proofs.Common.{◌≡◌, ◌∷◌, [], ℕ, List, All, Some, get_or, take, cond, sym, ap, subst, arith}
use Rattle.std.specs.Borrow.{Bor}
use Rattle.std.specs.Str.{bytes_eq}
use Rattle.std.proofs.lemmas.List.{take_all, take_more}
use Rattle.std.proofs.lemmas.List.Elements.{All-append, All-cons, All-nil, All-weaker}
use Rattle.link_sections.specs.InputSections.{InputSection, input_at}
use Rattle.lk_tables.specs.BindingView.{binding_view}
use Rattle.lk_tables.specs.TablesView.{files_of}
use Rattle.sec_graph.specs.NamedSections.{IsKnown, noted}
use Rattle.sec_graph.proofs.NamedLists.{known_more, known_own, noted_more}
use Rattle.sec_graph.proofs.named_sections.names_of.Goals as goal

pub loop-i-preserved : goal.loop-i-preserved
loop-i-preserved c =
    let files = files_of c.args.tables.now in
    let b = binding_view c.args.binding.now in
    let asked = c.args.asked.now in
    let i = c.loop-i.i in
    let n = get_or asked i 0 in
    let old = c.loop-i.names in
    let new = c.insert.new.self in
    let name = c.input_section-input.result.name.now in
    let own : (input_at files b n).name ≡ name = ap (λ (s : InputSection). s.name) (sym c.input_section-input.ensures) in
    let updated : (q : Bor (List ℕ)) → noted new q.now ≡ cond (bytes_eq name q.now) (Some n) (noted old q.now) = λ q. c.in_ok-insert.ensures.updates.0 q in
    let Old : ℕ → Type 0 = IsKnown files b old in
    let New : ℕ → Type 0 = IsKnown files b new in
    let P : List ℕ → Type 0 = All New in (
      noted_more files b old new name n c.loop-i.invariant.0 updated own,
      subst P (sym (take_more asked i 0 c.loop-i-test.true)) (All-append New (take i asked) (n ∷ [])
          (All-weaker Old New (λ m held. known_more files b old new name n m updated held) (take i asked) c.loop-i.invariant.1)
          (All-cons New n [] (known_own files b old new name n updated (c.requires i 0 c.loop-i-test.true) own) (All-nil New))),
    )

pub returns-clause-known : goal.returns-clause-known
returns-clause-known c =
    let P : List ℕ → Type 0 = All (IsKnown (files_of c.args.tables.now) (binding_view c.args.binding.now) c.loop-i.names) in
    subst P (take_all c.loop-i.i c.args.asked.now (omega arith)) c.loop-i.invariant.1
