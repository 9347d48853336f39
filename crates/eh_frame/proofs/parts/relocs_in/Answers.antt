use Rattle.std.proofs.Common.{◌≤◌, ◌∙◌, inl, inr}
use Rattle.std.proofs.lemmas.Bool.{cases_lt}
use Rattle.std.proofs.lemmas.Result.{IfOk-weaker}
use Rattle.lk_tables.specs.Files.{no_reloc}
use Rattle.eh_frame.proofs.RelocParts.{part_is, starts_first}
use Rattle.eh_frame.proofs.parts.relocs_in.Goals as goal

pub part-requires-clause-order : goal.part-requires-clause-order
part-requires-clause-order c =
    let s = c.relocs_before-start in
    let t = c.relocs_before-stop in
    elim (cases_lt t.result s.result) [
      | inl lt ↦ absurd (starts_first c.args.relocs.now c.args.from c.args.end s.result t.result no_reloc c.requires.forward s.ensures.bound s.ensures.before t.ensures.next lt)
      | inr le ↦ le
    ]

pub returns : goal.returns
returns c =
    let s = c.relocs_before-start in
    let t = c.relocs_before-stop in
    let order : s.result ≤ t.result = elim (cases_lt t.result s.result) [
      | inl lt ↦ absurd (starts_first c.args.relocs.now c.args.from c.args.end s.result t.result no_reloc c.requires.forward s.ensures.bound s.ensures.before t.ensures.next lt)
      | inr le ↦ le
    ] in
    IfOk-weaker c.part.result _ _
    (λ list is. is ∙ part_is c.args.relocs.now c.args.from c.args.end s.result t.result order t.ensures.bound s.ensures.before s.ensures.next t.ensures.before t.ensures.next)
    c.part.ensures
