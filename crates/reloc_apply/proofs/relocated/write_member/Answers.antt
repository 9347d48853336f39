use Rattle.std.proofs.Common.{◌-◌, ◌∙◌, ℕ, ap, arith, get_or, subst, sym, Some, None}
use Rattle.std.specs.Prelude.{if◌then◌else◌}
use Rattle.lk_base.specs.declared.abi.TheConstants.{IMAGE_BASE}
use Rattle.link_sections.specs.declared.members.Content.{Content}
use Rattle.link_sections.specs.declared.members.Content.TheVariants.{Pool, Got}
use Rattle.link_sections.specs.declared.members.Member.{Member}
use Rattle.link_sections.specs.Views.{binding_in, files_in, laid_in, leaders_in}
use Rattle.reloc_apply.specs.Founds.{no_member}
use Rattle.reloc_apply.specs.Image.{ShowsFrom}
use Rattle.reloc_apply.specs.Relocated.{content_pieces, member_pieces, written_in}
use Rattle.reloc_apply.proofs.MemberFacts.{written}
use Rattle.reloc_apply.proofs.relocated.write_member.Goals as goal

pub write_section-requires-clause-number : goal.write_section-requires-clause-number
write_section-requires-clause-number c =
    let view = c.args.view.now in
    let is = ap (λ (m : Member). m.content) (sym c.member_at-member.ensures) ∙ c.in-Section.is in
    (view.sound.sections c.args.k no_member c.requires.member c.in-Section.section is).number

pub write_section-requires-clause-laid : goal.write_section-requires-clause-laid
write_section-requires-clause-laid c = λ bits.
    let view = c.args.view.now in
    let n = c.in-Section.section in
    let is = ap (λ (m : Member). m.content) (sym c.member_at-member.ensures) ∙ c.in-Section.is in
    let own = ap (written_in (files_in view) (binding_in view) (leaders_in view) (laid_in view)) is ∙ ap (λ d. if d then Some n else None) bits in
    (written (files_in view) (binding_in view) (leaders_in view) (laid_in view) c.args.k n view.sound c.requires.member own).laid_is

pub write_section-requires-clause-place : goal.write_section-requires-clause-place
write_section-requires-clause-place c =
    let view = c.args.view.now in
    let is = ap (λ (m : Member). m.content) (sym c.member_at-member.ensures) ∙ c.in-Section.is in
    ap (λ s. s - IMAGE_BASE)
    (ap (λ (m : Member). m.start) c.member_at-member.ensures ∙ (view.sound.sections c.args.k no_member c.requires.member c.in-Section.section is).start)

pub write_pool-requires-clause-number : goal.write_pool-requires-clause-number
write_pool-requires-clause-number c =
    let view = c.args.view.now in
    let is = ap (λ (m : Member). m.content) (sym c.member_at-member.ensures) ∙ c.in-Pool.is in
    (view.sound.pools c.args.k no_member c.requires.member c.in-Pool.pool is).number

pub write_pool-requires-clause-room : goal.write_pool-requires-clause-room
write_pool-requires-clause-room c =
    let view = c.args.view.now in
    let is = ap (λ (m : Member). m.content) (sym c.member_at-member.ensures) ∙ c.in-Pool.is in
    let size = (view.sound.pools c.args.k no_member c.requires.member c.in-Pool.pool is).size in
    let start = ap (λ (m : Member). m.start) c.member_at-member.ensures in
    let inside = view.sound.inside c.args.k no_member c.requires.member in
    let small = view.sound.small in
    omega (arith, size, start, inside, small)

pub write_table-requires-clause-room : goal.write_table-requires-clause-room
write_table-requires-clause-room c =
    let view = c.args.view.now in
    let is = ap (λ (m : Member). m.content) (sym c.member_at-member.ensures) ∙ c.in-Got.is in
    let size = (view.sound.table c.args.k no_member c.requires.member is).size in
    let start = ap (λ (m : Member). m.start) c.member_at-member.ensures in
    let inside = view.sound.inside c.args.k no_member c.requires.member in
    let small = view.sound.small in
    omega (arith, size, start, inside, small)

pub returns-in-Pool : goal.returns-in-Pool
unfolding content_pieces member_pieces
returns-in-Pool c =
    let view = c.args.view.now in
    let m = get_or (laid_in view).members c.args.k no_member in
    let is = ap (λ (x : Member). x.content) (sym c.member_at-member.ensures) ∙ c.in-Pool.is in
    let start = ap (λ (x : Member). x.start - IMAGE_BASE) c.member_at-member.ensures in
    let P : ℕ → Content → Type 0 = λ a x. ShowsFrom c.args.from c.args.block.now c.write_pool.new.block (content_pieces (files_in view) (binding_in view) (leaders_in view) (laid_in view) a x) in
    subst (P (m.start - IMAGE_BASE)) (sym is) (subst (λ a. P a (Pool c.in-Pool.pool)) start c.write_pool.ensures)

pub returns-in-Got : goal.returns-in-Got
unfolding content_pieces member_pieces
returns-in-Got c =
    let view = c.args.view.now in
    let m = get_or (laid_in view).members c.args.k no_member in
    let is = ap (λ (x : Member). x.content) (sym c.member_at-member.ensures) ∙ c.in-Got.is in
    let start = ap (λ (x : Member). x.start - IMAGE_BASE) c.member_at-member.ensures in
    let P : ℕ → Content → Type 0 = λ a x. ShowsFrom c.args.from c.args.block.now c.write_table.new.block (content_pieces (files_in view) (binding_in view) (leaders_in view) (laid_in view) a x) in
    subst (P (m.start - IMAGE_BASE)) (sym is) (subst (λ a. P a Got) start c.write_table.ensures)
