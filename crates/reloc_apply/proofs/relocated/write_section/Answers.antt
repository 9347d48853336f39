use Rattle.std.proofs.Common.{◌-◌, ◌≡◌, ◌∙◌, ◌∷◌, ℕ, Bool, List, [], ap, arith, subst, sym, true}
use Rattle.std.specs.Prelude.{if◌then◌else◌}
use Rattle.lk_base.specs.declared.abi.TheConstants.{IMAGE_BASE}
use Rattle.link_sections.specs.LaidOut.{start_at}
use Rattle.link_sections.specs.Views.{binding_in, files_in, laid_in, leaders_in}
use Rattle.reloc_apply.specs.Image.{ShowsFrom, piece}
use Rattle.reloc_apply.specs.Relocated.{content_pieces, has_bits, section_bytes}
use Rattle.reloc_apply.specs.Sites.{IsOver}
use Rattle.reloc_apply.proofs.ScanSteps.{both_over, first_is, laid_once}
use Rattle.reloc_apply.proofs.relocated.write_section.Goals as goal

pub relocate-requires-clause-shown : goal.relocate-requires-clause-shown
relocate-requires-clause-shown c =
    let view = c.args.view.now in
    let s = c.source_of-source.result in
    let is = c.source_of-source.ensures.source in
    let P : List ℕ → Type 0 = λ xs. IsOver c.args.from s.at xs c.args.block.now c.fill_staying.new.block in
    laid_once view s is c.args.from c.args.block.now c.fill_staying.new.block (omega (arith, c.fill_staying.auto.block))
    (subst P (sym (first_is view s is)) c.fill_staying.ensures)

pub returns : goal.returns
unfolding content_pieces
returns c =
    let view = c.args.view.now in
    let s = c.source_of-source.result in
    let is = c.source_of-source.ensures.source in
    let n = c.args.section in
    let bytes : ℕ → List ℕ = λ m. section_bytes (files_in view) (binding_in view) (leaders_in view) (laid_in view) m in
    let P : List ℕ → Type 0 = λ xs. IsOver c.args.from s.at xs c.args.block.now c.fill_staying.new.block in
    let Q : ℕ → Type 0 = λ m. IsOver c.args.from (start_at (laid_in view) m - IMAGE_BASE) (bytes m) c.args.block.now c.relocate.new.block in
    let R : ℕ → Type 0 = λ a. IsOver c.args.from a (bytes s.site.section) c.args.block.now c.relocate.new.block in
    let S : ℕ → Type 0 = λ a. IsOver c.args.from a (bytes n) c.args.block.now c.relocate.new.block in
    let B : Bool → Type 0 = λ d. ShowsFrom c.args.from c.args.block.now c.relocate.new.block (if d then piece c.args.at (bytes n) ∷ [] else []) in
    let shown = both_over view s is c.args.from c.args.block.now c.fill_staying.new.block c.relocate.new.block (omega (arith, c.fill_staying.auto.block))
    (subst P (sym (first_is view s is)) c.fill_staying.ensures) c.relocate.ensures in
    let own = subst S (sym c.requires.place) (subst Q c.source_of-source.ensures.section (subst R is.at shown)) in
    let bits : has_bits (files_in view) (binding_in view) (leaders_in view) (laid_in view) n ≡ true =
    ap (λ m. has_bits (files_in view) (binding_in view) (leaders_in view) (laid_in view) m) (sym c.site_of.ensures.section) ∙ sym c.has_bits.ensures ∙ c.if-not-has_bits.false in
    subst B (sym bits) (omega (arith, c.fill_staying.auto.block, c.relocate.auto.block), own)
