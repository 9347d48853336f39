use Rattle.std.proofs.Common.{take, get_or, ℕ, ◌+◌, ◌∙◌, ap, arith, List, slice_index, subst}
use Rattle.std.specs.Int.{w128}
use Rattle.std.proofs.lemmas.Int.{to_z-of_z}
use Rattle.lk_tables.specs.Files.{no_reloc}
use Rattle.link_sections.specs.Views.{binding_in, files_in, laid_in, leaders_in}
use Rattle.rv_code.specs.Places.{number_of}
use Rattle.reloc_apply.specs.Sites.{IsFresh, bytes_by}
use Rattle.reloc_apply.specs.Values.{value_of}
use Rattle.reloc_apply.proofs.ScanSteps.{first_is, value_is}
use Rattle.reloc_apply.proofs.scanning.value_by.Goals as goal

pub returns : goal.returns
returns c =
    let view = c.args.view.now in
    let s = c.args.source.now in
    let k = c.args.reloc in
    let P : List ℕ → Type 0 = λ xs. IsFresh xs (bytes_by view s k) (c.scan-at.result + 10) in
    let shows = c.slide.ensures (bytes_by view s k) c.scan-at.ensures.shows (subst P (first_is view s c.requires.source) c.scan-at.ensures.fresh) in
    let wide = c.width_in.ensures.value in
    c.value_in.ensures.value
    ∙ ap (value_of (files_in view) (binding_in view) (leaders_in view) (laid_in view) s.site.section (get_or s.relocs.now k no_reloc)) (to_z-of_z w128 c.operand-number.result (record { sfits = c.operand-number.type_inv }))
    ∙ value_is view s c.requires.source k c.held_in-held.result c.operand-number.result c.slide.new.window c.requires.reloc (omega (arith, c.slide.auto.window))
    (λ j lt. shows j (omega (arith, lt, c.slide.auto.window)) ∙ ap (λ p. slice_index (bytes_by view s k) (p + j)) c.offset_of-offset.ensures.value)
    (λ few. c.held_in-held.ensures (omega (arith, few, wide)) ∙ ap (λ w. number_of (take w c.slide.new.window)) wide)
    c.operand-number.ensures.value
