use Rattle.std.proofs.Common.{ℕ, ◌==◌, not, bit_and, List, [], length, ap, ◌∙◌, arith}
use Rattle.std.specs.Prelude.{if◌then◌else◌}
use Rattle.lk_base.specs.declared.abi.TheConstants.{SHF_STRINGS}
use Rattle.link_sections.specs.MergeSections.{elements, section_pieces, strings_from}
use Rattle.lk_tables.specs.Names.{text_of}
use Rattle.str_merge.proofs.CutTexts.{pieces_texts}
use Rattle.str_merge.proofs.cuts.cut_section.Goals as goal

pub returns-clause-pieces : goal.returns-clause-pieces
unfolding section_pieces text_of
returns-clause-pieces c =
    let s = c.args.section.now in
    pieces_texts _ ∙ c.in_ok-ends.ensures
    ∙ ap (λ (l : List ℕ). if not (bit_and s.flags SHF_STRINGS == 0) then strings_from [] (elements s.entsize l) else elements s.entsize l) c.text_of-contents.ensures

pub ends_of-requires : goal.ends_of-requires
unfolding text_of
ends_of-requires c = omega (arith, c.requires, ap length c.text_of-contents.ensures)

pub returns-clause-len : goal.returns-clause-len
unfolding text_of
returns-clause-len c = omega (arith, c.requires, ap length c.text_of-contents.ensures)
