use Rattle.std.proofs.Common.{◌≡◌, ◌+◌, ◌*◌, ◌∙◌, ap, arith, List, [], ◌∷◌, pos, subst, sym, ℕ}
use Rattle.std.specs.Int.{to_le_bytes, w64}
use Rattle.lk_base.specs.Arithmetic.{bits_of}
use Rattle.lk_tables.specs.Targets.{bound}
use Rattle.link_sections.specs.declared.got.GotUse.TheVariants.{Address, ThreadOffset, GeneralDynamic}
use Rattle.link_sections.specs.Addresses.{symbol_address}
use Rattle.link_sections.specs.Views.{binding_in, files_in, laid_in, leaders_in}
use Rattle.rv_code.proofs.Going.{plain_bits_pos}
use Rattle.reloc_apply.specs.Image.{ShowsFrom, piece}
use Rattle.reloc_apply.specs.Relocated.{offset_word}
use Rattle.reloc_apply.specs.Standing.{word_pieces}
use Rattle.reloc_apply.proofs.PieceWalks.{shows_both}
use Rattle.reloc_apply.proofs.TableSteps.{words_by}
use Rattle.reloc_apply.proofs.table_words.write_entry.Goals as goal

pub returns-in-Address : goal.returns-in-Address
returns-in-Address c =
    let view = c.args.view.now in
    let e = c.args.entry.now in
    let place = c.args.at + 8 * e.word in
    let P : List ℕ → Type 0 = λ ws. ShowsFrom c.args.from c.args.block.now c.write_word.new.block (word_pieces place ws) in
    let Q : ℕ → Type 0 = λ w. ShowsFrom c.args.from c.args.block.now c.write_word.new.block (piece place (to_le_bytes w64 w) ∷ []) in
    let word = sym (plain_bits_pos c.address_of.result c.address_of.type_inv) ∙ ap (λ a. bits_of (pos a)) c.address_of.ensures in
    subst P (sym (words_by (files_in view) (binding_in view) (leaders_in view) (laid_in view) e Address c.in-Address.is)) (subst Q word c.write_word.ensures)

pub returns-in-ThreadOffset : goal.returns-in-ThreadOffset
returns-in-ThreadOffset c =
    let view = c.args.view.now in
    let e = c.args.entry.now in
    let place = c.args.at + 8 * e.word in
    let P : List ℕ → Type 0 = λ ws. ShowsFrom c.args.from c.args.block.now c.write_word-in-ThreadOffset.new.block (word_pieces place ws) in
    let Q : ℕ → Type 0 = λ w. ShowsFrom c.args.from c.args.block.now c.write_word-in-ThreadOffset.new.block (piece place (to_le_bytes w64 w) ∷ []) in
    let start = (laid_in view).bounds.tls_start in
    let none : start + 0 ≡ start = omega arith in
    let word = c.offset_in.ensures ∙ ap (offset_word (bound (files_in view) (binding_in view) e.file e.symbol) (symbol_address (files_in view) (binding_in view) (leaders_in view) (laid_in view) e.file e.symbol)) none in
    subst P (sym (words_by (files_in view) (binding_in view) (leaders_in view) (laid_in view) e ThreadOffset c.in-ThreadOffset.is)) (subst Q word c.write_word-in-ThreadOffset.ensures)

pub returns-in-GeneralDynamic : goal.returns-in-GeneralDynamic
returns-in-GeneralDynamic c =
    let view = c.args.view.now in
    let e = c.args.entry.now in
    let place = c.args.at + 8 * e.word in
    let old = c.args.block.now in
    let mid = c.write_word-in-GeneralDynamic.new.block in
    let new = c.write_word-in-GeneralDynamic-2.new.block in
    let P : List ℕ → Type 0 = λ ws. ShowsFrom c.args.from old new (word_pieces place ws) in
    let word = offset_word (bound (files_in view) (binding_in view) e.file e.symbol) (symbol_address (files_in view) (binding_in view) (leaders_in view) (laid_in view) e.file e.symbol) ((laid_in view).bounds.tls_start + 0x800) in
    let Q : ℕ → Type 0 = λ w. ShowsFrom c.args.from mid new (piece (place + 8) (to_le_bytes w64 w) ∷ []) in
    subst P (sym (words_by (files_in view) (binding_in view) (leaders_in view) (laid_in view) e GeneralDynamic c.in-GeneralDynamic.is))
    (shows_both c.args.from old mid new (piece place (to_le_bytes w64 1) ∷ []) (piece (place + 8) (to_le_bytes w64 word) ∷ []) c.write_word-in-GeneralDynamic.ensures
    (subst Q c.offset_in-in-GeneralDynamic.ensures c.write_word-in-GeneralDynamic-2.ensures))
