use Rattle.std.proofs.Common.{◌≡◌, List, ◌∙◌, ap, arith, slice_index, subst, sym}
use Rattle.lk_base.specs.Firsts.{BeginsWith}
use Rattle.lk_base.specs.declared.defects.Defect.{Defect}
use Rattle.lk_tables.specs.Files.{section_total}
use Rattle.lk_tables.specs.Sites.{relocs_of}
use Rattle.link_sections.specs.Views.{binding_in, files_in, laid_in, leaders_in}
use Rattle.reloc_apply.proofs.NumberWalks.{first, here_is, own_defects, left, walk_done, walk_end, walk_found, walk_next, walk_start}
use Rattle.reloc_apply.proofs.checks.check_numbers.Goals as goal

pub section_of-section-requires-clause-first : goal.section_of-section-requires-clause-first
section_of-section-requires-clause-first c =
    let none : slice_index c.args.firsts.now 0 ≡ 0 = c.requires.firsts 0 (omega arith) in omega (arith, none)

pub loop-section-init : goal.loop-section-init
loop-section-init c =
    let view = c.args.view.now in
    let relocs = relocs_of (files_in view) in
    let f = own_defects (files_in view) (binding_in view) (leaders_in view) (laid_in view) in
    let total = section_total (files_in view) in
    let a = c.args.piece.start in
    let b = c.args.piece.end in
    let n = c.section_of-section.result in
    let own = c.requires.firsts n (omega (arith, c.section_of-section.ensures.within, c.requires.count)) in
    walk_start relocs f total a b n c.requires.order (omega (arith, own, c.section_of-section.ensures.before))

pub returns-then-to-first : goal.returns-then-to-first
returns-then-to-first c =
    let view = c.args.view.now in
    let relocs = relocs_of (files_in view) in
    let f = own_defects (files_in view) (binding_in view) (leaders_in view) (laid_in view) in
    let total = section_total (files_in view) in
    let a = c.args.piece.start in
    let b = c.args.piece.end in
    let n = c.loop-section.section in
    let own = c.requires.firsts n (omega arith) in
    let past = c.if-to-first.true in
    walk_end relocs f total a b n _ c.requires.order (omega (arith, past, own)) c.loop-section.invariant

pub returns-in-Some : goal.returns-in-Some
returns-in-Some c =
    let view = c.args.view.now in
    let relocs = relocs_of (files_in view) in
    let f = own_defects (files_in view) (binding_in view) (leaders_in view) (laid_in view) in
    let total = section_total (files_in view) in
    let a = c.args.piece.start in
    let b = c.args.piece.end in
    let n = c.loop-section.section in
    let own : slice_index c.args.firsts.now n ≡ first relocs f n = c.requires.firsts n (omega arith) in
    let low = c.if-to-first.false in
    let from = slice_index c.args.firsts.now n in
    let same = here_is relocs f a b n from c.saturating_sub.result own c.saturating_sub.ensures in
    let P : List Defect → Type 0 = λ l. BeginsWith l c.in-Some.defect in
    walk_found relocs f total a b n _ c.in-Some.defect (omega arith) c.requires.order (omega (arith, low, own)) c.loop-section.invariant (subst P same c.in-Some.ensures)

pub loop-section-preserved : goal.loop-section-preserved
loop-section-preserved c =
    let view = c.args.view.now in
    let relocs = relocs_of (files_in view) in
    let f = own_defects (files_in view) (binding_in view) (leaders_in view) (laid_in view) in
    let total = section_total (files_in view) in
    let a = c.args.piece.start in
    let b = c.args.piece.end in
    let n = c.loop-section.section in
    let own : slice_index c.args.firsts.now n ≡ first relocs f n = c.requires.firsts n (omega arith) in
    let low = c.if-to-first.false in
    let from = slice_index c.args.firsts.now n in
    let same = here_is relocs f a b n from c.saturating_sub.result own c.saturating_sub.ensures in
    walk_next relocs f total a b n _ (omega arith) c.requires.order (omega (arith, low, own)) c.loop-section.invariant (sym same ∙ c.in_default.ensures)

pub returns : goal.returns
returns c =
    let view = c.args.view.now in
    let relocs = relocs_of (files_in view) in
    let f = own_defects (files_in view) (binding_in view) (leaders_in view) (laid_in view) in
    let total = section_total (files_in view) in
    let a = c.args.piece.start in
    let b = c.args.piece.end in
    let n = c.loop-section.section in
    let all : n ≡ total = omega (arith, c.section_of-section.ensures.within, c.requires.count) in
    walk_done relocs f total a b _ c.requires.order (sym (ap (left relocs f total a b) all) ∙ c.loop-section.invariant)
