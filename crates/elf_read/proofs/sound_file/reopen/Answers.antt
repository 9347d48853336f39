use Rattle.std.proofs.Common.{◌≡◌, length, get_or, List, sym, ap, ◌∙◌, arith, subst}
use Rattle.lk_tables.specs.FileHeader.{e_shoff, section_count}
use Rattle.lk_tables.specs.declared.heads.Symbol.{Symbol}
use Rattle.lk_tables.specs.Heads.{head_view}
use Rattle.lk_tables.specs.Inside.{IsPlaceWithin}
use Rattle.lk_tables.proofs.BodyFacts.{header_passes, sections_pass, sections_are, symbols_are, symtab_is, length_symbols}
use Rattle.lk_tables.proofs.SoundHead.{head_is, head_inside}
use Rattle.lk_tables.proofs.HeadFacts.{length_sections}
use Rattle.elf_read.proofs.sound_file.reopen.Goals as goal

pub unreachable-requires : goal.unreachable-requires
unreachable-requires c =
    let wrong = c.in_default.ensures.checked ∙ header_passes c.args.bytes.now (head_view c.args.head.now) (head_is _ _ c.requires) in cc

pub invariant_of-result : goal.invariant_of-result
invariant_of-result c =
    let b = c.args.bytes.now in
    let head = head_view c.args.head.now in
    let file = c.in-Ok.file in
    let same = c.in-Ok.ensures.same in
    let is = head_is b head c.requires in
    let sections = c.as_slice.ensures.value ∙ sections_are b head is in
    let symbols = c.as_slice-2.ensures.value ∙ symbols_are b head is in
    let counted : length c.as_slice.result.now ≡ section_count b = ap length sections ∙ length_sections b in
    let count : file.count ≡ section_count b = file.count_is ∙ ap section_count same in
    let len : length file.bytes.now ≡ length b = ap length same in
    record {
      table_is = file.table_is ∙ ap e_shoff same;
      sections_are = sections;
      counted = counted;
      few = omega (arith, file.few, count, counted);
      within = omega (arith, file.within, count, counted, len);
      symbols_are = symbols;
      placed = λ k d lt n here.
          let h = head_inside b head is in
          let at = ap (λ (xs : List Symbol). get_or xs k d) c.as_slice-2.ensures.value in
          let inside = h.places k d (omega (arith, lt, ap length c.as_slice-2.ensures.value)) in
          let placed = ap (λ (s : Symbol). s.place) (sym at) ∙ here in
          omega (arith, (subst (IsPlaceWithin (length head.sections)) placed inside).1, ap length c.as_slice.ensures.value);
      symbols_counted = ap length symbols ∙ length_symbols b;
      symtab_is = symtab_is b head is;
      passed = sections_pass b head is;
    }
