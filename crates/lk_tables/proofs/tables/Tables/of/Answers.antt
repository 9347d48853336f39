use Rattle.std.proofs.Common.{◌+◌, List, length, map, sym, ap, ◌∙◌, subst, arith}
use Rattle.std.specs.Prelude.{IfSome}
use Rattle.std.specs.List.{range_with_len}
use Rattle.std.proofs.lemmas.List.{length-map}
use Rattle.lk_tables.specs.declared.files.File.{File as LentFile}
use Rattle.lk_tables.specs.FileView.{file_view, file_views}
use Rattle.lk_tables.specs.Files.{File, by_section, first_section, first_symbol, section_total, symbol_total}
use Rattle.lk_tables.specs.NameNumbers.{NumbersNames, heads_alone}
use Rattle.lk_tables.proofs.ByNumber.{heads_with_objects, length_with_objects, symbol_total_with_objects}
use Rattle.lk_tables.proofs.SectionFiles.{file_of}
use Rattle.lk_tables.proofs.tables.Tables.of.Goals as goal

pub first_symbols-requires : goal.first_symbols-requires
first_symbols-requires c =
    let few = c.requires.symbols in
    omega (arith, ap (λ (l : List LentFile). symbol_total (file_views l)) c.as_slice.ensures.value, ap symbol_total c.put_bodies.ensures, symbol_total_with_objects (file_views c.args.heads.files.items) c.args.objects.items)

pub invariant_of-result : goal.invariant_of-result
invariant_of-result c =
    let old = file_views c.args.heads.files.items in
    let objects = c.args.objects.items in
    let new = c.put_bodies.new.files.items in
    let is = c.put_bodies.ensures in
    let few = c.args.heads.few in
    let symbols = c.requires.symbols in
    let sections = c.requires.sections in
    let P : List File → Type 0 = λ l. IfSome c.args.heads.names (NumbersNames l) in
    record {
      few = record {
        file_count = omega (arith, ap length is, length_with_objects old objects, length-map c.args.heads.files.items file_view);
        symbol_count = omega (arith, ap symbol_total is, symbol_total_with_objects old objects);
        section_count_is = omega (arith, ap section_total is);
      };
      symbols = c.in_ok-first_symbols.ensures ∙ ap (λ (l : List LentFile). map (first_symbol (file_views l)) (range_with_len 0 (length l + 1))) c.as_slice.ensures.value;
      sections = c.in_ok-first_sections.ensures ∙ ap (λ (l : List LentFile). map (first_section (file_views l)) (range_with_len 0 (length l + 1))) c.as_slice-2.ensures.value;
      owners = c.in_ok-section_files.ensures ∙ ap (λ (l : List LentFile). by_section (file_views l) file_of) c.as_slice-3.ensures.value;
      numbered = subst P (sym (ap heads_alone is ∙ heads_with_objects old objects)) c.args.heads.numbered;
    }

pub section_files-requires-clause-few : goal.section_files-requires-clause-few
section_files-requires-clause-few c =
    let old = file_views c.args.heads.files.items in
    let few = c.args.heads.few in
    let same = ap (λ (l : List LentFile). length (file_views l)) c.as_slice-3.ensures.value in
    omega (arith, same, length-map c.as_slice-3.result.now file_view, ap length c.put_bodies.ensures, length_with_objects old c.args.objects.items, length-map c.args.heads.files.items file_view)
