-- What a block has beside the sections, from its parts.
use Rattle.std.proofs.Common.{◌≡◌, ℕ, ◌-◌, ◌<◌, ◌^◌, Option, None, Some, List, ◌∷◌, [], ◌++◌, sym, ap, ◌∙◌, arith, subst}
use Rattle.lk_base.specs.Arithmetic.{up}
use Rattle.lk_base.specs.declared.abi.TheConstants.{IMAGE_BASE}
use Rattle.lk_tables.specs.Binding.{Bindings}
use Rattle.lk_tables.specs.Files.{File}
use Rattle.link_sections.specs.declared.views.View.{View}
use Rattle.link_sections.specs.LaidOut.{LaidOut, OutputSection}
use Rattle.link_sections.specs.Views.{binding_in, files_in, laid_in, leaders_in}
use Rattle.elf_out.specs.declared.ends.Ends.{Ends}
use Rattle.elf_out.specs.declared.prepared.Prepared.{Prepared}
use Rattle.elf_out.specs.Ends.{AreEnds}
use Rattle.elf_out.specs.Executable.{after_tables, end_pieces, names_bytes, names_offset, symbols_offset, table_bytes, table_offset, table_pieces, tables_end}
use Rattle.elf_out.specs.Headers.{section_headers, section_names}
use Rattle.elf_out.specs.Prepared.{IsPrepared, IsPreparedFor, headers_in}
use Rattle.elf_out.specs.Symbols.{SymbolTables}
use Rattle.elf_out.specs.TablesView.{tables_if, tables_in}
use Rattle.elf_out.proofs.Laying.{shows_both}
use Rattle.reloc_apply.specs.Image.{ShowsFrom, piece}

-- 63 bits hold where the symbol table ends
end_small : (last at names : ℕ) (tables : Option SymbolTables) → at ≡ up last 8 → at < 2 ^ 32 → names ≡ after_tables last tables → names < 2 ^ 63 → tables_end at tables < 2 ^ 63
end_small last at names None is low names_is small = omega (arith, low)
end_small last at names (Some t) is low names_is small = omega (arith, is, names_is, small)

tables_small : (laid : LaidOut) (tables : Option SymbolTables) (ends : Ends) → AreEnds laid tables ends → tables_end ends.symbols_at tables < 2 ^ 63
tables_small laid tables ends are =
    end_small (laid.bounds.file_end - IMAGE_BASE) ends.symbols_at ends.names_at tables are.symbols_at are.symbols_small are.names_at
    (omega (arith, are.after_names, are.after_table, are.small))

-- the parts of a file that is prepared, with its own tables
pub prepared_is : (v : View) (p : Prepared) (t : Option SymbolTables) (outs : List OutputSection) → t ≡ tables_in v → tables_if p.tables ≡ t
    → AreEnds (laid_in v) t p.ends → outs ≡ (laid_in v).outputs → p.headers.items ≡ headers_in v t → p.names.items ≡ section_names outs t
    → p.headers_of_sections.items ≡ section_headers outs t p.ends.symbols_at p.ends.names_at → IsPreparedFor v p
prepared_is v p t outs own is ends out heads names table =
    let laid = laid_in v in
    let P : Option SymbolTables → Type 0 = λ s. IsPrepared (files_in v) (binding_in v) (leaders_in v) laid s p in
    subst P own (record {
      symbols = is;
      ends = ends;
      headers = heads;
      names = names ∙ ap (λ os. section_names os t) out;
      headers_of_sections = table ∙ ap (λ k. section_headers outs t k p.ends.names_at) ends.symbols_at
          ∙ ap (λ k. section_headers outs t (symbols_offset laid t) k) ends.names_at
          ∙ ap (λ os. section_headers os t (symbols_offset laid t) (names_offset laid t)) out;
    })

module _ (files : List File) (b : Bindings) (leaders : List (Option ℕ)) (laid : LaidOut) (tables : Option SymbolTables) (p : Prepared) (is : IsPrepared files b leaders laid tables p) where
  -- 63 bits hold where each part stands, and where the tables end
  pub own_tables_small : tables_end p.ends.symbols_at (tables_if p.tables) < 2 ^ 63
  own_tables_small = subst (λ t. tables_end p.ends.symbols_at t < 2 ^ 63) (sym is.symbols) (tables_small laid tables p.ends is.ends)

  pub names_small : p.ends.names_at < 2 ^ 63
  names_small = omega (arith, is.ends.after_names, is.ends.after_table, is.ends.small)

  -- what stands at the end of the file, laid part by part
  pub ends_shown : (from : ℕ) (o0 o1 o2 o3 names heads : List ℕ) → names ≡ p.names.items → heads ≡ p.headers_of_sections.items
      → ShowsFrom from o0 o1 (table_pieces p.ends.symbols_at (tables_if p.tables)) → ShowsFrom from o1 o2 (piece p.ends.names_at names ∷ [])
      → ShowsFrom from o2 o3 (piece p.ends.table_at heads ∷ []) → ShowsFrom from o0 o3 (end_pieces laid tables)
  ends_shown from o0 o1 o2 o3 names heads names_are heads_are first second third =
      let A : Option SymbolTables → Type 0 = λ t. ShowsFrom from o0 o1 (table_pieces p.ends.symbols_at t) in
      let B : ℕ → Type 0 = λ at. ShowsFrom from o0 o1 (table_pieces at tables) in
      let C : List ℕ → Type 0 = λ xs. ShowsFrom from o1 o2 (piece p.ends.names_at xs ∷ []) in
      let D : ℕ → Type 0 = λ at. ShowsFrom from o1 o2 (piece at (names_bytes laid tables) ∷ []) in
      let E : List ℕ → Type 0 = λ xs. ShowsFrom from o2 o3 (piece p.ends.table_at xs ∷ []) in
      let F : ℕ → Type 0 = λ at. ShowsFrom from o2 o3 (piece at (table_bytes laid tables) ∷ []) in
      let one = subst B is.ends.symbols_at (subst A is.symbols first) in
      let two = subst D is.ends.names_at (subst C (names_are ∙ is.names) second) in
      let three = subst F is.ends.table_at (subst E (heads_are ∙ is.headers_of_sections) third) in
      shows_both from (table_pieces (symbols_offset laid tables) tables)
      (piece (names_offset laid tables) (names_bytes laid tables) ∷ piece (table_offset laid tables) (table_bytes laid tables) ∷ []) o0 o1 o3 one
      (shows_both from (piece (names_offset laid tables) (names_bytes laid tables) ∷ []) (piece (table_offset laid tables) (table_bytes laid tables) ∷ []) o1 o2 o3 two three)
