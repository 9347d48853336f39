-- The headers of output sections one after the other, each with the offset of its name.
use Rattle.std.proofs.Common.{◌≡◌, ℕ, Option, suc, ◌+◌, ◌<◌, ◌≤◌, ◌^◌, List, [], ◌∷◌, ◌++◌, length, map, drop, get_or, append_assoc, length-append, refl, ap, sym, ◌∙◌, arith}
use Rattle.std.proofs.Math.Seq.{drop-cons}
use Rattle.link_sections.specs.declared.layouts.OutputSection.{OutputSection as HeldSection}
use Rattle.link_sections.specs.LaidOut.{OutputSection, output_view}
use Rattle.elf_fields.specs.declared.headers.SectionHeader.{SectionHeader}
use Rattle.elf_fields.specs.Headers.{section_header}
use Rattle.elf_fields.specs.Symbols.{zero_ended}
use Rattle.elf_out.specs.Headers.{null_section, output_headers, output_names, output_section, own_name, section_headers, section_names, strings_section, table_headers, table_names}
use Rattle.elf_out.specs.Symbols.{SymbolTables}

pub record Along (all rest : List OutputSection) (old now : List ℕ) (name : ℕ) : Type 0 where
  pub written : now ++ output_headers name rest ≡ old ++ output_headers 1 all
  pub named : name + length (output_names rest) ≡ 1 + length (output_names all)

names_long : (rest later : List OutputSection) (o : OutputSection) → rest ≡ o ∷ later
    → length (output_names rest) ≡ length o.name + 1 + length (output_names later)
names_long rest later o e =
    ap (λ r. length (output_names r)) e ∙ length-append (zero_ended o.name) (output_names later)
    ∙ ap (λ n. n + length (output_names later)) (length-append o.name (0 ∷ []))

pub along_next : (all rest later : List OutputSection) (o : OutputSection) (old now next : List ℕ) (name k : ℕ) → rest ≡ o ∷ later
    → next ≡ now ++ section_header (output_section name o) → k ≡ name + (length o.name + 1)
    → Along all rest old now name → Along all later old next k
along_next all rest later o old now next name k e pushed more a =
    let k_is : k ≡ name + length o.name + 1 = omega arith in
    let h : List ℕ = section_header (output_section name o) in
    record {
      written = ap (λ xs. xs ++ output_headers k later) pushed ∙ append_assoc now h (output_headers k later)
          ∙ ap (λ j. now ++ (h ++ output_headers j later)) k_is
          ∙ ap (λ r. now ++ output_headers name r) (sym e) ∙ a.written;
      named = omega (arith, names_long rest later o e, a.named);
    }

rest_is : (xs : List HeldSection) (i : ℕ) (d : HeldSection) → i < length xs → map output_view (drop i xs) ≡ output_view (get_or xs i d) ∷ map output_view (drop (i + 1) xs)
rest_is xs i d lt =
    let e : suc i ≡ i + 1 = omega arith in
    ap (map output_view) (drop-cons xs i d lt) ∙ ap (λ k. output_view (get_or xs i d) ∷ map output_view (drop k xs)) e

name_is : (o : HeldSection) → (output_view o).name ≡ o.name.now
name_is o = refl

pub along_step : (xs : List HeldSection) (i : ℕ) (d : HeldSection) (old now next : List ℕ) (name k : ℕ) (h : SectionHeader)
    → h ≡ output_section name (output_view (get_or xs i d)) → next ≡ now ++ section_header h
    → k ≡ name + (length (get_or xs i d).name.now + 1) → i < length xs
    → Along (map output_view xs) (map output_view (drop i xs)) old now name → Along (map output_view xs) (map output_view (drop (i + 1) xs)) old next k
along_step xs i d old now next name k h h_is pushed k_is lt a =
    along_next (map output_view xs) (map output_view (drop i xs)) (map output_view (drop (i + 1) xs)) (output_view (get_or xs i d)) old now next name k (rest_is xs i d lt)
    (pushed ∙ ap (λ s. now ++ section_header s) h_is)
    (k_is ∙ ap (λ n. name + (length n + 1)) (sym (name_is (get_or xs i d)))) a

-- the names of the output sections are a part of all names
pub names_shorter : (outputs : List OutputSection) (tables : Option SymbolTables) → length (output_names outputs) ≤ length (section_names outputs tables)
unfolding section_names
names_shorter outputs tables = omega (arith, length-append (output_names outputs) (table_names tables ++ own_name))

-- the whole table
pub table_is : (outputs : List OutputSection) (tables : Option SymbolTables) (at offset size strings name own : ℕ) (o0 o1 o2 o3 o4 : List ℕ) (h : SectionHeader) → o0 ≡ []
    → o1 ≡ o0 ++ section_header null_section → o2 ≡ o1 ++ output_headers 1 outputs → name ≡ 1 + length (output_names outputs)
    → strings ≡ length outputs + 2 → o3 ≡ o2 ++ table_headers name at strings tables → own ≡ name + length (table_names tables)
    → size ≡ length (section_names outputs tables) → h ≡ strings_section own offset size → o4 ≡ o3 ++ section_header h
    → o4 ≡ section_headers outputs tables at offset
unfolding section_headers
table_is outputs tables at offset size strings name own o0 o1 o2 o3 o4 h e0 e1 e2 name_at count e3 own_at size_is h_is e4 =
    let n : ℕ = 1 + length (output_names outputs) in
    let front : List ℕ = section_header null_section in
    let middle : List ℕ = output_headers 1 outputs in
    let more : List ℕ = table_headers n at (length outputs + 2) tables in
    let last : h ≡ strings_section (n + length (table_names tables)) offset (length (section_names outputs tables)) =
    h_is ∙ ap (λ k. strings_section k offset size) (own_at ∙ ap (λ k. k + length (table_names tables)) name_at)
    ∙ ap (λ k. strings_section (n + length (table_names tables)) offset k) size_is in
    let first : o1 ≡ front = e1 ∙ ap (λ l. l ++ front) e0 in
    let both : o2 ≡ front ++ middle = e2 ∙ ap (λ l. l ++ middle) first in
    let three : o3 ≡ (front ++ middle) ++ more =
    e3 ∙ ap (λ l. l ++ table_headers name at strings tables) both
    ∙ ap (λ k. (front ++ middle) ++ table_headers k at strings tables) name_at
    ∙ ap (λ k. (front ++ middle) ++ table_headers n at k tables) count in
    e4 ∙ ap (λ l. l ++ section_header h) three ∙ append_assoc (front ++ middle) more (section_header h)
    ∙ append_assoc front middle (more ++ section_header h)
    ∙ ap (λ s. front ++ (middle ++ (more ++ section_header s))) last

-- how many bytes the names have
pub record Counted (all rest : List OutputSection) (tables : Option SymbolTables) (size : ℕ) : Type 0 where
  pub total : size + length (output_names rest) ≡ length (section_names all tables)
  pub small : size < 2 ^ 62

pub counted_first : (outputs : List OutputSection) (tables : Option SymbolTables) (size : ℕ) → size ≡ length (section_names [] tables) → size < 100 → Counted outputs outputs tables size
unfolding section_names
counted_first outputs tables size is few = record {
  total = omega (arith, is, length-append (output_names outputs) (table_names tables ++ own_name));
  small = omega (arith, few);
}
