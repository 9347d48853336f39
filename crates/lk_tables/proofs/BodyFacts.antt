-- What a sound head says for the reader of the body.
use Rattle.std.proofs.Common.{◌≡◌, ◌≢◌, ℕ, ◌+◌, ◌/◌, ◌==◌, ◌<◌, ◌≤◌, Bool, true, false, cond, length, get_or, List, ◌++◌, refl, ap, ◌∙◌, arith}
use Rattle.std.specs.Prelude.{Ok}
use Rattle.std.proofs.lemmas.Bool.{cond-true, eq-eqb}
use Rattle.std.proofs.lemmas.List.FromFn.{length-map-range_with_len, get_or-map-range_with_len}
use Rattle.lk_base.specs.declared.abi.TheConstants.{SHT_NULL, SHT_NOBITS, SYM_SIZE}
use Rattle.lk_tables.specs.declared.entries.SectionHeader.{SectionHeader}
use Rattle.lk_tables.specs.declared.heads.Section.{Section}
use Rattle.lk_tables.specs.declared.heads.Symbol.{Symbol}
use Rattle.lk_tables.specs.declared.spans.Span.{Span}
use Rattle.lk_tables.specs.Checks.{passes}
use Rattle.lk_tables.specs.FileHeader.{header, section_count, header_checks}
use Rattle.lk_tables.specs.Heads.{HeadView, HeadOf, head_checks, fields_of, sections_of, symbols_of, all_section_checks, all_symbol_checks}
use Rattle.lk_tables.specs.Sections.{section_of, with_name, is_null}
use Rattle.lk_tables.specs.Symbols.{symtab_of, symbol_of, symbol_count}
use Rattle.lk_tables.proofs.HeadFacts.{sound_at, inside_at}
use Rattle.lk_tables.proofs.Passing.{ok_from_none, both_pass}

pub length_symbols : (b : List ℕ) → length (symbols_of b) ≡ symbol_count b
length_symbols b = length-map-range_with_len (symbol_of b) 0 (symbol_count b)

pub symbol_at : (b : List ℕ) (symbols : List Symbol) (k : ℕ) (d : Symbol) → symbols ≡ symbols_of b → k < length symbols → get_or symbols k d ≡ symbol_of b k
symbol_at b symbols k d is lt =
    let high : k < symbol_count b = omega (arith, ap length is, length_symbols b) in
    ap (λ xs. get_or xs k d) is ∙ get_or-map-range_with_len (symbol_of b) 0 (symbol_count b) k k d high (omega arith)

-- the fields of a section are those of its header
pub record IsHeader (s : Section) (h : SectionHeader) : Type 0 where
  pub sh_type : s.sh_type ≡ h.sh_type
  pub offset : s.offset ≡ h.offset
  pub size : s.size ≡ h.size

either_name : (n : Bool) (h : SectionHeader) (s t : Span) → IsHeader (cond n (with_name h s) (with_name h t)) h
either_name true h s t = record { sh_type = refl; offset = refl; size = refl }
either_name false h s t = record { sh_type = refl; offset = refl; size = refl }

pub is_header : (b : List ℕ) (k : ℕ) → IsHeader (section_of b k) (header b k)
unfolding section_of
is_header b k = either_name (is_null k (header b k).sh_type) (header b k) _ _

-- the bytes of a section that has some lie in the file
pub section_inside : (b : List ℕ) (k : ℕ) → passes (all_section_checks b) ≡ Ok tt → 0 < k → k < section_count b →
    (section_of b k).sh_type ≢ SHT_NULL → (section_of b k).sh_type ≢ SHT_NOBITS → (section_of b k).offset + (section_of b k).size ≤ length b
section_inside b k e low high live bits =
    let h = is_header b k in
    let s = sound_at b k e low high (λ z. live (h.sh_type ∙ z)) in
    let inside = inside_at b k s.inside (λ z. bits (h.sh_type ∙ z)) in
    omega (arith, inside, h.offset, h.size)

-- the parts of the checks of a sound head
pub header_passes : (b : List ℕ) (head : HeadView) → HeadOf b head → passes (header_checks b) ≡ Ok tt
unfolding head_checks
header_passes b head is =
    (both_pass (header_checks b) (all_section_checks b ++ all_symbol_checks b) (tt {0}) (tt {0}) (ok_from_none (head_checks b) (tt {0}) is.sound)).0

pub sections_pass : (b : List ℕ) (head : HeadView) → HeadOf b head → passes (all_section_checks b) ≡ Ok tt
unfolding head_checks
sections_pass b head is =
    let rest = (both_pass (header_checks b) (all_section_checks b ++ all_symbol_checks b) (tt {0}) (tt {0}) (ok_from_none (head_checks b) (tt {0}) is.sound)).1 in
    (both_pass (all_section_checks b) (all_symbol_checks b) (tt {0}) (tt {0}) rest).0

-- its fields
pub sections_are : (b : List ℕ) (head : HeadView) → HeadOf b head → head.sections ≡ sections_of b
unfolding fields_of
sections_are b head is = ap (λ (h : HeadView). h.sections) is.fields

pub symbols_are : (b : List ℕ) (head : HeadView) → HeadOf b head → head.symbols ≡ symbols_of b
unfolding fields_of
symbols_are b head is = ap (λ (h : HeadView). h.symbols) is.fields

pub symtab_is : (b : List ℕ) (head : HeadView) → HeadOf b head → head.symtab ≡ symtab_of b
unfolding fields_of
symtab_is b head is = ap (λ (h : HeadView). h.symtab) is.fields

-- without a symbol table there are no symbols
pub no_symbols : (b : List ℕ) → symtab_of b ≡ 0 → symbol_count b ≡ 0
unfolding symbol_count
no_symbols b e = cond-true (symtab_of b == 0) 0 ((header b (symtab_of b)).size / SYM_SIZE) (eq-eqb (symtab_of b) 0 e)
