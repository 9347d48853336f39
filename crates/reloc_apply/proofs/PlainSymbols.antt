-- Symbols after the first that is not local: none of them is a SECTION symbol.
use Rattle.std.proofs.Common.{◌≡◌, ◌≢◌, ℕ, ◌<◌, ◌≤◌, ◌==◌, ◌&&◌, false, length, get_or, ap, arith, inl, inr}
use Rattle.std.proofs.lemmas.Bool.{cases_lt, ne_eqb}
use Rattle.std.proofs.lemmas.List.{get_or_past}
use Rattle.lk_base.specs.declared.abi.TheConstants.{STB_LOCAL, STT_SECTION}
use Rattle.lk_tables.specs.declared.heads.Symbol.{Symbol}
use Rattle.lk_tables.specs.Files.{File, IsSound, is_section_symbol, no_symbol, symbol_at}
use Rattle.lk_tables.specs.Inside.{HasLocalsFirst}
use Rattle.lk_tables.proofs.SoundFiles.{inside_head}

-- past the end there is none
pub plain_past_end : (file : File) (n : ℕ) → length file.head.symbols ≤ n → (k : ℕ) → n ≤ k → is_section_symbol (symbol_at file k) ≡ false
plain_past_end file n past k le = ap is_section_symbol (get_or_past file.head.symbols k no_symbol (omega (arith, past, le)))

not_local : (s : Symbol) → s.binding ≢ STB_LOCAL → is_section_symbol s ≡ false
not_local s differs = ap (λ b. b && s.sort == STT_SECTION) (ne_eqb s.binding STB_LOCAL differs)

-- nor is there one from a symbol on that is not local
pub plain_past : (file : File) → IsSound file → (n : ℕ) → n < length file.head.symbols → (get_or file.head.symbols n no_symbol).binding ≢ STB_LOCAL →
    (k : ℕ) → n ≤ k → is_section_symbol (symbol_at file k) ≡ false
plain_past file sound n within other k le =
    let first : HasLocalsFirst file.head.symbols = (inside_head file sound).ordered in
    let from : first.locals ≤ n = elim (cases_lt n first.locals) [
      | inl low ↦ absurd (other (first.below n no_symbol within low))
      | inr high ↦ high
    ] in
    elim (cases_lt k (length file.head.symbols)) [
      | inl lt ↦ not_local (get_or file.head.symbols k no_symbol) (first.above k no_symbol lt (omega (arith, from, le)))
      | inr past ↦ plain_past_end file k past k (omega arith)
    ]
