-- How many bytes the contents of sections have.
use Rattle.std.proofs.Common.{◌≡◌, ℕ, zero, suc, ◌+◌, ◌-◌, ◌*◌, ◌%◌, ◌≤◌, List, [], ◌∷◌, ◌++◌, length, flat_map, append_assoc, length-append, refl, ap, sym, ◌∙◌, arith}
use Rattle.std.proofs.lemmas.List.{length-replicate}
use Rattle.lk_base.specs.Arithmetic.{up}
use Rattle.std.specs.List.{range_with_len}
use Rattle.std.specs.Prelude.{decimal}
use Rattle.elf_fields.specs.Numbers.{half, long, word}
use Rattle.elf_fields.specs.Symbols.{symbol_entry}
use Rattle.elf_fields.proofs.Lengths.{symbol_entry_long}
use Rattle.link_gen.specs.Elf.{Symbol, entry_of, padded, relocation, symbol_entries, zeros}
use Rattle.link_gen.specs.Generated.{ret, call, call_relocations, f_code, f_relocations, g_code, symbol_table, merged_string}

-- so many times the same number of bytes
alike : (f : ℕ → List ℕ) (size : ℕ) → ((i : ℕ) → length (f i) ≡ size) → (a n : ℕ) → length (flat_map f (range_with_len a n)) ≡ n * size
alike f size each a zero = omega arith
alike f size each a (suc n) =
    omega (arith, length-append (f a) (flat_map f (range_with_len (a + 1) n)), each a, alike f size each (a + 1) n)

call_length : length call ≡ 8
unfolding call word
call_length = refl

pub ret_length : 4 ≡ length ret
unfolding ret word
ret_length = refl

pub f_length : (calls : ℕ) → calls * 8 + 4 ≡ length (f_code calls)
unfolding f_code
f_length calls =
    omega (arith, length-append (flat_map (λ i. call) (range_with_len 0 calls)) ret, ret_length, alike (λ i. call) 8 (λ i. call_length) 0 calls)

pub relocation_length : (offset kind symbol : ℕ) → 24 ≡ length (relocation offset kind symbol)
unfolding relocation long word
relocation_length offset kind symbol = refl

pub relocations_length : (k calls : ℕ) → 48 * calls ≡ length (f_relocations k calls)
unfolding f_relocations relocation long word
relocations_length k calls = sym (alike (call_relocations k) 48 (λ i. refl) 0 calls ∙ omega arith)

pub g_length : (k : ℕ) → 8 ≡ length (g_code k)
unfolding g_code ret word
g_length k = refl

pub string_length : (k digits : ℕ) → digits ≡ length (decimal (k % 11)) → 2 + digits ≡ length (merged_string k)
unfolding merged_string
string_length k digits e = omega (arith, e, length-append (decimal (k % 11)) (0 ∷ []))

entries_length : (name : ℕ) (symbols : List Symbol) → length (symbol_entries name symbols) ≡ 24 * length symbols
entries_length name [] = refl
entries_length name (s ∷ rest) =
    omega (
      arith,
      length-append (symbol_entry (entry_of name s.info s.section s.size)) (symbol_entries (name + (length s.name + 1)) rest),
      symbol_entry_long (entry_of name s.info s.section s.size),
      entries_length (name + (length s.name + 1)) rest,
    )

pub table_length : (symbols : List Symbol) (n : ℕ) → n ≡ length symbols → 24 * (2 + n) ≡ length (symbol_table symbols)
unfolding symbol_table symbol_entry half word long
table_length symbols n e = omega (arith, e, entries_length 1 symbols)

pub padded_length : (bytes : List ℕ) (size whole : ℕ) → size ≡ length bytes → whole ≡ up size 8 → size ≤ whole → whole ≡ length (padded bytes)
unfolding padded
padded_length bytes size whole is up_is le =
    let e : up size 8 ≡ up (length bytes) 8 = ap (λ n. up n 8) is in
    omega (arith, length-append bytes (zeros (up (length bytes) 8 - length bytes)), length-replicate {A = ℕ} (up (length bytes) 8 - length bytes) 0, e, is, up_is, le)

pub padded_pushed : (bytes : List ℕ) (size whole : ℕ) (old mid new : List ℕ) → size ≡ length bytes → whole ≡ up size 8
    → mid ≡ old ++ bytes → new ≡ mid ++ zeros (whole - size) → new ≡ old ++ padded bytes
unfolding padded
padded_pushed bytes size whole old mid new is up_is first second =
    let e : whole - size ≡ up (length bytes) 8 - length bytes = ap (λ n. n - size) (up_is ∙ ap (λ n. up n 8) is) ∙ ap (λ n. up (length bytes) 8 - n) is in
    second ∙ ap (λ l. l ++ zeros (whole - size)) first ∙ append_assoc old bytes (zeros (whole - size)) ∙ ap (λ n. old ++ (bytes ++ zeros n)) e
