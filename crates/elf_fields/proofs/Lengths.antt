-- How many bytes numbers, headers and entries have.
use Rattle.std.proofs.Common.{◌≡◌, ℕ, ◌+◌, List, ◌++◌, length, length-append, refl, ap, ◌∙◌}
use Rattle.elf_fields.specs.declared.headers.FileHeader.{FileHeader}
use Rattle.elf_fields.specs.declared.headers.ProgramHeader.{ProgramHeader}
use Rattle.elf_fields.specs.declared.headers.SectionHeader.{SectionHeader}
use Rattle.elf_fields.specs.declared.symbols.SymbolEntry.{SymbolEntry}
use Rattle.elf_fields.specs.Headers.{file_header, identification, program_header, section_header}
use Rattle.elf_fields.specs.Numbers.{half, long, word}
use Rattle.elf_fields.specs.Symbols.{symbol_entry}

half_long : (n : ℕ) → length (half n) ≡ 2
unfolding half
half_long n = refl

word_long : (n : ℕ) → length (word n) ≡ 4
unfolding word
word_long n = refl

long_long : (n : ℕ) → length (long n) ≡ 8
unfolding long
long_long n = refl

pub and_long : (a b : List ℕ) (m n : ℕ) → length a ≡ m → length b ≡ n → length (a ++ b) ≡ m + n
and_long a b m n ea eb = length-append a b ∙ ap (λ k. k + length b) ea ∙ ap (λ k. m + k) eb

identification_long : length identification ≡ 16
unfolding identification
identification_long = refl

pub file_header_long : (h : FileHeader) → length (file_header h) ≡ 64
unfolding file_header
file_header_long h =
    and_long _ _ 16 48 identification_long (and_long _ _ 2 46 (half_long _) (and_long _ _ 2 44 (half_long _) (and_long _ _ 4 40 (word_long _)
    (and_long _ _ 8 32 (long_long _) (and_long _ _ 8 24 (long_long _) (and_long _ _ 8 16 (long_long _) (and_long _ _ 4 12 (word_long _)
    (and_long _ _ 2 10 (half_long _) (and_long _ _ 2 8 (half_long _) (and_long _ _ 2 6 (half_long _) (and_long _ _ 2 4 (half_long _)
    (and_long _ _ 2 2 (half_long _) (half_long _)))))))))))))

pub program_header_long : (h : ProgramHeader) → length (program_header h) ≡ 56
unfolding program_header
program_header_long h =
    and_long _ _ 4 52 (word_long _) (and_long _ _ 4 48 (word_long _) (and_long _ _ 8 40 (long_long _) (and_long _ _ 8 32 (long_long _)
    (and_long _ _ 8 24 (long_long _) (and_long _ _ 8 16 (long_long _) (and_long _ _ 8 8 (long_long _) (long_long _)))))))

pub section_header_long : (h : SectionHeader) → length (section_header h) ≡ 64
unfolding section_header
section_header_long h =
    and_long _ _ 4 60 (word_long _) (and_long _ _ 4 56 (word_long _) (and_long _ _ 8 48 (long_long _) (and_long _ _ 8 40 (long_long _)
    (and_long _ _ 8 32 (long_long _) (and_long _ _ 8 24 (long_long _) (and_long _ _ 4 20 (word_long _) (and_long _ _ 4 16 (word_long _)
    (and_long _ _ 8 8 (long_long _) (long_long _)))))))))

pub symbol_entry_long : (s : SymbolEntry) → length (symbol_entry s) ≡ 24
unfolding symbol_entry half word long
symbol_entry_long s = refl
