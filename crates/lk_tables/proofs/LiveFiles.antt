-- The sections of a live file, by number.
use Rattle.std.proofs.Common.{◌≡◌, ℕ, ◌+◌, ◌<◌, ◌≤◌, ◌^◌, true, List, length, ap, arith, Bool, false, refl}
use Rattle.std.specs.Prelude.{if◌then◌else◌}
use Rattle.lk_tables.specs.Files.{AreFew, File, commons_before, file_at, section_count}
use Rattle.lk_tables.proofs.FirstNumbers.{section_within}

pub counted : (file : File) → file.live ≡ true → section_count file ≡ length file.head.sections + commons_before file (length file.head.symbols)
counted file live = ap (λ b. if b then length file.head.sections + commons_before file (length file.head.symbols) else 0) live

pub few_sections : (files : List File) (f : ℕ) → AreFew files → f < length files → (file_at files f).live ≡ true →
    length (file_at files f).head.sections ≤ 2 ^ 28
few_sections files f few lt live =
    omega (arith, few.section_count_is, counted (file_at files f) live, section_within files f lt)

-- a file with a section number takes part
pub live_from : (file : File) (k : ℕ) → k < section_count file → file.live ≡ true
live_from file k lt = by_live file.live lt
  where
    by_live : (d : Bool) → k < (if d then length file.head.sections + commons_before file (length file.head.symbols) else 0) → d ≡ true
    by_live true less = refl
    by_live false less = absurd (omega (arith, less))
