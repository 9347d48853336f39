-- What a relocation puts into its place (RISC-V ELF psABI, "Relocations": S, A, P, G, V; "Thread Local Storage": the thread pointer T).
use Rattle.std.specs.Prelude.{ℕ, ◌+◌, ◌*◌, ◌==◌, ◌&&◌, ◌||◌, not, ℤ, pos, ◌+ℤ◌, ◌-ℤ◌, Bool, true, false, Option, Some, None, is_some, unwrap_or, option_and_then, if◌then◌else◌, List, find}
use Rattle.lk_base.specs.RelocKinds.{kind_of, has_value, is_lower, is_upper}
use Rattle.lk_base.specs.declared.relocations.Calculation.{Calculation}
use Rattle.lk_base.specs.declared.relocations.Calculation.TheVariants.{Address, Distance, GotDistance, ThreadOffset, Increase, Decrease}
use Rattle.lk_tables.specs.declared.bounds.Spot.{Spot}
use Rattle.lk_tables.specs.declared.bounds.Spot.TheVariants.{Section, Number, Zero, Linker, Unbound}
use Rattle.lk_tables.specs.declared.objects.Reloc.{Reloc}
use Rattle.lk_tables.specs.Binding.{Bindings}
use Rattle.lk_tables.specs.Files.{File}
use Rattle.lk_tables.specs.Sites as sites
use Rattle.lk_tables.specs.Sites.{relocs_of}
use Rattle.lk_tables.specs.Targets.{spot_of}
use Rattle.link_sections.specs.Cuts.{new_offset}
use Rattle.link_sections.specs.declared.got.GotEntry.{GotEntry}
use Rattle.link_sections.specs.declared.got.GotUse.{GotUse}
use Rattle.link_sections.specs.declared.targets.Target.{Target}
use Rattle.link_sections.specs.declared.targets.Target.TheVariants as targets
use Rattle.link_sections.specs.Addresses.{target_address}
use Rattle.link_sections.specs.GotEntries.{key_of, use_of, word_of}
use Rattle.link_sections.specs.LaidOut.{LaidOut, cuts_at, start_at}
use Rattle.link_sections.specs.PieceTargets.{piece_target}
pub use Rattle.link_sections.specs.Sums.{addend_of}

-- a symbol that nothing defines is at the thread pointer
abbrev pub is_zero : Target → Bool
is_zero targets.Zero = true
is_zero (targets.Section section offset rest) = false
is_zero (targets.Piece pool piece offset rest) = false
is_zero (targets.Number n) = false
is_zero (targets.Linker n) = false
is_zero targets.Unbound = false

-- a calculation, from S + A, P, S + A - T, G + A and V
abbrev pub computed : Calculation → (sum place thread entry held : ℤ) → Option ℤ
computed Address sum place thread entry held = Some sum
computed Distance sum place thread entry held = Some (sum -ℤ place)
computed GotDistance sum place thread entry held = Some (entry -ℤ place)
computed ThreadOffset sum place thread entry held = Some thread
computed Increase sum place thread entry held = Some (held +ℤ sum)
computed Decrease sum place thread entry held = Some (held -ℤ sum)
computed _ sum place thread entry held = None

-- the offset of a label, if it stands in the section of this number
abbrev pub label_in : (own : ℕ) → Spot → Option ℕ
label_in own (Section section offset rest) = if section == own then Some offset else None
label_in own (Number n) = None
label_in own Zero = None
label_in own (Linker n) = None
label_in own Unbound = None

-- an upper part at an offset
abbrev pub is_upper_at : ℕ → Reloc → Bool
is_upper_at offset r = r.offset == offset && is_upper r.kind

module _ (files : List File) (b : Bindings) (leaders : List (Option ℕ)) (laid : LaidOut) where
  -- what relocation r of section n stands for: where its byte was in the input, and where it is once equal pieces are merged
  abbrev pub spot_in : (n : ℕ) → Reloc → Spot
  spot_in n r = spot_of files b (sites.place_of files n).file r

  unfoldable pub target_in : (n : ℕ) → Reloc → Target
  target_in n r = piece_target laid.merging.merged (spot_in n r)

  -- the offset of a relocation's place, once the bytes that do not stay are gone, and P
  abbrev pub offset_of : (n : ℕ) → Reloc → ℕ
  offset_of n r = new_offset (cuts_at laid n) r.offset

  abbrev pub place_of : (n : ℕ) → Reloc → ℤ
  place_of n r = pos (start_at laid n) +ℤ pos (offset_of n r)

  -- S + A
  unfoldable pub sum_of : (n : ℕ) → Reloc → ℤ
  sum_of n r = pos (target_address files b leaders laid (target_in n r)) +ℤ addend_of (target_in n r) r

  -- S + A - T; of a symbol that nothing defines A
  unfoldable pub thread_of : (n : ℕ) → Reloc → ℤ
  thread_of n r = if is_zero (target_in n r) then r.addend else sum_of n r -ℤ pos laid.bounds.tls_start

  -- the first word of the symbol's entry of the linker's table, for what a kind takes from there
  abbrev pub word_for : List GotEntry → (key : ℕ) → Option GotUse → ℕ
  word_for table key None = 0
  word_for table key (Some usage) = unwrap_or (word_of table key usage) 0

  unfoldable pub word_at : (n : ℕ) → Reloc → ℕ
  word_at n r = word_for laid.table (key_of files (sites.place_of files n).file r.symbol) (use_of r.kind)

  -- G + A
  unfoldable pub entry_of : (n : ℕ) → Reloc → ℤ
  entry_of n r = pos (laid.got + 8 * word_at n r) +ℤ r.addend

  -- the value of a relocation that takes it from its own symbol
  unfoldable pub direct_value : (n : ℕ) → Reloc → (held : ℤ) → Option ℤ
  direct_value n r held = computed (kind_of r.kind).calculation (sum_of n r) (place_of n r) (thread_of n r) (entry_of n r) held

  -- the partner of a lower part: the first upper part at its label, in its own section
  unfoldable pub partner_of : (n : ℕ) → Reloc → Option Reloc
  partner_of n r = option_and_then (λ offset. find (is_upper_at offset) (relocs_of files n)) (label_in n (spot_in n r))

  -- the value of relocation r of section n, whose place holds a number: a lower part has that of its partner
  unfoldable pub value_of : (n : ℕ) → Reloc → (held : ℤ) → Option ℤ
  value_of n r held = if is_lower r.kind then option_and_then (λ p. direct_value n p (pos 0)) (partner_of n r) else direct_value n r held

  -- relocation r of section n has a value: its kind puts one into a place, and a lower part has its partner
  unfoldable pub gives_value : (n : ℕ) → Reloc → Bool
  gives_value n r = has_value r.kind && (not (is_lower r.kind) || is_some (partner_of n r))
