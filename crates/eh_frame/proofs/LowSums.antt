-- S + A of a relocation is no lower than its addend can be.
use Rattle.std.proofs.Common.{◌≡◌, ℕ, ◌^◌, ◌≤ℤ◌, ◌+ℤ◌, ◌-ℤ◌, ℤ, pos, negsuc, nat_le, Bool, true, false, cond, List, [], ◌∷◌, Option, Some, None, refl, arith, ◌&&◌, ◌==◌, not}
use Rattle.std.specs.List.{All}
use Rattle.std.proofs.lemmas.Bool.{cond_both, leb-false}
use Rattle.std.proofs.lemmas.Int.{ints}
use Rattle.std.proofs.lemmas.List.Elements.{All-head, All-tail}
use Rattle.lk_base.specs.declared.abi.TheConstants.{STB_WEAK}
use Rattle.lk_base.specs.RelocKinds.{goes_by_got}
use Rattle.lk_tables.specs.declared.bounds.Bound.{Bound}
use Rattle.lk_tables.specs.declared.bounds.Bound.TheVariants.{InSection, Number, Linker, Nobody}
use Rattle.lk_tables.specs.declared.bounds.Spot.{Spot}
use Rattle.lk_tables.specs.declared.bounds.Spot.TheVariants as spots
use Rattle.lk_tables.specs.declared.heads.Symbol.{Symbol}
use Rattle.lk_tables.specs.declared.objects.Reloc.{Reloc}
use Rattle.lk_tables.specs.Binding.{Bindings}
use Rattle.lk_tables.specs.Files.{File, file_at, is_section_symbol, symbol_at}
use Rattle.lk_tables.specs.Frames.{RecordList}
use Rattle.lk_tables.specs.Records.{first_of, has_width}
use Rattle.lk_tables.specs.Sites.{place_of}
use Rattle.lk_tables.specs.Targets.{bound, clamped, in_section_of, size_of, spot_by, spot_of}
use Rattle.link_sections.specs.LaidOut.{LaidOut}
use Rattle.link_sections.specs.PieceTargets.{in_section, piece_target}
use Rattle.link_sections.specs.PoolViews.{Merged, merged_at}
use Rattle.link_sections.specs.Sums.{addend_of}
use Rattle.eh_frame.specs.declared.placing.Placed.{Placed}
use Rattle.eh_frame.specs.Bytes.{sum_in, reloc_target}
use Rattle.eh_frame.specs.FrameLaws.{ArePlain, IsPlain}
use Rattle.eh_frame.specs.Header.{begin_of, function_of}
use Rattle.eh_frame.specs.Plan.{record_by}
use Rattle.eh_frame.specs.TableLaws.{NotLow}
use Rattle.eh_frame.proofs.FrameStands.{plain_record}

abbrev IsLow : ℤ → Type 0
IsLow a = negsuc (2 ^ 63) ≤ℤ a

-- what is left of an addend
abbrev RestLow : Spot → Type 0
RestLow (spots.Section section offset rest) = IsLow rest
RestLow (spots.Number n) = Unit {0}
RestLow spots.Zero = Unit {0}
RestLow (spots.Linker n) = Unit {0}
RestLow spots.Unbound = Unit {0}

rest_pos : (a size : ℕ) (t : Bool) → nat_le a size ≡ t → IsLow (pos a -ℤ pos (cond t a size))
rest_pos a size true is = omega (arith, ints)
rest_pos a size false is = let high = leb-false a size is in omega (arith, ints, high)

rest_low : (size : ℕ) (a : ℤ) → IsLow a → IsLow (a -ℤ pos (clamped size a))
rest_low size (pos a) low = rest_pos a size (nat_le a size) refl
rest_low size (negsuc a) low = omega (arith, ints, low)

in_low : (file : File) (s : Symbol) (r : Reloc) (section offset : ℕ) → IsLow r.addend → RestLow (in_section_of file s r section offset)
in_low file s r section offset low =
    cond_both (is_section_symbol s && not (goes_by_got r.kind)) (spots.Section section (clamped (size_of file s.place) r.addend) (r.addend -ℤ pos (clamped (size_of file s.place) r.addend)))
    (spots.Section section offset r.addend) RestLow (λ e. rest_low (size_of file s.place) r.addend low) (λ e. low)

by_low : (x : Bound) (file : File) (s : Symbol) (r : Reloc) → IsLow r.addend → RestLow (spot_by x file s r)
by_low (InSection section offset) file s r low = in_low file s r section offset low
by_low (Number n) file s r low = tt
by_low (Linker n) file s r low = tt
by_low Nobody file s r low = cond_both (s.binding == STB_WEAK) spots.Zero spots.Unbound RestLow (λ e. tt) (λ e. tt)

spot_low : (files : List File) (b : Bindings) (f : ℕ) (r : Reloc) → IsLow r.addend → RestLow (spot_of files b f r)
unfolding spot_of
spot_low files b f r low = by_low (bound files b f r.symbol) (file_at files f) (symbol_at (file_at files f) r.symbol) r low

-- of a section or a piece it is what is added
section_low : (m : Option Merged) (section offset : ℕ) (rest : ℤ) (r : Reloc) → IsLow rest → IsLow (addend_of (in_section m section offset rest) r)
section_low None section offset rest r low = low
section_low (Some m) section offset rest r low = low

target_low : (merged : List (Option Merged)) (spot : Spot) (r : Reloc) → RestLow spot → IsLow r.addend → IsLow (addend_of (piece_target merged spot) r)
unfolding piece_target
target_low merged (spots.Section section offset rest) r rest_is low = section_low (merged_at merged section) section offset rest r rest_is
target_low merged (spots.Number n) r rest_is low = low
target_low merged spots.Zero r rest_is low = low
target_low merged (spots.Linker n) r rest_is low = low
target_low merged spots.Unbound r rest_is low = low

sum_low : (n : ℕ) (a : ℤ) → IsLow a → IsLow (pos n +ℤ a)
sum_low n a low = omega (arith, ints, low)

module _ (files : List File) (b : Bindings) (leaders : List (Option ℕ)) (laid : LaidOut) where
  reloc_low : (f : ℕ) (r : Reloc) → IsLow r.addend → IsLow (sum_in files b leaders laid f r)
  unfolding sum_in reloc_target
  reloc_low f r low = sum_low _ _ (target_low laid.merging.merged (spot_of files b f r) r (spot_low files b f r low) low)

  begin_low : (lists : List RecordList) (f from : ℕ) (relocs : List Reloc) → All (IsPlain from) relocs → IsLow (begin_of files b leaders laid lists f (first_of relocs))
  unfolding first_of
  begin_low lists f from [] all = omega (arith, ints)
  begin_low lists f from (r ∷ rs) all = by (has_width r) (reloc_low f r (All-head (IsPlain from) r rs all).low) (begin_low lists f from rs (All-tail (IsPlain from) r rs all))
    where
      by : (t : Bool) → IsLow (sum_in files b leaders laid f r) → IsLow (begin_of files b leaders laid lists f (first_of rs)) → IsLow (begin_of files b leaders laid lists f (cond t (Some r) (first_of rs)))
      by true here later = here
      by false here later = later

  pub not_low : (lists : List RecordList) (p : Placed) → ArePlain lists → NotLow files b leaders laid lists p
  unfolding function_of
  not_low lists p plain = begin_low lists (place_of files p.number.section).file (record_by lists p.number).from (record_by lists p.number).relocs (plain_record lists p.number plain)
