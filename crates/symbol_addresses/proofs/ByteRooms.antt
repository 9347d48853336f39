-- The address of a byte of a section fits into 64 bits.
use Rattle.std.proofs.Common.{ℕ, zero, suc, ◌-◌, ◌<◌, ◌≤◌, ◌^◌, Option, Some, None, List, [], ◌∷◌, get_or, arith, slice_index, pos}
use Rattle.std.specs.Prelude.{slice_index_or}
use Rattle.std.specs.List.{All}
use Rattle.lk_base.specs.declared.abi.TheConstants.{NOBITS_MAX}
use Rattle.lk_tables.specs.Binding.{Bindings}
use Rattle.lk_tables.specs.Files.{File}
use Rattle.link_sections.specs.Addresses.{byte_address, no_pool, piece_address, target_address}
use Rattle.link_sections.specs.Cuts.{AreApart, Cut}
use Rattle.link_sections.specs.LaidOut.{LaidOut, address_in, cuts_at}
use Rattle.link_sections.specs.Leaders.{leader_of}
use Rattle.link_sections.specs.PieceTargets.{in_section, part_at}
use Rattle.link_sections.specs.PoolViews.{Merged, merged_at}
use Rattle.link_sections.specs.Sound.{IsSound}
use Rattle.link_sections.proofs.CutSums.{no_more}

apart_past : AreApart []
apart_past = record { kept = λ k d lt. absurd (omega (arith, lt)); order = λ i d lt. absurd (omega (arith, lt)) }

apart_in : (rows : List (List Cut)) (n : ℕ) → All AreApart rows → AreApart (get_or rows n [])
apart_in [] n all = apart_past
apart_in (r ∷ rs) zero all = all 0 [] (omega arith)
apart_in (r ∷ rs) (suc n) all = apart_in rs n (λ k d lt. all (suc k) d (omega (arith, lt)))

module _ (files : List File) (b : Bindings) (leaders : List (Option ℕ)) (laid : LaidOut) (sound : IsSound files b leaders laid) where
  section_few : (section offset : ℕ) → offset ≤ NOBITS_MAX → address_in leaders laid section offset < 2 ^ 64
  unfolding address_in
  section_few section offset near =
      let n = leader_of leaders section in
      let room = sound.room n in
      let most = no_more (cuts_at laid n) offset (apart_in laid.cuts n sound.apart) in
      omega (arith, room, most, near)

  piece_few : (pool piece offset from : ℕ) → slice_index (slice_index_or laid.merging.pools pool no_pool).positions piece < 2 ^ 60 → offset ≤ NOBITS_MAX →
      piece_address laid pool piece (offset - from) < 2 ^ 64
  unfolding piece_address
  piece_few pool piece offset from few near =
      let room = sound.pool_room pool in
      omega (arith, room, few, near)

  -- if no piece stands far in its pool
  target_few : (m : Option Merged) (section offset : ℕ) →
      ((pool piece : ℕ) → slice_index (slice_index_or laid.merging.pools pool no_pool).positions piece < 2 ^ 60) → offset ≤ NOBITS_MAX →
      target_address files b leaders laid (in_section m section offset (pos 0)) < 2 ^ 64
  target_few None section offset few near = section_few section offset near
  target_few (Some m) section offset few near =
      let part = part_at m.parts offset in
      piece_few m.pool part.piece offset part.start (few m.pool part.piece) near

  pub byte_few : (section offset : ℕ) →
      ((pool piece : ℕ) → slice_index (slice_index_or laid.merging.pools pool no_pool).positions piece < 2 ^ 60) → offset ≤ NOBITS_MAX →
      byte_address files b leaders laid section offset < 2 ^ 64
  unfolding byte_address
  byte_few section offset few near = target_few (merged_at laid.merging.merged section) section offset few near
