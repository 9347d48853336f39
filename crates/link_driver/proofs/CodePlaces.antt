-- No relocation fills a byte of the place of another one's call, or of what an alignment keeps.
use Rattle.std.proofs.Common.{◌≡◌, ℕ, ◌+◌, ◌<◌, ◌≤◌, ◌⊎◌, ◌==◌, ◌||◌, not, Bool, true, false, if◌then◌else◌, Option, Some, suc, List, [], ◌∷◌, length, find, get_or, refl, sym, ap, ◌∙◌, arith, inl, inr}
use Rattle.std.specs.Option.{option_map_or}
use Rattle.std.proofs.lemmas.Bool.{and_parts, cases_lt, eqb-true, false≢true, lt-ltb}
use Rattle.lk_base.specs.RelocKinds.{is_uleb, kind_of, moves_bytes}
use Rattle.lk_tables.specs.declared.objects.Reloc.{Reloc}
use Rattle.lk_tables.specs.declared.tables.Tables.{Tables}
use Rattle.lk_tables.specs.Binding.{Bindings}
use Rattle.lk_tables.specs.Files.{File, file_at, no_reloc, section_at, section_total}
use Rattle.lk_tables.specs.Relocations.{end_of, has_bytes, value_len}
use Rattle.lk_tables.specs.Sites.{contents_at, place_of, relocs_of}
use Rattle.lk_tables.specs.TablesView.{files_of}
use Rattle.lk_tables.proofs.Widths.{value_least, value_plain}
use Rattle.link_sections.specs.Calls.{IsOwnCall, acting_number, acting_width, call_size, is_call, is_call_cut, kind_by_size, width_in}
use Rattle.link_sections.specs.Cuts.{AreApart, Cut, new_offset}
use Rattle.link_sections.specs.LaidOut.{LaidOut, cuts_at}
use Rattle.link_sections.specs.Leaders.{leads}
use Rattle.link_sections.specs.Sound.{IsSound}
use Rattle.link_sections.proofs.CutSums.{new_rises}
use Rattle.layout.proofs.OwnCalls.{width_lies}
use Rattle.relax.proofs.Fitting.{AreSound, bytes_if, call_kind, call_width, end_is, sound_of}
use Rattle.reloc_apply.specs.Staying.{no_cut}
use Rattle.reloc_apply.proofs.LaidFacts.{cuts_apart}
use Rattle.reloc_apply.proofs.States.{at_of, width_of}
use Rattle.link_driver.specs.Code.{HaveOwnCuts}
use Rattle.link_driver.proofs.CodeKinds.{call_is}
use Rattle.link_driver.proofs.KeptCuts.{kept_end}
use Rattle.link_driver.proofs.PlacedBytes.{IsAway, own}

or_true : (a b : Bool) → b ≡ true → (a || b) ≡ true
or_true true b is = refl
or_true false b is = is

plain_if : (t : Bool) → not t ≡ true → t ≡ false
plain_if true is = absurd (false≢true is)
plain_if false is = refl

-- the cut by which a call is short
pub record IsCutOf (cuts : List Cut) (o size : ℕ) : Type 0 where
  pub index : ℕ
  pub among : index < length cuts
  pub at : (get_or cuts index no_cut).at ≡ o
  pub plain : (get_or cuts index no_cut).is_align ≡ false
  pub kept : (get_or cuts index no_cut).kept ≡ size

cut_found : (o size : ℕ) (cuts : List Cut) → option_map_or (λ (c : Cut). c.kept) (find (is_call_cut o) cuts) 8 ≡ size → size < 8 → IsCutOf cuts o size
cut_found o size [] is small = absurd (omega (arith, is, small))
cut_found o size (c ∷ cs) is small = by (is_call_cut o c) refl is (λ rest. cut_found o size cs rest small)
  where
    by : (t : Bool) → is_call_cut o c ≡ t → option_map_or (λ (c : Cut). c.kept) (if t then Some c else find (is_call_cut o) cs) 8 ≡ size
        → (option_map_or (λ (c : Cut). c.kept) (find (is_call_cut o) cs) 8 ≡ size → IsCutOf cs o size) → IsCutOf (c ∷ cs) o size
    by true test is rest =
        let parts = and_parts (c.at == o) (not c.is_align) test in
        record { index = 0; among = omega arith; at = eqb-true c.at o parts.0; plain = plain_if c.is_align parts.1; kept = is }
    by false test is rest =
        let later = rest is in
        let lt = later.among in
        record { index = suc later.index; among = omega (arith, lt); at = later.at; plain = later.plain; kept = later.kept }

pub cut_of_call : (cuts : List Cut) (o size : ℕ) → call_size cuts o ≡ size → size < 8 → IsCutOf cuts o size
unfolding call_size
cut_of_call cuts o size is small = cut_found o size cuts is small

module _ (tables : Tables) (b : Bindings) (leaders : List (Option ℕ)) (laid : LaidOut) (sound : IsSound (files_of tables) b leaders laid) (cuts_are : HaveOwnCuts (files_of tables) leaders laid)
    (n : ℕ) (low : n < section_total (files_of tables)) (leader : leads leaders n ≡ true) where
  abbrev files : List File
  files = files_of tables

  abbrev contents : List ℕ
  contents = contents_at (files_of tables) n

  abbrev cuts : List Cut
  cuts = cuts_at laid n

  abbrev reloc : ℕ → Reloc
  reloc k = own (files_of tables) b leaders laid n k

  abbrev at : ℕ → ℕ
  at k = at_of (files_of tables) b leaders laid n (own (files_of tables) b leaders laid n k)

  abbrev width : ℕ → ℕ
  width k = width_of (files_of tables) b leaders laid n (own (files_of tables) b leaders laid n k)

  abbrev len : ℕ → ℕ
  len k = value_len (contents_at (files_of tables) n) (own (files_of tables) b leaders laid n k)

  apart : AreApart cuts
  apart = cuts_apart files b leaders laid n sound

  relocs_are : AreSound contents (section_at (file_at files (place_of files n).file) (place_of files n).index).size (relocs_of files n)
  relocs_are = sound_of tables n low

  -- a place ends at the new offset of its old end, or before it; one that gets no value has no bytes
  end_low : (j : ℕ) → j < length (relocs_of files n) → at j + width j ≤ new_offset cuts ((reloc j).offset + len j)
  end_low j lt =
      width_lies contents cuts ((reloc j).offset + len j) (reloc j) apart (cuts_are.some n low leader) (omega arith) (λ wide. cuts_are.met n low leader j no_reloc lt wide)

  none_wide : (r : Reloc) → value_len contents r ≡ 0 → width_of files b leaders laid n r ≡ 0
  unfolding width_in acting_number
  none_wide r none = by_uleb (is_uleb r.kind) refl
    where
      by_call : (c : Bool) → is_call r.kind ≡ c → is_uleb r.kind ≡ false → (kind_of (if c then kind_by_size (call_size cuts r.offset) r.kind else r.kind)).width ≡ 0
      by_call true call plain = absurd (omega (arith, none, value_plain contents r plain, (call_kind r.kind call).width))
      by_call false call plain = sym (value_plain contents r plain) ∙ none

      by_uleb : (u : Bool) → is_uleb r.kind ≡ u → (if u then value_len contents r else acting_width cuts r) ≡ 0
      by_uleb true uleb = none
      by_uleb false plain = by_call (is_call r.kind) refl plain

  away_if_none : (j q : ℕ) → len j ≡ 0 → IsAway files b leaders laid n q j
  away_if_none j q none =
      let w = none_wide (reloc j) none in
      elim (cases_lt q (at j)) [
        | inl lt ↦ inl lt
        | inr le ↦ inr (omega (arith, le, w))
      ]

  some_bytes : (j : ℕ) → j < length (relocs_of files n) → 0 < len j → has_bytes contents (reloc j) ≡ true
  some_bytes j lt wide =
      let least = value_least contents (reloc j) (relocs_are.kinds j no_reloc lt) in
      lt-ltb (reloc j).offset (end_of contents (reloc j)) (omega (arith, wide, least))

  -- where it stands beside a call
  away_beside : (k j q : ℕ) → k < length (relocs_of files n) → j < length (relocs_of files n) → is_call (reloc k).kind ≡ true → (j ≡ k → ⊥) → 0 < len j
      → at k ≤ q → q < at k + width k → IsAway files b leaders laid n q j
  away_beside k j q k_low j_low call other wide from below =
      let moves = (call_kind (reloc k).kind call).moves in
      let kind = relocs_are.kinds k no_reloc k_low in
      let eight = call_width (reloc k) call in
      let bytes = bytes_if contents (reloc k) moves kind (omega (arith, eight)) in
      elim (cases_lt j k) [
        | inl less ↦
            let before = relocs_are.apart j k no_reloc less k_low (some_bytes j j_low wide) bytes (or_true (moves_bytes (reloc j).kind) (moves_bytes (reloc k).kind) moves) in
            let least = value_least contents (reloc j) (relocs_are.kinds j no_reloc j_low) in
            let rises = new_rises cuts ((reloc j).offset + len j) (reloc k).offset apart (omega (arith, before, least)) in
            inr (omega (arith, end_low j j_low, rises, from))
        | inr upto ↦
            let more : k < j = elim (cases_lt k j) [ inl lt ↦ lt | inr le ↦ absurd (other (omega (arith, upto, le))) ] in
            let before = relocs_are.apart k j no_reloc more j_low bytes (some_bytes j j_low wide) (ap (λ m. m || moves_bytes (reloc j).kind) moves) in
            let end = end_is contents (reloc k) moves kind in
            let eight_bytes : len k ≡ 8 = value_plain contents (reloc k) (call_is (reloc k).kind call).uleb ∙ (call_kind (reloc k).kind call).width in
            let rises = new_rises cuts ((reloc k).offset + len k) (reloc j).offset apart (omega (arith, before, end, eight, eight_bytes)) in
            inl (omega (arith, end_low k k_low, rises, below))
      ]

  pub away_from_call : (k j q : ℕ) → k < length (relocs_of files n) → j < length (relocs_of files n) → is_call (reloc k).kind ≡ true → (j ≡ k → ⊥)
      → at k ≤ q → q < at k + width k → IsAway files b leaders laid n q j
  away_from_call k j q k_low j_low call other from below = elim (cases_lt 0 (len j)) [
    | inl wide ↦ away_beside k j q k_low j_low call other wide from below
    | inr none ↦ away_if_none j q (omega (arith, none))
  ]

  -- and beside an alignment
  pub away_from_nops : (i j q : ℕ) → i < length cuts → j < length (relocs_of files n) → (get_or cuts i no_cut).is_align ≡ true
      → new_offset cuts (get_or cuts i no_cut).at ≤ q → q < new_offset cuts (get_or cuts i no_cut).at + (get_or cuts i no_cut).kept → IsAway files b leaders laid n q j
  away_from_nops i j q i_low j_low align from below = elim (cases_lt 0 (len j)) [
    | inl wide ↦ by (cuts_are.met n low leader j no_reloc j_low wide i no_cut i_low)
    | inr none ↦ away_if_none j q (omega (arith, none))
  ]
    where
      by : ((get_or cuts i no_cut).at + (get_or cuts i no_cut).whole ≤ (reloc j).offset) ⊎ (((reloc j).offset + len j ≤ (get_or cuts i no_cut).at) ⊎ IsOwnCall (get_or cuts i no_cut) (reloc j))
          → IsAway files b leaders laid n q j
      by (inl before) =
          let end = kept_end cuts i apart i_low (cuts_are.some n low leader i no_cut i_low) in
          let rises = new_rises cuts ((get_or cuts i no_cut).at + (get_or cuts i no_cut).whole) (reloc j).offset apart before in
          inl (omega (arith, end, rises, below))
      by (inr (inl after)) =
          let rises = new_rises cuts ((reloc j).offset + len j) (get_or cuts i no_cut).at apart after in
          inr (omega (arith, end_low j j_low, rises, from))
      by (inr (inr call)) = absurd (false≢true (sym call.plain ∙ align))
