-- A link has no more COMDAT groups than sections.
use Rattle.std.proofs.Common.{◌≡◌, ℕ, zero, suc, ◌+◌, ◌<◌, ◌≤◌, Bool, true, false, if◌then◌else◌, List, [], ◌∷◌, ◌++◌, length, flat_map, get_or, All, sym, ap, ◌∙◌, subst, inl, inr, arith}
use Rattle.std.specs.List.{AllPairs, range_with_len}
use Rattle.std.proofs.lemmas.Bool.{cases_Bool, cases_lt}
use Rattle.std.proofs.lemmas.List.{get_or_past, length-append}
use Rattle.std.proofs.lemmas.List.Elements.{All-head, All-tail}
use Rattle.lk_tables.specs.declared.tables.Tables.{Tables}
use Rattle.lk_tables.specs.Files.{File, commons_before, file_at, first_section, section_count, section_total}
use Rattle.lk_tables.specs.Inside.{IsGroupBefore}
use Rattle.lk_tables.specs.Names.{text_of}
use Rattle.lk_tables.specs.Objects.{GroupView}
use Rattle.lk_tables.specs.TablesView.{files_of}
use Rattle.lk_tables.proofs.FirstNumbers.{section_more}
use Rattle.lk_tables.proofs.SoundFiles.{inside_body, sound_file}
use Rattle.comdat.specs.Discarded.{Comdat, comdat_of, comdats, comdats_in}

one_most : (c : Bool) (g : Comdat) (rest : List Comdat) → length ((if c then g ∷ [] else []) ++ rest) ≤ 1 + length rest
one_most true g rest = omega arith
one_most false g rest = omega arith

-- the groups of a file, whose sections are from one index on and below another
few_of : (b : List ℕ) (f low count : ℕ) (gs : List GroupView) → low ≤ count → All (λ g. (low ≤ g.section) × (g.section < count)) gs → AllPairs IsGroupBefore gs →
    length (flat_map (comdat_of b f) gs) + low ≤ count
few_of b f low count [] le each pairs = omega (arith, le)
few_of b f low count (g ∷ gs) le each pairs =
    let own = All-head (λ h. (low ≤ h.section) × (h.section < count)) g gs each in
    let from = own.0 in
    let below = own.1 in
    let rest = All-tail (λ h. (low ≤ h.section) × (h.section < count)) g gs each in
    let apart : AllPairs IsGroupBefore gs = λ i j d lt high. pairs (suc i) (suc j) d (omega (arith, lt)) (omega (arith, high)) in
    let over : All (λ h. (g.section + 1 ≤ h.section) × (h.section < count)) gs = λ k d lt.
    let before = (pairs zero (suc k) d (omega arith) (omega (arith, lt))).section in
    let high = (rest k d lt).1 in
    (omega (arith, before), high) in
    let later = few_of b f (g.section + 1) count gs (omega (arith, below)) over apart in
    let most = one_most g.comdat (record { file = f; section = g.section; signature = text_of b g.signature; members = g.members }) (flat_map (comdat_of b f) gs) in
    omega (arith, later, most, from)

live_count : (live : Bool) (size : ℕ) → live ≡ true → (if live then size else 0) ≡ size
live_count true size is = omega arith
live_count false size is = cc

module _ (tables : Tables) where
  few_in : (f : ℕ) → length (comdats_in (file_at (files_of tables) f) f) ≤ section_count (file_at (files_of tables) f)
  unfolding comdats_in
  few_in f =
      let file : File = file_at (files_of tables) f in
      let list = flat_map (comdat_of file.bytes f) file.object.groups in
      elim (cases_Bool file.live) [
        | inl live ↦
            let body = inside_body file (sound_file tables f live) in
            let each : All (λ g. (0 ≤ g.section) × (g.section < length file.head.sections)) file.object.groups = λ k d lt.
            let high = (body.groups k d lt).section.1 in
            (omega arith, high) in
            let few = few_of file.bytes f 0 (length file.head.sections) file.object.groups (omega arith) each body.apart in
            let same = ap (λ c. length (if c then list else [])) live in
            let size = live_count file.live (length file.head.sections + commons_before file (length file.head.symbols)) live in
            omega (arith, few, same, size)
        | inr none ↦ let same = ap (λ c. length (if c then list else [])) none in omega (arith, same)
      ]

  few_upto : (f n : ℕ) → f + n ≤ length (files_of tables)
      → length (flat_map (λ k. comdats_in (file_at (files_of tables) k) k) (range_with_len f n)) + first_section (files_of tables) f ≤ first_section (files_of tables) (f + n)
  few_upto f zero le = let e : f + 0 ≡ f = omega arith in let same = ap (first_section (files_of tables)) e in omega (arith, same)
  few_upto f (suc n) le =
      let files = files_of tables in
      let own : List Comdat = comdats_in (file_at files f) f in
      let rest = flat_map (λ k. comdats_in (file_at files k) k) (range_with_len (f + 1) n) in
      let later = few_upto (f + 1) n (omega (arith, le)) in
      let e : (f + 1) + n ≡ f + suc n = omega arith in
      let same = ap (first_section files) e in
      let next = section_more files f (omega (arith, le)) in
      omega (arith, length-append own rest, few_in f, later, same, next)

  pub few_groups : length (comdats (files_of tables)) ≤ section_total (files_of tables)
  unfolding comdats
  few_groups = let all = few_upto 0 (length (files_of tables)) (omega arith) in let e : 0 + length (files_of tables) ≡ length (files_of tables) = omega arith in let same = ap (first_section (files_of tables)) e in omega (arith, all, same)
