-- Where no call may be relaxed there is none: no sizes, and each section is cut as if each of its calls had eight bytes.
use mathlib.Core.Path.{fun_ext}
use Rattle.std.proofs.Common.{◌≡◌, ℕ, suc, ◌<◌, ◌==◌, ◌&&◌, Bool, true, false, if◌then◌else◌, List, Option, [], ◌∷◌, ◌++◌, length, map, get_or, refl, sym, ap, ◌∙◌, arith, inl, inr}
use Rattle.std.specs.List.{All, list_all, list_any, range_with_len}
use Rattle.std.proofs.lemmas.Bool.{cases_lt, false≢true}
use Rattle.std.proofs.lemmas.List.{get_or_past}
use Rattle.std.proofs.lemmas.List.Folds.{list_any_at, list_any_none}
use Rattle.std.proofs.lemmas.List.FromFn.{fill_by_all, get_or-map-range_with_len, get_or-range_with_len, length-map-range_with_len, length-range_with_len}
use Rattle.lk_base.specs.declared.abi.TheConstants.{R_RISCV_RELAX}
use Rattle.lk_base.proofs.NoneGiven.{flat_none}
use Rattle.lk_tables.specs.declared.objects.Reloc.{Reloc}
use Rattle.lk_tables.specs.declared.tables.Tables.{Tables}
use Rattle.lk_tables.specs.Binding.{Bindings}
use Rattle.lk_tables.specs.Files.{File, by_section, file_at, no_file, relocs_at, section_total}
use Rattle.lk_tables.specs.Inside.{IsBodyInside}
use Rattle.lk_tables.specs.Sites.{place_of, relocs_of}
use Rattle.lk_tables.specs.TablesView.{files_of}
use Rattle.lk_tables.proofs.ByNumber.{length_by_section, read_by_section}
use Rattle.lk_tables.proofs.Owners.{place_of_number}
use Rattle.lk_tables.proofs.SoundFiles.{inside_body, sound_file}
use Rattle.link_sections.specs.PieceTargets.{target_at}
use Rattle.link_sections.specs.PoolViews.{Merged}
use Rattle.relax.specs.declared.calls.Call.{Call}
use Rattle.output_sections.specs.declared.rows.Row.{Row}
use Rattle.output_sections.specs.Order.{IsKnown, is_section, own_section}
use Rattle.relax.specs.CallSizes.{AreLeastSafe, IsLeastSafe, all_calls, all_cuts, bytes_at, call_at, call_of, call_rows, calls_in, calls_of, cuts_by, cuts_of, file_of, fits, has_hint, has_words, is_candidate, is_hint, is_plain, is_safe, least_of, least_size, least_sizes, member_at, no_member, place_in, reaches, reloc_of, row_at, size_in}
use Rattle.relax.specs.Unrelaxed.{has_relax, may_relax, relaxes, some_relaxes, unrelaxed, whole_cuts}
use Rattle.relax.proofs.CutSteps.{size_none}
use Rattle.relax.proofs.Fitting.{live_from}

any_none : {X : Type 0} (p : X → Bool) (xs : List X) (i : ℕ) (d : X) → list_any p xs ≡ false → i < length xs → p (get_or xs i d) ≡ false
any_none p xs i d none lt = go (p (get_or xs i d)) refl
  where
    go : (b : Bool) → p (get_or xs i d) ≡ b → b ≡ false
    go true is = absurd (false≢true (sym none ∙ list_any_at p xs i d lt is))
    go false is = refl

-- the linker may relax nothing in any section
none_at : (tables : Tables) (n : ℕ) → some_relaxes (files_of tables) ≡ false → n < section_total (files_of tables) → has_relax (relocs_of (files_of tables) n) ≡ false
none_at tables n none lt =
    let files = files_of tables in
    let f = (place_of files n).file in
    let k = (place_of files n).index in
    let file : File = file_at files f in
    let law = place_of_number files n lt in
    let inside : IsBodyInside file.bytes file.head file.object = inside_body file (sound_file tables f (live_from files f k law.index)) in
    let count = length file.head.sections in
    let p : ℕ → Bool = λ j. has_relax (relocs_at file j) in
    let here : list_any p (range_with_len 0 count) ≡ false = any_none relaxes files f no_file none law.file in
    elim (cases_lt k count) [
      | inl low ↦
          let at : get_or (range_with_len 0 count) k 0 ≡ k = get_or-range_with_len 0 count k 0 low ∙ omega arith in
          ap p (sym at) ∙ any_none p (range_with_len 0 count) k 0 here (omega (arith, low, length-range_with_len 0 count))
      | inr past ↦ ap has_relax (get_or_past file.object.relocs k [] (omega (arith, inside.counted, past)))
    ]

-- so no relocation is a call that may be relaxed
hint_none : (relocs : List Reloc) (offset : ℕ) → has_relax relocs ≡ false → has_hint relocs offset ≡ false
hint_none relocs offset none =
    list_any_none (is_hint offset) relocs (λ k d lt. ap (λ b. b && (get_or relocs k d).offset == offset) (any_none (λ r. r.kind == R_RISCV_RELAX) relocs k d none lt))

both_none : (a b : Bool) → (a && (b && false)) ≡ false
both_none true true = refl
both_none true false = refl
both_none false b = refl

no_candidate : (files : List File) (n k : ℕ) → has_relax (relocs_of files n) ≡ false → is_candidate files n k ≡ false
unfolding is_candidate
no_candidate files n k none =
    let plain = is_plain (reloc_of files n k) in
    let words = has_words (file_of files n).bytes (bytes_at files n k) in
    ap (λ h. plain && (words && h)) (hint_none (relocs_of files n) (reloc_of files n k).offset none) ∙ both_none plain words

no_call_at : (files : List File) (b : Bindings) (merged : List (Option Merged)) (leaders : List (Option ℕ)) (ms : List Row) (i n k : ℕ) →
    has_relax (relocs_of files n) ≡ false → call_at files b merged leaders ms i n k ≡ []
unfolding call_at
no_call_at files b merged leaders ms i n k none =
    let calls = reaches leaders ms (call_of i (reloc_of files n k) k (least_of (file_of files n) (bytes_at files n k))) (target_at files b merged n k) in
    ap (λ c. if c then calls else []) (no_candidate files n k none)

no_calls_in : (files : List File) (b : Bindings) (merged : List (Option Merged)) (leaders : List (Option ℕ)) (ms : List Row) (i n : ℕ) →
    has_relax (relocs_of files n) ≡ false → calls_in files b merged leaders ms i n ≡ []
unfolding calls_in
no_calls_in files b merged leaders ms i n none =
    flat_none (call_at files b merged leaders ms i n) (range_with_len 0 (length (relocs_of files n))) (λ k. no_call_at files b merged leaders ms i n k none)

module _ (tables : Tables) (b : Bindings) (merged : List (Option Merged)) (leaders : List (Option ℕ)) (ms : List Row) where
  no_calls_of : (on : Bool) (i : ℕ) → may_relax (files_of tables) on ≡ false → (is_section (member_at ms i) ≡ true → (own_section (member_at ms i)) < section_total (files_of tables))
      → calls_of (files_of tables) b merged leaders ms on i ≡ []
  unfolding calls_of
  no_calls_of true i none low = by (is_section (member_at ms i)) low
    where
      n : ℕ
      n = (own_section (member_at ms i))

      by : (t : Bool) → (t ≡ true → n < section_total (files_of tables)) → (if t then calls_in (files_of tables) b merged leaders ms i n else []) ≡ []
      by true less = no_calls_in (files_of tables) b merged leaders ms i n (none_at tables n none (less refl))
      by false less = refl
  no_calls_of false i none low = refl

  no_rows : (on : Bool) → may_relax (files_of tables) on ≡ false → All (λ m. is_section m ≡ true → own_section m < section_total (files_of tables)) ms →
      All (λ row. row ≡ []) (call_rows (files_of tables) b merged leaders ms on)
  unfolding call_rows
  no_rows on none within i d lt =
      let f = calls_of (files_of tables) b merged leaders ms on in
      let low : i < length ms = omega (arith, lt, length-map-range_with_len f 0 (length ms)) in
      get_or-map-range_with_len f 0 (length ms) i i d low (omega arith) ∙ no_calls_of on i none (within i no_member low)

-- rows without calls
module _ (rows : List (List Call)) (none : All (λ row. row ≡ []) rows) where
  no_row : (i : ℕ) → row_at rows i ≡ []
  no_row i = elim (cases_lt i (length rows)) [
    | inl lt ↦ none i [] lt
    | inr past ↦ get_or_past rows i [] past
  ]

  eight : (z : List ℕ) (i k : ℕ) → 8 ≡ size_in rows z i k
  eight z i k = size_none rows z i k (λ m e lt. absurd (omega (arith, lt, ap length (no_row i))))

no_call : (rows : List (List Call)) → All (λ row. row ≡ []) rows → all_calls rows ≡ []
no_call [] none = refl
no_call (row ∷ rows) none = ap (λ l. l ++ all_calls rows) (none 0 [] (omega arith)) ∙ no_call rows (λ k d lt. none (suc k) d (omega (arith, lt)))

no_sizes : (ms : List Row) (rows : List (List Call)) → All (λ row. row ≡ []) rows → least_sizes ms rows ≡ []
unfolding least_sizes
no_sizes ms rows none = ap (λ (l : List Call). map (least_size ms rows) (range_with_len 0 (length l))) (no_call rows none)

none_safe : (ms : List Row) (rows : List (List Call)) → All (λ row. row ≡ []) rows → is_safe ms rows [] ≡ true
unfolding is_safe
none_safe ms rows none = ap (λ (l : List Call). 0 == length l && list_all (fits ms rows []) (range_with_len 0 (length l))) (no_call rows none)

none_least : (ms : List Row) (rows : List (List Call)) → All (λ row. row ≡ []) rows → AreLeastSafe ms rows (least_sizes ms rows)
none_least ms rows none = record {
  safe = ap (is_safe ms rows) (no_sizes ms rows none) ∙ none_safe ms rows none;
  least = λ y is k lt. absurd (omega (arith, lt, ap length (no_call rows none)));
}

-- a list by section numbers
by_number : {X : Type 0} (files : List File) (give : ℕ → ℕ → X) (d : X) →
    by_section files give ≡ map (λ n. give (place_of files n).file (place_of files n).index) (range_with_len 0 (section_total files))
by_number files give d =
    fill_by_all (λ n. give (place_of files n).file (place_of files n).index) (by_section files give) (section_total files) d (length_by_section files give) (λ n lt.
    let law = place_of_number files n lt in
    ap (λ m. get_or (by_section files give) m d) (sym law.number) ∙ read_by_section files give (place_of files n).file (place_of files n).index d law.file law.index)

pub unrelaxed_at : (files : List File) → unrelaxed files ≡ map (λ n. cuts_by (λ _. 8) (relocs_of files n)) (range_with_len 0 (section_total files))
unrelaxed_at files = by_number files (whole_cuts files) []

-- a link in which no call may be relaxed
module _ (tables : Tables) (b : Bindings) (merged : List (Option Merged)) (leaders : List (Option ℕ)) (ms : List Row) (on : Bool) (none : may_relax (files_of tables) on ≡ false)
    (known : All (IsKnown (files_of tables) b) ms) where
  rows_none : All (λ row. row ≡ []) (call_rows (files_of tables) b merged leaders ms on)
  rows_none = no_rows tables b merged leaders ms on none (λ k d lt. (known k d lt).number)

  pub unrelaxed_is : unrelaxed (files_of tables) ≡ cuts_of (files_of tables) b merged leaders ms on
  unfolding cuts_of all_cuts
  unrelaxed_is =
      let files = files_of tables in
      let rows = call_rows files b merged leaders ms on in
      unrelaxed_at files
      ∙ ap (λ (s : ℕ → ℕ → ℕ). map (λ n. cuts_by (s n) (relocs_of files n)) (range_with_len 0 (section_total files)))
      (fun_ext λ n. fun_ext λ k. eight rows rows_none (least_sizes ms rows) (place_in ms n) k)

  pub unrelaxed_law : IsLeastSafe (files_of tables) b merged leaders ms on
  unrelaxed_law = none_least ms (call_rows (files_of tables) b merged leaders ms on) rows_none
