-- Relocations of a section done in order in a window, and their places written into a block.
use Rattle.std.proofs.Common.{◌≡◌, ◌⊎◌, inl, inr, true, ℕ, ◌+◌, ◌-◌, ◌<◌, ◌≤◌, List, length, take, get_or, slice_index, refl, sym, ap, ◌∙◌, arith, subst, ℤ, pos}
use Rattle.std.specs.List.{All}
use Rattle.std.specs.Prelude.{if◌then◌else◌}
use Rattle.std.proofs.lemmas.Bool.{cases_Bool, cases_lt}
use Rattle.lk_tables.specs.declared.objects.Reloc.{Reloc}
use Rattle.lk_tables.specs.Files.{no_reloc}
use Rattle.lk_tables.specs.Sites.{relocs_of}
use Rattle.link_sections.specs.CutsView.{cut_views}
use Rattle.link_sections.specs.Cuts.{Cut}
use Rattle.link_sections.specs.declared.views.View.{View}
use Rattle.link_sections.specs.Views.{binding_in, files_in, laid_in, leaders_in}
use Rattle.reloc_apply.specs.declared.sources.Source.{Source}
use Rattle.reloc_apply.specs.Image.{over, piece}
use Rattle.reloc_apply.specs.Relocated.{bytes_after, contents_at, operand, put, section_bytes, staying_at, value_at}
use Rattle.reloc_apply.specs.Sites.{IsFresh, IsMadeFrom, IsOver, Shows, bytes_by, end_by, first_bytes, offset_by, set_by, sets_all}
use Rattle.reloc_apply.specs.Staying.{staying}
use Rattle.reloc_apply.specs.Values.{value_of}
use Rattle.rv_code.specs.Places.{number_of, held_at}
use Rattle.reloc_apply.proofs.BytesAfter.{AllFit, after_fresh, after_last, after_length, after_next, whole_length}
use Rattle.reloc_apply.proofs.SetPlaces.{put_same}
use Rattle.reloc_apply.proofs.States.{Fits, at_of, operand_same, plain_few, put_after, wide_few, width_of}
use Rattle.reloc_apply.proofs.WindowSteps.{over_put, over_same, over_twice, window_held}

-- what holds of a section once the first k of its relocations are done: the window stands at an offset
pub record IsScanned (view : View) (s : Source) (k from at : ℕ) (window before block : List ℕ) : Type 0 where
  pub size : length window ≡ 10
  pub shows : Shows (bytes_by view s k) at window
  pub fresh : IsFresh (first_bytes view s) (bytes_by view s k) (at + 10)
  pub rises : (j : ℕ) → k ≤ j → j < length s.relocs.now → at ≤ offset_by view s (get_or s.relocs.now j no_reloc)
  pub same : length block ≡ length before
  pub over : IsOver from s.at (bytes_by view s k) before block

-- the window stands at the place of relocation k, whose value sets all bits there, with the bytes that stay: no place before reaches past it
pub record IsBegun (view : View) (s : Source) (k from at : ℕ) (window before block : List ℕ) : Type 0 where
  pub size : length window ≡ 10
  pub at_is : at ≡ offset_by view s (get_or s.relocs.now k no_reloc)
  pub sets : sets_all (get_or s.relocs.now k no_reloc).kind ≡ true
  pub shows : Shows (first_bytes view s) at window
  pub clear : (j : ℕ) → j < k → end_by view s (get_or s.relocs.now j no_reloc) ≤ end_by view s (get_or s.relocs.now k no_reloc)
  pub same : length block ≡ length before
  pub over : IsOver from s.at (bytes_by view s k) before block

-- one of the two, of which the second is so only before the first of some relocations
abbrev pub Holds : View → Source → (first last k from at : ℕ) → (window before block : List ℕ) → Type 0
Holds view s first last k from at window before block =
    IsScanned view s k from at window before block ⊎ ((k ≡ first) × (first < last) × IsBegun view s k from at window before block)

module _ (view : View) (s : Source) (is : IsMadeFrom view s) where
  abbrev pub first : List ℕ
  first = staying_at (files_in view) (binding_in view) (leaders_in view) (laid_in view) s.site.section

  abbrev pub after : ℕ → List ℕ
  after k = bytes_after (files_in view) (binding_in view) (leaders_in view) (laid_in view) s.site.section k

  abbrev pub reloc : ℕ → Reloc
  reloc k = get_or s.relocs.now k no_reloc

  -- the one before it; before the first that one itself
  abbrev pub prior : ℕ → Reloc
  prior k = reloc (k - 1)

  abbrev pub place : ℕ → ℕ
  place k = at_of (files_in view) (binding_in view) (leaders_in view) (laid_in view) s.site.section (reloc k)

  abbrev pub width : ℕ → ℕ
  width k = width_of (files_in view) (binding_in view) (leaders_in view) (laid_in view) s.site.section (reloc k)

  pub first_is : first ≡ staying (cut_views s.cuts.now) 0 s.raw.now
  unfolding staying_at
  first_is =
      ap (λ (cs : List Cut). staying cs 0 (contents_at (files_in view) (binding_in view) (leaders_in view) (laid_in view) s.site.section)) (sym is.cuts) ∙ ap (staying (cut_views s.cuts.now) 0) (sym is.raw)

  abbrev own : ℕ → Reloc
  own k = get_or (relocs_of (files_in view) s.site.section) k no_reloc

  same_reloc : (k : ℕ) → get_or (relocs_of (files_in view) s.site.section) k no_reloc ≡ reloc k
  same_reloc k = ap (λ (l : List Reloc). get_or l k no_reloc) (sym is.relocs)

  pub fit : AllFit (files_in view) (binding_in view) (leaders_in view) (laid_in view) s.site.section
  fit = subst (λ (rs : List Reloc). All (Fits (files_in view) (binding_in view) (leaders_in view) (laid_in view) s.site.section first) rs) is.relocs is.places

  count : length (relocs_of (files_in view) s.site.section) ≡ length s.relocs.now
  count = ap (λ (l : List Reloc). length l) (sym is.relocs)

  pub fits_at : (k : ℕ) → k < length s.relocs.now → place k + width k ≤ length first
  fits_at k lt = is.places k no_reloc lt

  pub rise : (i j : ℕ) → i ≤ j → j < length s.relocs.now → place i ≤ place j
  rise i j le lt = is.rising i j no_reloc le lt

  pub next_is : (k : ℕ) → k < length s.relocs.now → after (k + 1) ≡ put (files_in view) (binding_in view) (leaders_in view) (laid_in view) s.site.section (prior k) (reloc k) (after k)
  next_is k lt =
      after_next (files_in view) (binding_in view) (leaders_in view) (laid_in view) s.site.section k
      ∙ ap (λ (r : Reloc). put (files_in view) (binding_in view) (leaders_in view) (laid_in view) s.site.section (get_or (relocs_of (files_in view) s.site.section) (k - 1) no_reloc) r (after k)) (same_reloc k)
      ∙ ap (λ (p : Reloc). put (files_in view) (binding_in view) (leaders_in view) (laid_in view) s.site.section p (reloc k) (after k)) (same_reloc (k - 1))

  pub long : (k : ℕ) → length (after k) ≡ length first
  long k = after_length (files_in view) (binding_in view) (leaders_in view) (laid_in view) s.site.section k

  pub fresh_from : (k q : ℕ) → k ≤ length s.relocs.now → ((j : ℕ) → j < k → j < length s.relocs.now → place j + width j ≤ q) → slice_index (after k) q ≡ slice_index first q
  fresh_from k q most past =
      after_fresh (files_in view) (binding_in view) (leaders_in view) (laid_in view) s.site.section fit k q (omega (arith, most, count)) (λ j less lt.
      let P : Reloc → Type 0 = λ r. at_of (files_in view) (binding_in view) (leaders_in view) (laid_in view) s.site.section r + width_of (files_in view) (binding_in view) (leaders_in view) (laid_in view) s.site.section r ≤ q in
      subst P (sym (same_reloc j)) (past j less (omega (arith, lt, count))))

  pub last_from : (k q : ℕ) → k ≤ length s.relocs.now → ((j : ℕ) → k ≤ j → j < length s.relocs.now → q < place j) →
      slice_index (section_bytes (files_in view) (binding_in view) (leaders_in view) (laid_in view) s.site.section) q ≡ slice_index (after k) q
  last_from k q most ahead =
      after_last (files_in view) (binding_in view) (leaders_in view) (laid_in view) s.site.section fit k q (omega (arith, most, count)) (λ j le lt.
      let P : Reloc → Type 0 = λ r. q < at_of (files_in view) (binding_in view) (leaders_in view) (laid_in view) s.site.section r in
      subst P (sym (same_reloc j)) (ahead j le (omega (arith, lt, count))))

  scan_start : (start from at : ℕ) (window block : List ℕ) → at ≡ place start → length window ≡ 10 → start < length s.relocs.now →
      ((j : ℕ) → j < start → place j + width j ≤ place start) → IsOver from s.at (after start) block block →
      Shows (staying (cut_views s.cuts.now) 0 s.raw.now) at window → IsScanned view s start from at window block block
  scan_start start from at window block at_is size some clear shown shows =
      let P : List ℕ → Type 0 = λ xs. Shows xs at window in
      let held = subst P (sym first_is) shows in
      let fresh : (q : ℕ) → at ≤ q → slice_index (after start) q ≡ slice_index first q =
      λ q le. fresh_from start q (omega (arith, some)) (λ j less lt. let own = clear j less in omega (arith, own, le, at_is)) in
      record {
        size = size;
        shows = λ j lt. held j lt ∙ sym (fresh (at + j) (omega arith));
        fresh = λ q le. fresh q (omega (arith, le));
        rises = λ j le lt. omega (arith, rise start j le lt, at_is);
        same = refl;
        over = shown;
      }

  -- the same where the first value sets all bits of its place
  pub scan_begin : (start from at : ℕ) (window block : List ℕ) → at ≡ place start → length window ≡ 10 → start < length s.relocs.now → sets_all (reloc start).kind ≡ true →
      ((j : ℕ) → j < start → place j + width j ≤ place start + set_by view s (reloc start)) → IsOver from s.at (after start) block block →
      Shows (staying (cut_views s.cuts.now) 0 s.raw.now) at window → IsBegun view s start from at window block block
  scan_begin start from at window block at_is size some sets clear shown shows =
      let P : List ℕ → Type 0 = λ xs. Shows xs at window in
      let all : set_by view s (reloc start) ≡ width start = ap (λ d. if d then width start else 0) sets in
      record {
        size = size;
        at_is = at_is;
        sets = sets;
        shows = subst P (sym first_is) shows;
        clear = λ j less. let own = clear j less in omega (arith, own, all);
        same = refl;
        over = shown;
      }

  scan_made : (k from at2 : ℕ) (window2 before block block2 : List ℕ) → k < length s.relocs.now → at2 ≡ place k → length window2 ≡ 10 → length block ≡ length before →
      IsOver from s.at (after k) before block → ((q : ℕ) → at2 + 10 ≤ q → slice_index (after k) q ≡ slice_index first q) →
      Shows (put (files_in view) (binding_in view) (leaders_in view) (laid_in view) s.site.section (prior k) (reloc k) (after k)) at2 window2 → length block2 ≡ length block →
      IsOver from (s.at + place k) (take (width k) window2) block block2 → IsScanned view s (k + 1) from at2 window2 before block2
  scan_made k from at2 window2 before block block2 lt at_is size held over_before tail shown same over_is =
      let few = wide_few (files_in view) (binding_in view) (leaders_in view) (laid_in view) s.site.section (reloc k) in
      let fits : Fits (files_in view) (binding_in view) (leaders_in view) (laid_in view) s.site.section (after k) (reloc k) = omega (arith, fits_at k lt, long k) in
      let next = next_is k lt in
      let P : List ℕ → Type 0 = λ xs. Shows xs at2 window2 in
      let here : (q : ℕ) → at2 + 10 ≤ q → slice_index (after (k + 1)) q ≡ slice_index first q =
      λ q le.
      ap (λ xs. slice_index xs q) next
      ∙ put_after (files_in view) (binding_in view) (leaders_in view) (laid_in view) s.site.section (prior k) (reloc k) (after k) q fits (omega (arith, le, few, at_is))
      ∙ tail q le in
      let Q : ℕ → Type 0 = λ p. (j : ℕ) → j < length window2 → slice_index window2 j ≡ slice_index (put (files_in view) (binding_in view) (leaders_in view) (laid_in view) s.site.section (prior k) (reloc k) (after k)) (p + j) in
      record {
        size = size;
        shows = subst P (sym next) shown;
        fresh = here;
        rises = λ j le less. omega (arith, rise k j (omega (arith, le)) less, at_is);
        same = same ∙ held;
        over = λ i less.
            over_is i (omega (arith, less, held))
            ∙ ap (λ u. over (piece (s.at + place k) (take (width k) window2)) u (from + i)) (over_before i less)
            ∙ over_put (files_in view) (binding_in view) (leaders_in view) (laid_in view) s.site.section (prior k) (reloc k) (after k) window2 s.at (slice_index before i) (from + i) few size fits
            (subst Q at_is shown)
            ∙ ap (λ xs. over (piece s.at xs) (slice_index before i) (from + i)) (sym next);
      }

  -- one relocation more
  scan_next : (k from at at2 : ℕ) (window window2 before block block2 : List ℕ) → k < length s.relocs.now → IsScanned view s k from at window before block →
      at2 ≡ place k → length window2 ≡ length window → length block2 ≡ length block →
      ((state : List ℕ) → Shows state at window → IsFresh first state (at + 10) → length state ≡ length first →
      Shows (put (files_in view) (binding_in view) (leaders_in view) (laid_in view) s.site.section (prior k) (reloc k) state) at2 window2) →
      IsOver from (s.at + place k) (take (width k) window2) block block2 → IsScanned view s (k + 1) from at2 window2 before block2
  scan_next k from at at2 window window2 before block block2 lt scanned at_is size same shows over_is =
      let up = scanned.rises k (omega arith) lt in
      scan_made k from at2 window2 before block block2 lt at_is (size ∙ scanned.size) scanned.same scanned.over
      (λ q le. scanned.fresh q (omega (arith, le, at_is, up)))
      (shows (after k) scanned.shows scanned.fresh (long k)) same over_is

  begun_next : (k from at at2 : ℕ) (window window2 before block block2 : List ℕ) → k < length s.relocs.now → IsBegun view s k from at window before block →
      at2 ≡ place k → length window2 ≡ length window → length block2 ≡ length block →
      ((state : List ℕ) → Shows state at window → IsFresh first state (at + 10) → length state ≡ length first →
      Shows (put (files_in view) (binding_in view) (leaders_in view) (laid_in view) s.site.section (prior k) (reloc k) state) at2 window2) →
      IsOver from (s.at + place k) (take (width k) window2) block block2 → IsScanned view s (k + 1) from at2 window2 before block2
  begun_next k from at at2 window window2 before block block2 lt begun at_is size same shows over_is =
      let few = wide_few (files_in view) (binding_in view) (leaders_in view) (laid_in view) s.site.section (reloc k) in
      let fits : Fits (files_in view) (binding_in view) (leaders_in view) (laid_in view) s.site.section (after k) (reloc k) = omega (arith, fits_at k lt, long k) in
      let own : Fits (files_in view) (binding_in view) (leaders_in view) (laid_in view) s.site.section first (reloc k) = fits_at k lt in
      let tail : (q : ℕ) → place k + width k ≤ q → slice_index (after k) q ≡ slice_index first q =
      λ q le. fresh_from k q (omega (arith, lt)) (λ j less within. let end = begun.clear j less in omega (arith, end, le)) in
      let shown = shows first begun.shows (λ q le. refl) refl in
      let full : length window2 ≡ 10 = size ∙ begun.size in
      scan_made k from at2 window2 before block block2 lt at_is full begun.same begun.over
      (λ q le. tail q (omega (arith, le, few, at_is)))
      (λ j less. shown j less ∙ elim (cases_lt j (width k)) [
        | inl low ↦
            put_same (files_in view) (binding_in view) (leaders_in view) (laid_in view) s.site.section (prior k) (reloc k) first (after k) (at2 + j) begun.sets own fits
            (omega (arith, at_is)) (omega (arith, at_is, low))
        | inr high ↦
            put_after (files_in view) (binding_in view) (leaders_in view) (laid_in view) s.site.section (prior k) (reloc k) first (at2 + j) own (omega (arith, at_is, high))
            ∙ sym (tail (at2 + j) (omega (arith, at_is, high)))
            ∙ sym (put_after (files_in view) (binding_in view) (leaders_in view) (laid_in view) s.site.section (prior k) (reloc k) (after k) (at2 + j) fits (omega (arith, at_is, high)))
      ]) same over_is

  pub holds_next : (begin last k from at at2 : ℕ) (window window2 before block block2 : List ℕ) → k < length s.relocs.now → Holds view s begin last k from at window before block →
      at2 ≡ place k → length window2 ≡ length window → length block2 ≡ length block →
      ((state : List ℕ) → Shows state at window → IsFresh first state (at + 10) → length state ≡ length first →
      Shows (put (files_in view) (binding_in view) (leaders_in view) (laid_in view) s.site.section (prior k) (reloc k) state) at2 window2) →
      IsOver from (s.at + place k) (take (width k) window2) block block2 → Holds view s begin last (k + 1) from at2 window2 before block2
  holds_next begin last k from at at2 window window2 before block block2 lt (inl scanned) at_is size same shows over_is =
      inl (scan_next k from at at2 window window2 before block block2 lt scanned at_is size same shows over_is)
  holds_next begin last k from at at2 window window2 before block block2 lt (inr begun) at_is size same shows over_is =
      inl (begun_next k from at at2 window window2 before block block2 lt begun.2 at_is size same shows over_is)

  pub holds_start : (begin last from at : ℕ) (window block : List ℕ) → begin ≤ last → at ≡ place begin → length window ≡ 10 → begin < length s.relocs.now →
      ((j : ℕ) → j < begin → place j + width j ≤ place begin + set_by view s (reloc begin)) → (begin ≡ last → (j : ℕ) → j < begin → place j + width j ≤ place begin) →
      IsOver from s.at (after begin) block block → Shows (staying (cut_views s.cuts.now) 0 s.raw.now) at window → Holds view s begin last begin from at window block block
  holds_start begin last from at window block le at_is size some clear own shown shows = elim (cases_Bool (sets_all (reloc begin).kind)) [
    | inl on ↦ elim (cases_lt begin last) [
      | inl lt ↦ inr (refl, lt, scan_begin begin from at window block at_is size some on clear shown shows)
      | inr ge ↦ inl (scan_start begin from at window block at_is size some (own (omega (arith, le, ge))) shown shows)
    ]
    | inr off ↦
        let none : set_by view s (reloc begin) ≡ 0 = ap (λ d. if d then width begin else 0) off in
        inl (scan_start begin from at window block at_is size some (λ j less. let end = clear j less in omega (arith, end, none)) shown shows)
  ]

  -- a block that has the bytes that stay, as far as no relocation before reaches it
  pub reached_from : (start from : ℕ) (block : List ℕ) → start ≤ length s.relocs.now → ((j : ℕ) → j < start → s.at + (place j + width j) ≤ from) →
      IsOver from s.at first block block → IsOver from s.at (after start) block block
  reached_from start from block most clear shown = λ i lt.
      shown i lt
      ∙ over_same s.at first (after start) (slice_index block i) (from + i) (sym (long start))
      (λ le. sym (fresh_from start (from + i - s.at) most (λ j less within. let own = clear j less in omega (arith, own))))

  -- and none after reaches it
  pub reached_to : (k from end : ℕ) (before block : List ℕ) → from + length before ≡ end → k ≤ length s.relocs.now → ((j : ℕ) → k ≤ j → j < length s.relocs.now → end ≤ s.at + place j) →
      IsOver from s.at (after k) before block → IsOver from s.at (section_bytes (files_in view) (binding_in view) (leaders_in view) (laid_in view) s.site.section) before block
  reached_to k from end before block end_is most ahead shown = λ i lt.
      shown i lt
      ∙ over_same s.at (after k) (section_bytes (files_in view) (binding_in view) (leaders_in view) (laid_in view) s.site.section) (slice_index before i) (from + i)
      (long k ∙ sym (whole_length (files_in view) (binding_in view) (leaders_in view) (laid_in view) s.site.section))
      (λ le. sym (last_from k (from + i - s.at) most (λ j least within. let own = ahead j least within in omega (arith, own, le, lt, end_is))))

  -- the bytes that stay were laid over the block before
  pub both_over : (from : ℕ) (before mid block : List ℕ) → length mid ≡ length before → IsOver from s.at first before mid →
      IsOver from s.at (section_bytes (files_in view) (binding_in view) (leaders_in view) (laid_in view) s.site.section) mid block →
      IsOver from s.at (section_bytes (files_in view) (binding_in view) (leaders_in view) (laid_in view) s.site.section) before block
  both_over from before mid block same one two = λ i lt.
      two i (omega (arith, lt, same))
      ∙ ap (λ u. over (piece s.at (section_bytes (files_in view) (binding_in view) (leaders_in view) (laid_in view) s.site.section)) u (from + i)) (one i lt)
      ∙ over_twice s.at first (section_bytes (files_in view) (binding_in view) (leaders_in view) (laid_in view) s.site.section) (slice_index before i) (from + i)
      (sym (whole_length (files_in view) (binding_in view) (leaders_in view) (laid_in view) s.site.section))

  -- the bytes that stay lie over what they were laid over
  pub laid_once : (from : ℕ) (before mid : List ℕ) → length mid ≡ length before → IsOver from s.at first before mid → IsOver from s.at first mid mid
  laid_once from before mid same one = λ i lt.
      let less : i < length before = omega (arith, lt, same) in
      one i less ∙ sym (over_twice s.at first first (slice_index before i) (from + i) refl)
      ∙ ap (λ u. over (piece s.at first) u (from + i)) (sym (one i less))

  -- the value of a relocation by a window that stands at its place
  pub value_is : (k held : ℕ) (v : ℤ) (window : List ℕ) → k < length s.relocs.now → length window ≡ 10 →
      ((j : ℕ) → j < 10 → slice_index window j ≡ slice_index (after k) (place k + j)) → (width k ≤ 8 → held ≡ number_of (take (width k) window)) →
      v ≡ operand (files_in view) (binding_in view) (leaders_in view) (laid_in view) s.site.section (prior k) (reloc k) (pos held) →
      value_of (files_in view) (binding_in view) (leaders_in view) (laid_in view) s.site.section (reloc k) v
      ≡ value_at (files_in view) (binding_in view) (leaders_in view) (laid_in view) s.site.section k
  unfolding value_at
  value_is k held v window lt size shows held_is v_is =
      let fits : place k + width k ≤ length (after k) = omega (arith, fits_at k lt, long k) in
      let stands = window_held window (after k) (place k) (width k) (wide_few (files_in view) (binding_in view) (leaders_in view) (laid_in view) s.site.section (reloc k)) size fits shows in
      let there : ℤ = held_at (width k) (place k) (after k) in
      let same = operand_same (files_in view) (binding_in view) (leaders_in view) (laid_in view) s.site.section (prior k) (reloc k) (pos held) there (λ plain. ap pos (held_is (plain_few (files_in view) (binding_in view) (leaders_in view) (laid_in view) s.site.section (reloc k) plain) ∙ ap number_of stands)) in
      ap (value_of (files_in view) (binding_in view) (leaders_in view) (laid_in view) s.site.section (reloc k)) (v_is ∙ same)
      ∙ ap (λ (r : Reloc). value_of (files_in view) (binding_in view) (leaders_in view) (laid_in view) s.site.section r (operand (files_in view) (binding_in view) (leaders_in view) (laid_in view) s.site.section (prior k) r (held_at (width_of (files_in view) (binding_in view) (leaders_in view) (laid_in view) s.site.section r) (at_of (files_in view) (binding_in view) (leaders_in view) (laid_in view) s.site.section r) (after k)))) (sym (same_reloc k))
      ∙ ap (λ (p : Reloc). value_of (files_in view) (binding_in view) (leaders_in view) (laid_in view) s.site.section (own k) (operand (files_in view) (binding_in view) (leaders_in view) (laid_in view) s.site.section p (own k) (held_at (width_of (files_in view) (binding_in view) (leaders_in view) (laid_in view) s.site.section (own k)) (at_of (files_in view) (binding_in view) (leaders_in view) (laid_in view) s.site.section (own k)) (after k)))) (sym (same_reloc (k - 1)))
