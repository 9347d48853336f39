-- The bytes of runs of FDEs, and before the first run those of the CIEs: joined, the bytes of all.
use Rattle.std.proofs.Common.{◌≡◌, ℕ, zero, suc, ◌+◌, ◌-◌, ◌<◌, ◌≤◌, ◌==◌, Option, List, [], ◌∷◌, ◌++◌, length, take, drop, get_or, flat_map, refl, sym, ap, ◌∙◌, arith, append_assoc}
use Rattle.std.specs.Prelude.{if◌then◌else◌}
use Rattle.std.specs.List.{range_with_len}
use Rattle.std.proofs.lemmas.Bool.{cond-false, ne_eqb}
use Rattle.std.proofs.lemmas.List.{drop_more, take_all}
use Rattle.lk_tables.specs.Binding.{Bindings}
use Rattle.lk_tables.specs.Files.{File}
use Rattle.lk_tables.specs.Frames.{RecordList}
use Rattle.link_sections.specs.LaidOut.{LaidOut}
use Rattle.eh_frame.specs.declared.placing.Placed.{Placed}
use Rattle.eh_frame.specs.Bytes.{cie_bytes, fdes_bytes, no_place}
use Rattle.eh_frame.specs.Shares.{bytes_at, fde_at}
use Rattle.eh_frame.proofs.RecordRuns.{part}

module _ (files : List File) (b : Bindings) (leaders : List (Option ℕ)) (laid : LaidOut) (lists : List RecordList) (start : ℕ) (cies fdes : List Placed) (uses : List ℕ) where
  abbrev own : ℕ → List ℕ
  own k = fde_at files b leaders laid lists start cies fdes uses k

  abbrev one : ℕ → List ℕ
  one k = bytes_at files b leaders laid lists start cies fdes uses k

  abbrev front : List ℕ
  front = flat_map (cie_bytes files b leaders laid lists start) cies

  abbrev made : List Placed → List ℕ → List ℕ
  made ps us = fdes_bytes files b leaders laid lists start cies ps us

  run_is : (n a : ℕ) → a + n ≤ length fdes → length uses ≡ length fdes → flat_map own (range_with_len a n) ≡ made (take n (drop a fdes)) (take n (drop a uses))
  run_is zero a le same = refl
  run_is (suc n) a le same =
      ap (λ l. own a ++ l) (run_is n (a + 1) (omega (arith, le)) same)
      ∙ ap (λ us. made (take (suc n) (get_or fdes a no_place ∷ drop (a + 1) fdes)) (take (suc n) us)) (sym (drop_more uses a 0 (omega (arith, le, same))))
      ∙ ap (λ ps. made (take (suc n) ps) (take (suc n) (drop a uses))) (sym (drop_more fdes a no_place (omega (arith, le))))

  later : (n a : ℕ) → 0 < a → flat_map one (range_with_len a n) ≡ flat_map own (range_with_len a n)
  later zero a lt = refl
  later (suc n) a lt =
      ap (λ l. (l ++ own a) ++ flat_map one (range_with_len (a + 1) n)) (cond-false (a == 0) front [] (ne_eqb a 0 (λ is. omega (arith, lt, is))))
      ∙ ap (λ l. own a ++ l) (later n (a + 1) (omega arith))

  run_bytes : (a e : ℕ) → a < e → e ≤ length fdes → length uses ≡ length fdes →
      (if a == 0 then front else []) ++ made (part fdes a e) (part uses a e) ≡ flat_map one (range_with_len a (e - a))
  run_bytes a e some le same =
      let n : e - a ≡ suc (e - a - 1) = omega arith in
      let first : List ℕ = if a == 0 then front else [] in
      ap (λ l. first ++ l) (sym (run_is (e - a) a (omega (arith, some, le)) same))
      ∙ ap (λ k. first ++ flat_map own (range_with_len a k)) n
      ∙ sym (append_assoc first (own a) (flat_map own (range_with_len (a + 1) (e - a - 1))))
      ∙ ap (λ l. (first ++ own a) ++ l) (sym (later (e - a - 1) (a + 1) (omega arith)))
      ∙ sym (ap (λ k. flat_map one (range_with_len a k)) n)

  -- the bytes of a run that has an FDE
  pub bytes_made : (a e : ℕ) (ps : List Placed) (us none mid out : List ℕ) → a < e → e ≤ length fdes → length uses ≡ length fdes → ps ≡ part fdes a e → us ≡ part uses a e →
      none ≡ [] → mid ≡ none ++ (if a == 0 then front else []) → out ≡ mid ++ made ps us → out ≡ flat_map one (range_with_len a (e - a))
  bytes_made a e ps us none mid out some le same ps_are us_are none_is mid_is out_is =
      let first : List ℕ = if a == 0 then front else [] in
      out_is ∙ ap (λ l. l ++ made ps us) (mid_is ∙ ap (λ l. l ++ first) none_is)
      ∙ ap (λ l. first ++ made l us) ps_are ∙ ap (λ l. first ++ made (part fdes a e) l) us_are ∙ run_bytes a e some le same

  -- and of all
  pub all_bytes : (out : List ℕ) → 0 < length fdes → length uses ≡ length fdes → out ≡ flat_map one (range_with_len 0 (length fdes)) → out ≡ front ++ made fdes uses
  all_bytes out some same is =
      let n : length fdes ≡ length fdes - 0 = omega arith in
      is ∙ ap (λ k. flat_map one (range_with_len 0 k)) n
      ∙ sym (run_bytes 0 (length fdes) some (omega arith) same)
      ∙ ap (λ l. front ++ made l (part uses 0 (length fdes))) (take_all (length fdes - 0) fdes (omega arith))
      ∙ ap (λ l. front ++ made fdes l) (take_all (length fdes - 0) uses (omega (arith, same)))
