-- Bytes that stay and lie between two cuts: they stand side by side in the section.
use Rattle.std.proofs.Common.{◌≡◌, ℕ, suc, ◌+◌, ◌-◌, ◌<◌, ◌≤◌, List, [], ◌∷◌, ◌++◌, length, take, drop, get_or, slice_index, sym, ap, ◌∙◌, arith, inl, inr}
use Rattle.std.proofs.Math.Seq.{drop-cons, get_or-append_right}
use Rattle.std.proofs.lemmas.Bool.{cases_lt}
use Rattle.std.proofs.lemmas.List.{drop_all, get_or_append_left, get_or-take, get_or-drop}
use Rattle.link_sections.specs.Cuts.{AreApart, Cut}
use Rattle.reloc_apply.specs.Staying.{kept_bytes, new_before, no_cut as none, old_before, staying}
use Rattle.reloc_apply.proofs.StayingSizes.{AreIn, at_cut, part_size, split}

module _ (cuts : List Cut) (raw : List ℕ) (k : ℕ) (apart : AreApart cuts) (lie : AreIn (length raw) cuts) (le : k ≤ length cuts) where
  abbrev rest : List ℕ
  rest = staying (drop k cuts) (old_before cuts k) raw

  -- a byte of those that stay from the end of the cut before cut k on
  in_rest : (i : ℕ) → (k < length cuts → old_before cuts k + i < (get_or cuts k none).at) → slice_index rest i ≡ slice_index raw (old_before cuts k + i)
  in_rest i before = elim (cases_lt k (length cuts)) [
    | inl lt ↦
        let c : Cut = get_or cuts k none in
        let old = old_before cuts k in
        let low = (at_cut cuts k apart lt).0 in
        let in_raw : c.at + c.whole ≤ length raw = lie k none lt in
        let some = before lt in
        let part = take (c.at - old) (drop old raw) in
        let tail = kept_bytes c raw ++ staying (drop (suc k) cuts) (c.at + c.whole) raw in
        let size = part_size old c.at raw low (omega (arith, in_raw)) in
        ap (λ cs. slice_index (staying cs old raw) i) (drop-cons cuts k none lt)
        ∙ get_or_append_left part tail 0 i (omega (arith, size, some))
        ∙ get_or-take (c.at - old) (drop old raw) i 0 (omega (arith, some))
        ∙ get_or-drop old raw i 0
    | inr past ↦
        let old = old_before cuts k in
        ap (λ cs. slice_index (staying cs old raw) i) (drop_all k cuts past) ∙ get_or-drop old raw i 0
  ]

  pub between : (at n j : ℕ) → new_before cuts k ≤ at → (k < length cuts → old_before cuts k + (at - new_before cuts k) + n ≤ (get_or cuts k none).at) → j < n →
      slice_index raw (old_before cuts k + (at - new_before cuts k) + j) ≡ slice_index (staying cuts 0 raw) (at + j)
  between at n j low before lt =
      let s = split cuts raw k apart lie le in
      let size = s.size in
      let i = at + j - new_before cuts k in
      let e : old_before cuts k + i ≡ old_before cuts k + (at - new_before cuts k) + j = omega (arith, low) in
      let f : at + j - length s.pre ≡ i = omega (arith, size) in
      sym (
      ap (λ l. slice_index l (at + j)) s.whole
      ∙ get_or-append_right s.pre rest (at + j) 0 (omega (arith, size, low))
      ∙ ap (λ m. slice_index rest m) f
      ∙ in_rest i (λ some. let most = before some in omega (arith, most, e, lt))
      ∙ ap (slice_index raw) e
      )
