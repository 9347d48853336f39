-- The bytes of a section that stay: how many they are, and those before a cut.
use Rattle.std.proofs.Common.{◌≡◌, ℕ, zero, suc, ◌+◌, ◌-◌, ◌<◌, ◌≤◌, Bool, true, false, List, [], ◌∷◌, ◌++◌, length, take, drop, get_or, refl, sym, ap, ◌∙◌, subst, arith, inl, inr, append_assoc}
use Rattle.std.specs.Prelude.{All, if◌then◌else◌, ◌==◌}
use Rattle.std.specs.Int.{to_le_bytes, w16, w32}
use Rattle.std.proofs.lemmas.Bool.{cases_lt, eqb-true}
use Rattle.std.proofs.lemmas.List.{drop_all, length-append, length-take-le, length-drop}
use Rattle.std.proofs.lemmas.List.FromFn.{length-map-range_with_len}
use Rattle.std.proofs.Math.Seq.{drop-cons}
use Rattle.link_sections.specs.Cuts.{Cut, AreApart, new_offset}
use Rattle.link_sections.proofs.CutSums.{by_cut, no_cut}
use Rattle.rv_code.specs.Instructions.{nop_byte, rd_of}
use Rattle.rv_code.specs.Places.{number_of}
use Rattle.reloc_apply.specs.Staying.{call_bytes, jal_word, kept_bytes, new_before, no_cut as none, nops, old_before, staying}

-- each cut lies in the section
abbrev pub AreIn : (size : ℕ) → List Cut → Type 0
AreIn size cuts = All (λ c. c.at + c.whole ≤ size) cuts

call_size : (size : ℕ) (raw : List ℕ) → size ≤ length raw → length (call_bytes size raw) ≡ size
unfolding call_bytes
call_size size raw within = go (size == 4) (size == 2) refl refl
  where
    go : (a b : Bool) → (size == 4) ≡ a → (size == 2) ≡ b →
        length (if a then to_le_bytes w32 (jal_word (rd_of (number_of (take 4 (drop 4 raw))))) else (if b then to_le_bytes w16 0xa001 else take size raw)) ≡ size
    go true b is other = sym (eqb-true size 4 is)
    go false true is other = sym (eqb-true size 2 other)
    go false false is other = length-take-le size raw within

kept_size : (c : Cut) (raw : List ℕ) → c.kept ≤ c.whole → c.at + c.whole ≤ length raw → length (kept_bytes c raw) ≡ c.kept
kept_size c raw most within = go c.is_align
  where
    go : (b : Bool) → length (if b then nops c.kept else call_bytes c.kept (drop c.at raw)) ≡ c.kept
    go true = length-map-range_with_len (nop_byte c.kept) 0 c.kept
    go false = call_size c.kept (drop c.at raw) (omega (arith, most, within, length-drop c.at raw))

pub part_size : (from to : ℕ) (raw : List ℕ) → from ≤ to → to ≤ length raw → length (take (to - from) (drop from raw)) ≡ to - from
part_size from to raw le within = length-take-le (to - from) (drop from raw) (omega (arith, length-drop from raw))

-- a cut's new offset, by the end of the one before it
pub at_cut : (cuts : List Cut) (k : ℕ) → AreApart cuts → k < length cuts → (old_before cuts k ≤ (get_or cuts k none).at)
    × (new_offset cuts (get_or cuts k none).at ≡ new_before cuts k + ((get_or cuts k none).at - old_before cuts k))
at_cut cuts zero apart lt = (omega arith, no_cut (get_or cuts 0 none).at cuts none apart (λ some. omega arith) ∙ omega arith)
at_cut cuts (suc j) apart lt =
    let c : Cut = get_or cuts (suc j) none in
    let p : Cut = get_or cuts j none in
    let e : j + 1 ≡ suc j = omega arith in
    let P : ℕ → Type 0 = λ k. p.at + p.whole ≤ (get_or cuts k none).at in
    let after : p.at + p.whole ≤ c.at = subst P e (apart.order j none (omega arith)) in
    let most : p.kept ≤ p.whole = apart.kept j none (omega arith) in
    elim (cases_lt p.at c.at) [
      | inl less ↦
          let Q : ℕ → Type 0 = λ k. c.at ≤ (get_or cuts k none).at in
          let both = by_cut cuts j c.at none apart (omega arith) less (λ more. subst Q (sym e) (omega arith)) in
          let sum = both.0 in
          (after, omega (arith, sum, most, after))
      | inr same ↦
          let at : c.at ≡ p.at = omega (arith, after, same) in
          let new = ap (new_offset cuts) at in
          (after, omega (arith, new, at, after, most))
    ]

-- the bytes before cut k, and those from its predecessor's end on
pub record Split (cuts : List Cut) (raw : List ℕ) (k : ℕ) : Type 0 where
  pub pre : List ℕ
  pub whole : staying cuts 0 raw ≡ pre ++ staying (drop k cuts) (old_before cuts k) raw
  pub size : length pre ≡ new_before cuts k
  pub within : old_before cuts k ≤ length raw
  pub most : new_before cuts k ≤ old_before cuts k

-- one cut more
pub split_next : (cuts : List Cut) (raw : List ℕ) (k : ℕ) → AreApart cuts → AreIn (length raw) cuts → k < length cuts → (s : Split cuts raw k) →
    (next : Split cuts raw (k + 1)) × (next.pre ≡ s.pre ++ (take ((get_or cuts k none).at - old_before cuts k) (drop (old_before cuts k) raw) ++ kept_bytes (get_or cuts k none) raw))
split_next cuts raw k apart lie lt s =
    let c : Cut = get_or cuts k none in
    let old = old_before cuts k in
    let at = at_cut cuts k apart lt in
    let low = at.0 in
    let new = at.1 in
    let in_raw : c.at + c.whole ≤ length raw = lie k none lt in
    let most : c.kept ≤ c.whole = apart.kept k none lt in
    let part = take (c.at - old) (drop old raw) in
    let kept = kept_bytes c raw in
    let part_is = part_size old c.at raw low (omega arith) in
    let kept_is = kept_size c raw most in_raw in
    let e : suc k ≡ k + 1 = omega arith in
    let next_old : old_before cuts (k + 1) ≡ c.at + c.whole = ap (old_before cuts) (sym e) in
    let next_new : new_before cuts (k + 1) ≡ new_offset cuts c.at + c.kept = ap (new_before cuts) (sym e) in
    let rest : drop k cuts ≡ c ∷ drop (k + 1) cuts = drop-cons cuts k none lt ∙ ap (λ j. c ∷ drop j cuts) e in
    let tail = staying (drop (k + 1) cuts) (old_before cuts (k + 1)) raw in
    let opened : staying (drop k cuts) old raw ≡ part ++ (kept ++ tail) =
    ap (λ cs. staying cs old raw) rest ∙ ap (λ o. part ++ (kept ++ staying (drop (k + 1) cuts) o raw)) (sym next_old) in
    let pre : List ℕ = s.pre ++ (part ++ kept) in
    let before = s.size in
    let some = s.most in (
      record {
        pre = pre;
        whole = s.whole ∙ ap (λ l. s.pre ++ l) opened ∙ ap (λ l. s.pre ++ l) (sym (append_assoc part kept tail)) ∙ sym (append_assoc s.pre (part ++ kept) tail);
        size = length-append s.pre (part ++ kept) ∙ omega (arith, length-append part kept, part_is, kept_is, before, new, next_new);
        within = omega (arith, next_old, in_raw);
        most = omega (arith, next_old, next_new, new, most, low, some);
      },
      refl,
    )

pub split : (cuts : List Cut) (raw : List ℕ) (k : ℕ) → AreApart cuts → AreIn (length raw) cuts → k ≤ length cuts → Split cuts raw k
split cuts raw zero apart lie le = record { pre = []; whole = refl; size = refl; within = omega arith; most = omega arith }
split cuts raw (suc k) apart lie le =
    let e : k + 1 ≡ suc k = omega arith in
    subst (Split cuts raw) e (split_next cuts raw k apart lie (omega arith) (split cuts raw k apart lie (omega arith))).0

-- a section's new size
pub stays_size : (cuts : List Cut) (raw : List ℕ) → AreApart cuts → AreIn (length raw) cuts → length (staying cuts 0 raw) ≡ new_offset cuts (length raw)
stays_size cuts raw apart lie =
    let n : ℕ = length cuts in
    let s = split cuts raw n apart lie (omega arith) in
    let rest : staying (drop n cuts) (old_before cuts n) raw ≡ drop (old_before cuts n) raw = ap (λ cs. staying cs (old_before cuts n) raw) (drop_all n cuts (omega arith)) in
    let size : length (staying cuts 0 raw) ≡ new_before cuts n + (length raw - old_before cuts n) =
    ap length s.whole ∙ length-append s.pre (staying (drop n cuts) (old_before cuts n) raw) ∙ ap (λ l. length s.pre + length l) rest
    ∙ omega (arith, s.size, length-drop (old_before cuts n) raw) in
    size ∙ last n refl
  where
    last : (n : ℕ) → n ≡ length cuts → new_before cuts n + (length raw - old_before cuts n) ≡ new_offset cuts (length raw)
    last zero e = omega arith ∙ sym (no_cut (length raw) cuts none apart (λ some. absurd (omega (arith, e))))
    last (suc j) e =
        let c : Cut = get_or cuts j none in
        let lies : c.at + c.whole ≤ length raw = lie j none (omega (arith, e)) in
        let most : c.kept ≤ c.whole = apart.kept j none (omega (arith, e)) in
        elim (cases_lt c.at (length raw)) [
          | inl lt ↦
              let both = by_cut cuts j (length raw) none apart (omega (arith, e)) lt (λ more. absurd (omega (arith, e))) in
              let sum = both.0 in
              omega (arith, sum, lies, most)
          | inr end ↦
              let at : c.at ≡ length raw = omega (arith, lies, end) in
              let new = ap (new_offset cuts) at in
              omega (arith, new, at, lies, most)
        ]
