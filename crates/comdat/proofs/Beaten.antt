-- A group goes exactly if the number of its signature is not its own place.
use Rattle.std.proofs.Common.{◌≡◌, ◌≢◌, ℕ, ◌<◌, ◌≤◌, ◌==◌, not, true, false, List, [], length, get_or, refl, sym, ap, ◌∙◌, ⊎_elim, inl, inr, arith}
use Rattle.std.specs.Cmp.{both_ways as same_answer}
use Rattle.std.proofs.lemmas.List.{get_or-map, get_or_default, length-map}
use Rattle.std.proofs.lemmas.List.Elements.{Contains-get_or}
use Rattle.std.proofs.lemmas.Bool.{eqb-true, eqb-false, cases_Bool, cases_lt, not-true}
use Rattle.name_numbers.specs.Texts.{text_at, text_numbers}
use Rattle.name_numbers.proofs.TextPlaces.{first_text}
use Rattle.comdat.specs.Discarded.{Comdat, goes, rank}
use Rattle.comdat.specs.Marks.{beaten}
use Rattle.comdat.specs.Signatures.{group_at, no_comdat, signatures}
use Rattle.comdat.proofs.FirstStays.{goes_before, before_goes}

abbrev signature_of : Comdat → List ℕ
signature_of g = g.signature

pub length_signatures : (groups : List Comdat) → length (signatures groups) ≡ length groups
length_signatures groups = length-map groups signature_of

pub length_numbers : (groups : List Comdat) (ns : List ℕ) → ns ≡ text_numbers (signatures groups) → length ns ≡ length groups
unfolding text_numbers
length_numbers groups ns numbered = ap length numbered ∙ length-map (signatures groups) _ ∙ length_signatures groups

signature_at : (groups : List Comdat) (j : ℕ) → j < length groups → text_at (signatures groups) j ≡ (group_at groups j).signature
signature_at groups j lt = get_or-map signature_of groups j no_comdat [] lt

-- in a list of groups in order of rank
module _ (groups : List Comdat) (ns : List ℕ) (numbered : ns ≡ text_numbers (signatures groups))
    (rise : (i j : ℕ) → i < j → j < length groups → rank (group_at groups i) < rank (group_at groups j)) where
  beaten_loses : (j : ℕ) → j < length groups → get_or ns j 0 ≢ j → goes groups (group_at groups j) ≡ true
  beaten_loses j lt other =
      let inside : j < length (signatures groups) = omega (arith, length_signatures groups) in
      let first = first_text (signatures groups) ns j numbered inside in
      let i = get_or ns j 0 in
      let most = first.most j inside refl in
      let early : i < j = ⊎_elim (λ (lt : i < j). lt) (λ (le : j ≤ i). absurd (other (omega (arith, most, le)))) (cases_lt i j) in
      let there : i < length groups = omega (arith, early) in
      before_goes groups (group_at groups j) (group_at groups i) (Contains-get_or groups i no_comdat there)
      (sym (signature_at groups i there) ∙ first.same ∙ signature_at groups j lt) (rise i j early lt)

  first_stays : (j : ℕ) → j < length groups → goes groups (group_at groups j) ≡ true → get_or ns j 0 ≢ j
  first_stays j lt is own =
      let b = goes_before groups (group_at groups j) is in
      let i : ℕ = b.listed.0 in
      let there : i < length groups = b.listed.1 in
      let at : group_at groups i ≡ b.one = get_or_default groups i no_comdat b.one there ∙ b.listed.2 in
      let inside : j < length (signatures groups) = omega (arith, length_signatures groups) in
      let first = first_text (signatures groups) ns j numbered inside in
      let same : text_at (signatures groups) i ≡ text_at (signatures groups) j = signature_at groups i there ∙ ap signature_of at ∙ b.same ∙ sym (signature_at groups j lt) in
      let most = first.most i (omega (arith, there, length_signatures groups)) same in
      let low : j ≤ i = omega (arith, most, own) in
      let less = b.less in
      let ranked : rank (group_at groups i) ≡ rank b.one = ap rank at in
      elim (cases_lt j i) [
        | inl before ↦ let up = rise j i before there in absurd (omega (arith, up, less, ranked))
        | inr past ↦
            let e : i ≡ j = omega (arith, low, past) in
            let here : rank (group_at groups i) ≡ rank (group_at groups j) = ap (λ k. rank (group_at groups k)) e in
            absurd (omega (arith, here, less, ranked))
      ]

  pub beaten_goes : (j : ℕ) → j < length groups → beaten ns j ≡ goes groups (group_at groups j)
  beaten_goes j lt =
      let n = get_or ns j 0 in
      same_answer (beaten ns j) (goes groups (group_at groups j))
      (λ is. beaten_loses j lt (eqb-false n j (not-true (n == j) is)))
      (λ is. ⊎_elim
      (λ (eq : (n == j) ≡ true). absurd (first_stays j lt is (eqb-true n j eq)))
      (λ (ne : (n == j) ≡ false). ap not ne)
      (cases_Bool (n == j)))
