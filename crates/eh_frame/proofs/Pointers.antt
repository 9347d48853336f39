-- To which earlier record a CIE Pointer leads.
use Rattle.std.proofs.Common.{◌≡◌, ℕ, ◌+◌, ◌-◌, ◌<◌, ◌≤◌, true, false, ◌==◌, List, [], ◌∷◌, length, get_or, Some, None, refl, sym, ap, ◌∙◌, arith, inl, inr}
use Rattle.std.proofs.lemmas.Bool.{cases_lt, ne_eqb, eq-eqb, and_right, and_left}
use Rattle.lk_tables.proofs.Finding.{first_number, no_number}
use Rattle.lk_tables.specs.declared.objects.Reloc.{Reloc}
use Rattle.lk_tables.specs.declared.records.Record.{Record}
use Rattle.lk_tables.specs.Records.{start_of, id_at, is_cie, is_pointed_to, cie_before, first_records}
use Rattle.lk_tables.specs.RecordViews.{record_views}
use Rattle.eh_frame.proofs.Places.{place_le, place_lt}
use Rattle.eh_frame.proofs.Walk.{from_at}

-- some element of a list that has one
pub element : {X : Type 0} (xs : List X) (n : ℕ) → n < length xs → X
element [] n lt = absurd (omega (arith, lt))
element (x ∷ xs) n lt = x

away : (c : List ℕ) (j i : ℕ) → (start_of c i + id_at c (start_of c j) ≡ start_of c j + 4 → ⊥) → is_pointed_to c j i ≡ false
unfolding is_pointed_to
away c j i other = and_right (is_cie c (start_of c i)) (start_of c i + id_at c (start_of c j) == start_of c j + 4) (ne_eqb _ _ other)

other_kind : (c : List ℕ) (j i : ℕ) → is_cie c (start_of c i) ≡ false → is_pointed_to c j i ≡ false
unfolding is_pointed_to
other_kind c j i bad = and_left (is_cie c (start_of c i)) (start_of c i + id_at c (start_of c j) == start_of c j + 4) bad

there : (c : List ℕ) (j i : ℕ) → is_cie c (start_of c i) ≡ true → start_of c i + id_at c (start_of c j) ≡ start_of c j + 4 → is_pointed_to c j i ≡ true
unfolding is_pointed_to
there c j i cie same = rw (cie, eq-eqb _ _ same) refl

-- it leads before the section
pub leads_out : (c : List ℕ) (j : ℕ) → start_of c j + 4 < id_at c (start_of c j) → cie_before c j ≡ None
unfolding cie_before
leads_out c j lt = no_number (is_pointed_to c j) j (λ k less. away c j k (λ same. omega (arith, same, lt)))

-- no record starts there, of which so many start before it
pub leads_nowhere : (c : List ℕ) (relocs : List Reloc) (records : List Record) (n target : ℕ) → record_views records ≡ first_records c relocs (length records) →
    id_at c (start_of c (length records)) ≤ start_of c (length records) + 4 → target ≡ start_of c (length records) + 4 - id_at c (start_of c (length records)) →
    ((k : ℕ) (d : Record) → k < n → (get_or records k d).from < target) →
    ((k : ℕ) (d : Record) → n ≤ k → k < length records → target ≤ (get_or records k d).from) →
    n ≤ length records → ((d : Record) → n < length records → (get_or records n d).from ≡ target → ⊥) → cie_before c (length records) ≡ None
unfolding cie_before
leads_nowhere c relocs records n target held most is before next bound other =
    let j = length records in
    no_number (is_pointed_to c j) j (λ k less. away c j k (λ same.
    let d = element records k less in
    elim (cases_lt k n) [
      | inl low ↦ omega (arith, same, most, is, before k d low, from_at c relocs records k d held less)
      | inr high ↦
          let here : n < j = omega (arith, high, less) in
          let at : (get_or records n d).from ≡ start_of c n = from_at c relocs records n d held here in
          let least = next n d (omega arith) here in
          let up : start_of c n ≤ start_of c k = place_le c n k high in
          other d here (omega (arith, same, most, is, at, least, up))
    ]))

-- a record starts there
pub leads_to : (c : List ℕ) (relocs : List Reloc) (records : List Record) (n target : ℕ) (d : Record) → record_views records ≡ first_records c relocs (length records) →
    id_at c (start_of c (length records)) ≤ start_of c (length records) + 4 → target ≡ start_of c (length records) + 4 - id_at c (start_of c (length records)) →
    ((k : ℕ) (d : Record) → k < n → (get_or records k d).from < target) →
    n < length records → (get_or records n d).from ≡ start_of c (length records) + 4 - id_at c (start_of c (length records)) →
    is_cie c ((get_or records n d).from) ≡ true → cie_before c (length records) ≡ Some n
unfolding cie_before
leads_to c relocs records n target d held most is before lt same cie =
    let j = length records in
    let at : (get_or records n d).from ≡ start_of c n = from_at c relocs records n d held lt in
    first_number (is_pointed_to c j) j n lt
    (λ k low. away c j k (λ eq. omega (arith, eq, most, is, before k d low, from_at c relocs records k d held (omega (arith, low, lt)))))
    (there c j n (sym (ap (is_cie c) at) ∙ cie) (omega (arith, at, same, most)))

pub leads_to_fde : (c : List ℕ) (relocs : List Reloc) (records : List Record) (n : ℕ) (d : Record) → record_views records ≡ first_records c relocs (length records) →
    id_at c (start_of c (length records)) ≤ start_of c (length records) + 4 →
    n < length records → (get_or records n d).from ≡ start_of c (length records) + 4 - id_at c (start_of c (length records)) →
    is_cie c ((get_or records n d).from) ≡ false → cie_before c (length records) ≡ None
unfolding cie_before
leads_to_fde c relocs records n d held most lt same cie =
    let j = length records in
    let at : (get_or records n d).from ≡ start_of c n = from_at c relocs records n d held lt in
    no_number (is_pointed_to c j) j (λ k less. elim (cases_lt k n) [
      | inl low ↦ away c j k (λ eq. omega (arith, eq, most, at, same, place_lt c k n low))
      | inr high ↦ elim (cases_lt n k) [
        | inl above ↦ away c j k (λ eq. omega (arith, eq, most, at, same, place_lt c n k above))
        | inr le ↦
            let here : k ≡ n = omega (arith, high, le) in
            ap (is_pointed_to c j) here ∙ other_kind c j n (sym (ap (is_cie c) at) ∙ cie)
      ]
    ])
