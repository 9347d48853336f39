-- Whether a number is among some in order, by the first that is not less; the offsets at which the linker may relax.
use Rattle.std.proofs.Common.{◌≡◌, ℕ, zero, suc, ◌+◌, ◌<◌, ◌≤◌, ◌==◌, ◌&&◌, ◌||◌, Bool, true, false, cond, List, [], ◌∷◌, ◌++◌, length, map, drop, get_or, refl, sym, ap, ◌∙◌, subst, arith, inl, inr, append_assoc}
use Rattle.std.specs.Prelude.{if◌then◌else◌}
use Rattle.std.proofs.Math.Seq.{drop-cons}
use Rattle.std.specs.List.{filter, list_any}
use Rattle.std.specs.List.Sorted.{IsNonDecreasing, IsNonDecreasingBy}
use Rattle.std.proofs.lemmas.Bool.{cases_lt, eqb-false, ne_eqb}
use Rattle.std.proofs.lemmas.List.{get_or-map, get_or_past, length-map}
use Rattle.std.proofs.lemmas.List.Kept.{IsNonDecreasingBy-filter}
use Rattle.lk_base.specs.declared.abi.TheConstants.{R_RISCV_RELAX}
use Rattle.lk_tables.specs.declared.objects.Reloc.{Reloc}
use Rattle.lk_tables.specs.declared.tables.Tables.{Tables}
use Rattle.lk_tables.specs.Files.{File, file_at, no_reloc, section_total}
use Rattle.lk_tables.specs.Inside.{IsBodyInside}
use Rattle.lk_tables.specs.Sites.{place_of, relocs_of}
use Rattle.lk_tables.specs.TablesView.{files_of}
use Rattle.lk_tables.proofs.Owners.{place_of_number}
use Rattle.lk_tables.proofs.SoundFiles.{inside_body, sound_file}
use Rattle.relax.specs.CallSizes.{has_hint, hint_offsets}
use Rattle.relax.proofs.Fitting.{live_from}

sorted_tail : (x : ℕ) (xs : List ℕ) → IsNonDecreasing (x ∷ xs) → IsNonDecreasing xs
sorted_tail x xs sorted = λ i j d le lt. sorted (suc i) (suc j) d (omega arith) (omega arith)

none_above : (hs : List ℕ) (o : ℕ) → ((k d : ℕ) → k < length hs → o < get_or hs k d) → list_any (λ h. h == o) hs ≡ false
none_above [] o above = refl
none_above (x ∷ xs) o above =
    let first = above 0 x (omega arith) in
    ap (λ b. b || list_any (λ h. h == o) xs) (ne_eqb x o (λ e. omega (arith, first, e))) ∙ none_above xs o (λ k d lt. above (suc k) d (omega arith))

pub none_below : (hs : List ℕ) (o : ℕ) → ((k d : ℕ) → k < length hs → get_or hs k d < o) → list_any (λ h. h == o) hs ≡ false
none_below [] o below = refl
none_below (x ∷ xs) o below =
    let first = below 0 x (omega arith) in
    ap (λ b. b || list_any (λ h. h == o) xs) (ne_eqb x o (λ e. omega (arith, first, e))) ∙ none_below xs o (λ k d lt. below (suc k) d (omega arith))

or_same : (b c : Bool) → (b ≡ false → c ≡ false) → (b || c) ≡ b
or_same true c none = refl
or_same false c none = none refl

pub found_at : (hs : List ℕ) (o n d : ℕ) → IsNonDecreasing hs → n < length hs → ((k e : ℕ) → k < n → get_or hs k e < o) → o ≤ get_or hs n d →
    list_any (λ h. h == o) hs ≡ (get_or hs n d == o)
found_at [] o n d sorted lt before at = absurd (omega arith)
found_at (x ∷ xs) o zero d sorted lt before at =
    or_same (x == o) (list_any (λ h. h == o) xs) (λ differs.
    none_above xs o (λ k e less.
    let up = sorted 0 (suc k) e (omega arith) (omega arith) in
    let above : o < x = elim (cases_lt o x) [ inl less2 ↦ less2 | inr upto ↦ absurd (eqb-false x o differs (omega (arith, upto, at))) ] in
    omega (arith, up, above)))
found_at (x ∷ xs) o (suc n) d sorted lt before at =
    let first = before 0 x (omega arith) in
    ap (λ b. b || list_any (λ h. h == o) xs) (ne_eqb x o (λ e. omega (arith, first, e)))
    ∙ found_at xs o n d (sorted_tail x xs sorted) (omega arith) (λ k e less. before (suc k) e (omega arith)) at

-- the offsets of relocations in order are in order
pub hints_sorted : (rs : List Reloc) → IsNonDecreasingBy (λ r. r.offset) rs → IsNonDecreasing (hint_offsets rs)
hints_sorted rs sorted i j d le lt =
    let f : Reloc → ℕ = λ r. r.offset in
    let p : Reloc → Bool = λ r. r.kind == R_RISCV_RELAX in
    let kept = filter p rs in
    let few = length-map kept f in
    let low = IsNonDecreasingBy-filter f p rs sorted i j no_reloc le (omega (arith, few, lt)) in
    let first = get_or-map f kept i no_reloc d (omega (arith, few, lt, le)) in
    let second = get_or-map f kept j no_reloc d (omega (arith, few, lt)) in
    omega (arith, low, first, second)

pub hints_are : (rs : List Reloc) (o : ℕ) → list_any (λ h. h == o) (hint_offsets rs) ≡ has_hint rs o
hints_are [] o = refl
hints_are (r ∷ rs) o = go (r.kind == R_RISCV_RELAX) (hints_are rs o)
  where
    go : (b : Bool) → list_any (λ h. h == o) (hint_offsets rs) ≡ has_hint rs o →
        list_any (λ h. h == o) (map (λ (q : Reloc). q.offset) (cond b (r ∷ filter (λ (q : Reloc). q.kind == R_RISCV_RELAX) rs) (filter (λ (q : Reloc). q.kind == R_RISCV_RELAX) rs)))
        ≡ ((b && r.offset == o) || has_hint rs o)
    go true rest = ap (λ b. r.offset == o || b) rest
    go false rest = rest

-- the relocations of a section stand in order of offset
pub relocs_sorted : (tables : Tables) (n : ℕ) → n < section_total (files_of tables) → IsNonDecreasingBy (λ r. r.offset) (relocs_of (files_of tables) n)
relocs_sorted tables n lt =
    let files = files_of tables in
    let f = (place_of files n).file in
    let k = (place_of files n).index in
    let file : File = file_at files f in
    let law = place_of_number files n lt in
    let inside : IsBodyInside file.bytes file.head file.object = inside_body file (sound_file tables f (live_from files f k law.index)) in
    let P : List Reloc → Type 0 = λ rs. IsNonDecreasingBy (λ (r : Reloc). r.offset) rs in
    elim (cases_lt k (length file.object.relocs)) [
      | inl low ↦ inside.ordered k [] low
      | inr past ↦ subst P (sym (get_or_past file.object.relocs k [] past)) (λ i j d le less. absurd (omega arith))
    ]

-- the offsets that a walk over relocations adds, one on
pub hints_next : (rs : List Reloc) (i : ℕ) (old new whole : List ℕ) → i < length rs →
    new ≡ old ++ (if (get_or rs i no_reloc).kind == R_RISCV_RELAX then (get_or rs i no_reloc).offset ∷ [] else []) →
    old ++ hint_offsets (drop i rs) ≡ whole → new ++ hint_offsets (drop (i + 1) rs) ≡ whole
hints_next rs i old new whole lt is held =
    let r : Reloc = get_or rs i no_reloc in
    let one : suc i ≡ i + 1 = omega arith in
    let own : List ℕ = if r.kind == R_RISCV_RELAX then r.offset ∷ [] else [] in
    let here : hint_offsets (drop i rs) ≡ own ++ hint_offsets (drop (i + 1) rs) =
    ap hint_offsets (drop-cons rs i no_reloc lt) ∙ first_hint (r.kind == R_RISCV_RELAX) r (drop (suc i) rs) ∙ ap (λ k. own ++ hint_offsets (drop k rs)) one in
    ap (λ l. l ++ hint_offsets (drop (i + 1) rs)) is ∙ append_assoc old own (hint_offsets (drop (i + 1) rs)) ∙ ap (λ l. old ++ l) (sym here) ∙ held
  where
    first_hint : (b : Bool) (r : Reloc) (rest : List Reloc) →
        map (λ (q : Reloc). q.offset) (cond b (r ∷ filter (λ (q : Reloc). q.kind == R_RISCV_RELAX) rest) (filter (λ (q : Reloc). q.kind == R_RISCV_RELAX) rest))
        ≡ (if b then r.offset ∷ [] else []) ++ hint_offsets rest
    first_hint true r rest = refl
    first_hint false r rest = refl
