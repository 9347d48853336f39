-- The groups of a link stand in order of rank: by file, and in a file by section.
use Rattle.std.proofs.Common.{◌≡◌, ℕ, zero, suc, ◌+◌, ◌*◌, ◌^◌, ◌<◌, ◌≤◌, if◌then◌else◌, List, [], ◌∷◌, ◌++◌, length, get_or, All, sym, ap, subst, inl, inr, arith}
use Rattle.std.specs.Prelude.{flat_map}
use Rattle.std.specs.List.{AllPairs, range_with_len}
use Rattle.std.proofs.lemmas.List.Elements.{All-head, All-tail}
use Rattle.std.proofs.lemmas.Bool.{cases_Bool}
use Rattle.lk_tables.specs.Files.{File, file_at}
use Rattle.lk_tables.specs.Inside.{IsGroupBefore}
use Rattle.lk_tables.specs.Names.{text_of}
use Rattle.lk_tables.specs.Objects.{GroupView}
use Rattle.lk_tables.specs.declared.tables.Tables.{Tables}
use Rattle.lk_tables.specs.TablesView.{files_of}
use Rattle.lk_tables.proofs.SoundFiles.{inside_body, inside_head, sound_file}
use Rattle.comdat.specs.Discarded.{Comdat, comdat_of, comdats, comdats_in, rank}
use Rattle.comdat.specs.Signatures.{group_at, no_comdat}

-- each rank is above the one before it, all from one number on and below another
abbrev pub GoUp : (from to : ℕ) → List Comdat → Type 0
GoUp from to [] = from ≤ to
GoUp from to (g ∷ gs) = (from ≤ rank g) × GoUp (rank g + 1) to gs

up_from : (from less to : ℕ) (gs : List Comdat) → less ≤ from → GoUp from to gs → GoUp less to gs
up_from from less to [] le up = omega (arith, le, up)
up_from from less to (g ∷ gs) le up = let own : from ≤ rank g = up.0 in (omega (arith, own, le), up.1)

up_append : (from middle to : ℕ) (gs hs : List Comdat) → GoUp from middle gs → GoUp middle to hs → GoUp from to (gs ++ hs)
up_append from middle to [] hs first second = up_from middle from to hs first second
up_append from middle to (g ∷ gs) hs first second = (first.0, up_append (rank g + 1) middle to gs hs first.1 second)

up_above : (from to : ℕ) (gs : List Comdat) (k : ℕ) (d : Comdat) → GoUp from to gs → k < length gs → from ≤ rank (get_or gs k d)
up_above from to [] k d up lt = absurd (omega arith)
up_above from to (g ∷ gs) zero d up lt = up.0
up_above from to (g ∷ gs) (suc k) d up lt =
    let own : from ≤ rank g = up.0 in
    let later : rank g + 1 ≤ rank (get_or gs k d) = up_above (rank g + 1) to gs k d up.1 (omega arith) in
    omega (arith, own, later)

pub up_pair : (from to : ℕ) (gs : List Comdat) (i j : ℕ) (d : Comdat) → GoUp from to gs → i < j → j < length gs → rank (get_or gs i d) < rank (get_or gs j d)
up_pair from to [] i j d up lt high = absurd (omega arith)
up_pair from to (g ∷ gs) i zero d up lt high = absurd (omega arith)
up_pair from to (g ∷ gs) zero (suc j) d up lt high =
    let later : rank g + 1 ≤ rank (get_or gs j d) = up_above (rank g + 1) to gs j d up.1 (omega arith) in
    omega (arith, later)
up_pair from to (g ∷ gs) (suc i) (suc j) d up lt high = up_pair (rank g + 1) to gs i j d up.1 (omega arith) (omega arith)

-- the groups of one file, of which the sections are from one index on
up_one : (b : List ℕ) (f low : ℕ) (g : GroupView) (to : ℕ) (rest : List Comdat) → low ≤ g.section → GoUp (f * 2 ^ 32 + g.section + 1) to rest →
    GoUp (f * 2 ^ 32 + low) to (comdat_of b f g ++ rest)
up_one b f low g to rest le up =
    let P : List Comdat → Type 0 = λ l. GoUp (f * 2 ^ 32 + low) to (l ++ rest) in
    elim (cases_Bool g.comdat) [
      | inl is ↦ subst P (sym (ap (λ c. if c then record { file = f; section = g.section; signature = text_of b g.signature; members = g.members } ∷ [] else []) is)) (omega arith, up)
      | inr not_so ↦ subst P (sym (ap (λ c. if c then record { file = f; section = g.section; signature = text_of b g.signature; members = g.members } ∷ [] else []) not_so))
          (up_from (f * 2 ^ 32 + g.section + 1) (f * 2 ^ 32 + low) to rest (omega arith) up)
    ]

up_file : (b : List ℕ) (f low : ℕ) (gs : List GroupView) → low ≤ 2 ^ 32 → All (λ g. (low ≤ g.section) × (g.section < 2 ^ 32)) gs → AllPairs IsGroupBefore gs →
    GoUp (f * 2 ^ 32 + low) ((f + 1) * 2 ^ 32) (flat_map (comdat_of b f) gs)
up_file b f low [] le each pairs = omega arith
up_file b f low (g ∷ gs) le each pairs =
    let own = All-head (λ h. (low ≤ h.section) × (h.section < 2 ^ 32)) g gs each in
    let rest = All-tail (λ h. (low ≤ h.section) × (h.section < 2 ^ 32)) g gs each in
    let apart : AllPairs IsGroupBefore gs = λ i j d lt high. pairs (suc i) (suc j) d (omega arith) (omega arith) in
    let over : All (λ h. (g.section + 1 ≤ h.section) × (h.section < 2 ^ 32)) gs =
    λ k d lt.
    let before = (pairs zero (suc k) d (omega arith) (omega arith)).section in
    let few = (rest k d lt).1 in
    (omega (arith, before), few) in
    let few = own.1 in
    let e : f * 2 ^ 32 + (g.section + 1) ≡ f * 2 ^ 32 + g.section + 1 = omega arith in
    let P : ℕ → Type 0 = λ n. GoUp n ((f + 1) * 2 ^ 32) (flat_map (comdat_of b f) gs) in
    up_one b f low g ((f + 1) * 2 ^ 32) (flat_map (comdat_of b f) gs) own.0 (subst P e (up_file b f (g.section + 1) gs (omega (arith, few)) over apart))

module _ (tables : Tables) where
  up_in : (f : ℕ) → GoUp (f * 2 ^ 32) ((f + 1) * 2 ^ 32) (comdats_in (file_at (files_of tables) f) f)
  unfolding comdats_in
  up_in f =
      let file : File = file_at (files_of tables) f in
      let list = flat_map (comdat_of file.bytes f) file.object.groups in
      let P : List Comdat → Type 0 = λ l. GoUp (f * 2 ^ 32) ((f + 1) * 2 ^ 32) l in
      elim (cases_Bool file.live) [
        | inl live ↦
            let body = inside_body file (sound_file tables f live) in
            let few = (inside_head file (sound_file tables f live)).few in
            let each : All (λ g. (0 ≤ g.section) × (g.section < 2 ^ 32)) file.object.groups =
            λ k d lt. let high = (body.groups k d lt).section.1 in (omega arith, omega (arith, high, few)) in
            let e : f * 2 ^ 32 + 0 ≡ f * 2 ^ 32 = omega arith in
            let Q : ℕ → Type 0 = λ n. GoUp n ((f + 1) * 2 ^ 32) list in
            subst P (sym (ap (λ c. if c then list else []) live)) (subst Q e (up_file file.bytes f 0 file.object.groups (omega arith) each body.apart))
        | inr none ↦ subst P (sym (ap (λ c. if c then list else []) none)) (omega arith)
      ]

  up_range : (f n : ℕ) → GoUp (f * 2 ^ 32) ((f + n) * 2 ^ 32) (flat_map (λ k. comdats_in (file_at (files_of tables) k) k) (range_with_len f n))
  up_range f zero = omega arith
  up_range f (suc n) =
      let files = files_of tables in
      let rest = flat_map (λ k. comdats_in (file_at files k) k) (range_with_len (f + 1) n) in
      let e : (f + 1) + n ≡ f + suc n = omega arith in
      let P : ℕ → Type 0 = λ m. GoUp ((f + 1) * 2 ^ 32) (m * 2 ^ 32) rest in
      up_append (f * 2 ^ 32) ((f + 1) * 2 ^ 32) ((f + suc n) * 2 ^ 32) (comdats_in (file_at files f) f) rest (up_in f) (subst P e (up_range (f + 1) n))

  -- of two groups of the list the earlier one stands before
  pub ranks_rise : (i j : ℕ) → i < j → j < length (comdats (files_of tables)) → rank (group_at (comdats (files_of tables)) i) < rank (group_at (comdats (files_of tables)) j)
  unfolding comdats
  ranks_rise i j lt high =
      let n = length (files_of tables) in
      up_pair (0 * 2 ^ 32) ((0 + n) * 2 ^ 32) (flat_map (λ k. comdats_in (file_at (files_of tables) k) k) (range_with_len 0 n)) i j no_comdat (up_range 0 n) lt high
