-- The lines of the table of functions, in order, and how long the table is.
use Rattle.std.proofs.Common.{◌≡◌, ℕ, ◌+◌, ◌*◌, ◌<◌, nat_lt, Bool, true, false, if◌then◌else◌, List, [], ◌∷◌, ◌++◌, length, map, flat_map, refl, ap, ◌∙◌, arith, append_assoc, Option, ℤ, pos, ◌+ℤ◌, ◌-ℤ◌, ◌^◌}
use Rattle.std.specs.Prelude.{unsigned_abs}
use Rattle.std.proofs.lemmas.List.{length-append}
use Rattle.std.proofs.lemmas.List.Folds.{flat_map-map}
use Rattle.lk_base.specs.Order.{put_in, stable_order}
use Rattle.lk_base.proofs.StableElements.{length_stable}
use Rattle.lk_tables.specs.declared.records.FrameNo.{FrameNo}
use Rattle.lk_tables.specs.Binding.{Bindings}
use Rattle.lk_tables.specs.Files.{File}
use Rattle.lk_tables.specs.FramePlans.{PlanView}
use Rattle.lk_tables.specs.Frames.{RecordList}
use Rattle.link_sections.specs.LaidOut.{LaidOut}
use Rattle.eh_frame.specs.declared.header.Row.{Row}
use Rattle.eh_frame.specs.declared.placing.Placed.{Placed}
use Rattle.eh_frame.specs.Bytes.{placed_fdes, placed_from}
use Rattle.eh_frame.specs.Header.{encodings, entry_of, header_bytes, key_of, low_word, row_bytes, row_key, row_of, table_of, word}
use Rattle.eh_frame.specs.Plan.{header_len_of}
use Rattle.eh_frame.proofs.PlacedSteps.{length_placed}

put_map : {X Y : Type 0} (f : X → Y) (key : Y → ℕ) (x : X) (ys : List X) → put_in key (f x) (map f ys) ≡ map f (put_in (λ z. key (f z)) x ys)
put_map f key x [] = refl
put_map f key x (y ∷ ys) = by (nat_lt (key (f y)) (key (f x))) (put_map f key x ys)
  where
    by : (b : Bool) → put_in key (f x) (map f ys) ≡ map f (put_in (λ z. key (f z)) x ys) →
        (if b then f y ∷ put_in key (f x) (map f ys) else f x ∷ (f y ∷ map f ys)) ≡ map f (if b then y ∷ put_in (λ z. key (f z)) x ys else x ∷ (y ∷ ys))
    by true later = ap (λ l. f y ∷ l) later
    by false later = refl

order_map : {X Y : Type 0} (f : X → Y) (key : Y → ℕ) (xs : List X) → stable_order key (map f xs) ≡ map f (stable_order (λ z. key (f z)) xs)
unfolding stable_order
order_map f key [] = refl
order_map f key (x ∷ xs) = ap (put_in key (f x)) (order_map f key xs) ∙ put_map f key x (stable_order (λ z. key (f z)) xs)

four : (v : ℤ) → length (word v) ≡ 4
four v = refl

head_length : (u v : ℤ) (rest : List ℕ) → length (encodings ++ (word u ++ (word v ++ rest))) ≡ 12 + length rest
head_length u v rest =
    let first : length encodings ≡ 4 = refl in
    omega (arith, first, four u, four v, length-append encodings (word u ++ (word v ++ rest)), length-append (word u) (word v ++ rest), length-append (word v) rest)

-- numbers that are equal have the same low bytes
pub low_same : (r : ℕ) (u v : ℤ) → r ≡ low_word u → u ≡ v → r ≡ low_word v
low_same r u v is same = is ∙ ap low_word same

pub key_same : (r : ℕ) (u v : ℤ) → r ≡ unsigned_abs (u +ℤ pos (2 ^ 64)) → u ≡ v → r ≡ unsigned_abs (v +ℤ pos (2 ^ 64))
key_same r u v is same = is ∙ ap (λ w. unsigned_abs (w +ℤ pos (2 ^ 64))) same

pub word_same : (old new : List ℕ) (u v : ℤ) → new ≡ old ++ word u → u ≡ v → new ≡ old ++ word v
word_same old new u v is same = is ∙ ap (λ w. old ++ word w) same

abbrev made : (key function fde : ℕ) → Row
made key function fde = record { key = key; function = function; fde = fde }

pub row_same : (k j f g e d : ℕ) → k ≡ j → f ≡ g → e ≡ d → made k f e ≡ made j g d
row_same k j f g e d one two three = ap (λ x. made x f e) one ∙ ap (λ x. made j x e) two ∙ ap (λ x. made j g x) three

pub head_pushed : (old a b c one two three : List ℕ) → one ≡ old ++ a → two ≡ one ++ b → three ≡ two ++ c → three ≡ old ++ (a ++ (b ++ c))
head_pushed old a b c one two three one_is two_is three_is =
    three_is ∙ ap (λ l. l ++ c) (two_is ∙ ap (λ l. l ++ b) one_is) ∙ append_assoc (old ++ a) b c ∙ append_assoc old a (b ++ c)

joined : (a b c d : List ℕ) → (a ++ (b ++ c)) ++ d ≡ a ++ (b ++ (c ++ d))
joined a b c d = append_assoc a (b ++ c) d ∙ ap (λ l. a ++ l) (append_assoc b c d)

module _ (files : List File) (b : Bindings) (leaders : List (Option ℕ)) (laid : LaidOut) (lists : List RecordList) (header start : ℕ) where
  abbrev row : Placed → Row
  row p = row_of files b leaders laid lists header start p

  abbrev entry : Placed → List ℕ
  entry p = entry_of files b leaders laid lists header start p

  abbrev key : Placed → ℕ
  key p = key_of files b leaders laid lists p

  rows_are : (fdes : List Placed) → flat_map row_bytes (stable_order row_key (map row fdes)) ≡ flat_map entry (stable_order key fdes)
  rows_are fdes = ap (flat_map row_bytes) (order_map row row_key fdes) ∙ flat_map-map row_bytes row (stable_order key fdes)

  pub table_is : (fdes : List Placed) (head out : List ℕ) → 0 < length fdes →
      head ≡ encodings ++ (word (pos start -ℤ pos (header + 4)) ++ word (pos (length fdes))) →
      out ≡ head ++ flat_map row_bytes (stable_order row_key (map row fdes)) → out ≡ table_of files b leaders laid lists header start fdes
  table_is [] head out some head_is out_is = absurd (omega (arith, some))
  table_is (p ∷ ps) head out some head_is out_is =
      out_is
      ∙ ap (λ l. l ++ flat_map row_bytes (stable_order row_key (map row (p ∷ ps)))) head_is
      ∙ ap (λ l. (encodings ++ (word (pos start -ℤ pos (header + 4)) ++ word (pos (length (p ∷ ps))))) ++ l) (rows_are (p ∷ ps))
      ∙ joined encodings (word (pos start -ℤ pos (header + 4))) (word (pos (length (p ∷ ps)))) (flat_map entry (stable_order key (p ∷ ps)))

  pub no_table : (fdes : List Placed) → length fdes ≡ 0 → [] ≡ table_of files b leaders laid lists header start fdes
  no_table [] none = refl
  no_table (p ∷ ps) none = absurd (omega (arith, none))

  entries_length : (ps : List Placed) → length (flat_map entry ps) ≡ 8 * length ps
  entries_length [] = refl
  entries_length (p ∷ ps) =
      let eight : length (entry p) ≡ 8 = refl in
      omega (arith, eight, length-append (entry p) (flat_map entry ps), entries_length ps)

  table_length : (at : ℕ) (numbers : List FrameNo) → length (table_of files b leaders laid lists header start (placed_from lists at numbers)) ≡ header_len_of numbers
  table_length at [] = refl
  table_length at (n ∷ ns) =
      let ps = placed_from lists at (n ∷ ns) in
      omega (
        arith,
        head_length (pos start -ℤ pos (header + 4)) (pos (length ps)) (flat_map entry (stable_order key ps)),
        entries_length (stable_order key ps),
        length_stable key ps,
        length_placed lists at (n ∷ ns),
      )

  pub header_length : (plan : PlanView) → length (header_bytes files b leaders laid lists plan header start) ≡ header_len_of plan.fdes
  unfolding header_bytes placed_fdes
  header_length plan = table_length _ plan.fdes
