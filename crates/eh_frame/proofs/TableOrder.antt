-- The table of functions has an entry for each FDE, in order of address.
use Rattle.std.proofs.Common.{◌≡◌, ℕ, suc, ◌+◌, ◌-◌, ◌^◌, ◌≤◌, ◌≤ℤ◌, ◌+ℤ◌, ◌-ℤ◌, ℤ, pos, negsuc, nat_lt, Bool, true, false, cond, List, [], ◌∷◌, ◌++◌, length, take, drop, flat_map, get_or, Option, refl, sym, ap, ◌∙◌, arith, append_assoc}
use Rattle.std.specs.Prelude.{unsigned_abs}
use Rattle.std.specs.List.{All, AllPairs}
use Rattle.std.specs.List.Sorted.{IsPermutation}
use Rattle.std.proofs.Math.Seq.{take-append_seam}
use Rattle.std.proofs.lemmas.Int.{ints}
use Rattle.std.proofs.lemmas.List.{drop_all, drop_at, length-append}
use Rattle.std.proofs.lemmas.List.Elements.{All-from_recursion, All-head, All-tail}
use Rattle.std.proofs.lemmas.List.Kept.{AllPairs-cons}
use Rattle.std.proofs.lemmas.List.Sorted.{IsPermutation-cons, IsPermutation-middle, IsPermutation-refl, IsPermutation-sym, IsPermutation-trans}
use Rattle.lk_base.specs.Order.{put_in, stable_order}
use Rattle.lk_base.proofs.StableElements.{all_stable}
use Rattle.lk_base.proofs.StableOrder.{Rises, rises_order}
use Rattle.lk_tables.specs.Binding.{Bindings}
use Rattle.lk_tables.specs.Files.{File}
use Rattle.lk_tables.specs.FramePlans.{PlanView}
use Rattle.lk_tables.specs.Frames.{RecordList}
use Rattle.link_sections.specs.LaidOut.{LaidOut}
use Rattle.eh_frame.specs.declared.placing.Placed.{Placed}
use Rattle.eh_frame.specs.Bytes.{placed_fdes}
use Rattle.eh_frame.specs.Header.{encodings, entry_of, function_of, header_bytes, key_of, table_of, word}
use Rattle.eh_frame.specs.TableLaws.{IsTable, NotLow}

-- the stable order has the same elements
put_permutes : {X : Type 0} (key : X → ℕ) (x : X) (ys : List X) → IsPermutation (x ∷ ys) (put_in key x ys)
put_permutes key x [] = IsPermutation-refl (x ∷ [])
put_permutes key x (y ∷ ys) = by (nat_lt (key y) (key x)) (put_permutes key x ys)
  where
    by : (t : Bool) → IsPermutation (x ∷ ys) (put_in key x ys) → IsPermutation (x ∷ (y ∷ ys)) (cond t (y ∷ put_in key x ys) (x ∷ (y ∷ ys)))
    by true rest =
        IsPermutation-trans (x ∷ (y ∷ ys)) (y ∷ (x ∷ ys)) (y ∷ put_in key x ys)
        (IsPermutation-sym (y ∷ (x ∷ ys)) (x ∷ (y ∷ ys)) (IsPermutation-middle (y ∷ []) x ys)) (IsPermutation-cons y (x ∷ ys) (put_in key x ys) rest)
    by false rest = IsPermutation-refl (x ∷ (y ∷ ys))

pub stable_permutes : {X : Type 0} (key : X → ℕ) (xs : List X) → IsPermutation xs (stable_order key xs)
unfolding stable_order
stable_permutes key [] = IsPermutation-refl []
stable_permutes key (x ∷ xs) =
    IsPermutation-trans (x ∷ xs) (x ∷ stable_order key xs) (put_in key x (stable_order key xs))
    (IsPermutation-cons x xs (stable_order key xs) (stable_permutes key xs)) (put_permutes key x (stable_order key xs))

-- a list that rises by a number is in any order that the number tells of its elements
pairs_rise : {X : Type 0} (key : X → ℕ) (P : X → Type 0) (R : X → X → Type 0) → ((x y : X) → P x → P y → key x ≤ key y → R x y) → (xs : List X) → Rises key xs → All P xs → AllPairs R xs
pairs_rise key P R tells [] rises all = λ i j d lt high. absurd (omega (arith, high))
pairs_rise key P R tells (x ∷ xs) rises all =
    let own = All-head P x xs all in
    let rest = All-tail P x xs all in
    let above = All-from_recursion (λ y. key x ≤ key y) xs rises.0 in
    AllPairs-cons R x xs (λ k d lt. tells x (get_or xs k d) own (rest k d lt) (above k d lt)) (pairs_rise key P R tells xs rises.1 rest)

-- a number that is not too low, and 2^64 more
raised : (x : ℤ) → negsuc (2 ^ 63) ≤ℤ x → (n : ℕ) × (x +ℤ pos (2 ^ 64) ≡ pos n)
raised (pos a) low = (a + 2 ^ 64, refl)
raised (negsuc a) low = (2 ^ 64 - suc a, omega (arith, ints, low))

lowered : (x y : ℤ) (m n : ℕ) → x +ℤ pos (2 ^ 64) ≡ pos m → y +ℤ pos (2 ^ 64) ≡ pos n → m ≤ n → x ≤ℤ y
lowered x y m n e f le = omega (arith, ints, e, f, le)

in_order : (x y : ℤ) → negsuc (2 ^ 63) ≤ℤ x → negsuc (2 ^ 63) ≤ℤ y → unsigned_abs (x +ℤ pos (2 ^ 64)) ≤ unsigned_abs (y +ℤ pos (2 ^ 64)) → x ≤ℤ y
in_order x y low also le =
    let one = raised x low in
    let two = raised y also in
    let m = ap unsigned_abs one.1 in
    let n = ap unsigned_abs two.1 in
    lowered x y one.0 two.0 one.1 two.1 (omega (arith, le, m, n))

twelve : (a b rest : List ℕ) → length a ≡ 4 → length b ≡ 4 → drop 12 (encodings ++ (a ++ (b ++ rest))) ≡ rest
twelve a b rest one two =
    let whole : encodings ++ (a ++ (b ++ rest)) ≡ (encodings ++ (a ++ b)) ++ rest =
    ap (λ l. encodings ++ l) (sym (append_assoc a b rest)) ∙ sym (append_assoc encodings (a ++ b) rest) in
    let four : length encodings ≡ 4 = refl in
    ap (drop 12) whole ∙ drop_at (encodings ++ (a ++ b)) rest 12 (omega (arith, length-append encodings (a ++ b), length-append a b, one, two, four))

first_twelve : (a b rest : List ℕ) → length a ≡ 4 → length b ≡ 4 → take 12 (encodings ++ (a ++ (b ++ rest))) ≡ encodings ++ (a ++ b)
first_twelve a b rest one two =
    let whole : encodings ++ (a ++ (b ++ rest)) ≡ (encodings ++ (a ++ b)) ++ rest =
    ap (λ l. encodings ++ l) (sym (append_assoc a b rest)) ∙ sym (append_assoc encodings (a ++ b) rest) in
    let four : length encodings ≡ 4 = refl in
    let long : 12 ≡ length (encodings ++ (a ++ b)) = omega (arith, length-append encodings (a ++ b), length-append a b, one, two, four) in
    ap (take 12) whole ∙ ap (λ n. take n ((encodings ++ (a ++ b)) ++ rest)) long ∙ take-append_seam (encodings ++ (a ++ b)) rest

module _ (files : List File) (b : Bindings) (leaders : List (Option ℕ)) (laid : LaidOut) (lists : List RecordList) where
  abbrev Above : Placed → Type 0
  Above = NotLow files b leaders laid lists

  pub table_is : (fdes : List Placed) (header start : ℕ) → All Above fdes → IsTable files b leaders laid lists fdes header start (table_of files b leaders laid lists header start fdes)
  table_is [] header start low = record {
    entries = [];
    each = IsPermutation-refl [];
    order = λ i j d lt high. absurd (omega (arith, high));
    first = λ some. absurd (omega (arith, some));
    none = λ no. refl;
    bytes_are = drop_all 12 [] (omega arith);
  }
  table_is (p ∷ ps) header start low =
      let key = key_of files b leaders laid lists in
      let address = function_of files b leaders laid lists in
      let fdes = p ∷ ps in
      record {
        entries = stable_order key fdes;
        each = stable_permutes key fdes;
        order = pairs_rise key Above (λ (x : Placed) (y : Placed). address x ≤ℤ address y) (λ x y own other le. in_order (address x) (address y) own other le)
            (stable_order key fdes) (rises_order key fdes) (all_stable Above key fdes low);
        first = λ some. first_twelve (word (pos start -ℤ pos (header + 4))) (word (pos (length fdes))) (flat_map (entry_of files b leaders laid lists header start) (stable_order key fdes))
            refl refl;
        none = λ no. absurd (omega (arith, no));
        bytes_are = twelve (word (pos start -ℤ pos (header + 4))) (word (pos (length fdes))) (flat_map (entry_of files b leaders laid lists header start) (stable_order key fdes))
            refl refl;
      }

  pub header_is : (plan : PlanView) (header start : ℕ) → ((p : Placed) → Above p) →
      IsTable files b leaders laid lists (placed_fdes lists plan) header start (header_bytes files b leaders laid lists plan header start)
  unfolding header_bytes
  header_is plan header start above = table_is (placed_fdes lists plan) header start (λ k d lt. above (get_or (placed_fdes lists plan) k d))
