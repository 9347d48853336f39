-- What reading a list of files gives, step by step.
use Rattle.std.proofs.Common.{◌≡◌, ℕ, zero, suc, ◌+◌, ◌<◌, List, [], ◌∷◌, ◌++◌, length, map, refl, sym, ap, ◌∙◌, subst, arith, Option, Some, None, Result, Ok, Err}
use Rattle.std.specs.Prelude.{flat_map, IfOk}
use Rattle.std.specs.List.{range_with_len}
use Rattle.std.specs.Global.{Vec}
use Rattle.std.proofs.lemmas.List.{length-append, length-map, map-append}
use Rattle.lk_base.specs.declared.defects.LinkStop.{LinkStop}
use Rattle.lk_depot.specs.declared.stops.LoadAllStop.{LoadAllStop}
use Rattle.lk_depot.specs.declared.stops.LoadAllStop.TheVariants as stops
use Rattle.work_split.specs.Shares.{EachFrom, IsShare}
use Rattle.work_split.proofs.Sharing.{each_rises}
use Rattle.lk_real.specs.Reading.{no_defects, AreRead, IsAny, IsFirstUnread, IsOfNames}

pub none_in : (a n : ℕ) → flat_map no_defects (range_with_len a n) ≡ []
none_in a zero = refl
none_in a (suc n) = none_in (a + 1) n

-- a share of all has one element for each number
pub as_many : (n : ℕ) (r : Result (Vec (Option (Vec ℕ))) LinkStop) (files : Vec (Option (Vec ℕ))) → r ≡ Ok files → IsShare no_defects IsAny 0 n r → length files.items ≡ n
as_many n r files is share =
    let P : Result (Vec (Option (Vec ℕ))) LinkStop → Type 0 = λ s. IfOk s (λ list. EachFrom IsAny 0 n list.items) in
    let each : EachFrom IsAny 0 n files.items = subst P is share.each in
    omega (arith, each_rises IsAny 0 n files.items each)

-- one more file that was read
pub file_more : (files : List (Option (Vec ℕ))) (old new : List (Vec ℕ)) (file : Option (Vec ℕ)) (bytes : Vec ℕ)
    → files ≡ map Some old → file ≡ Some bytes → new ≡ old ++ bytes ∷ [] → files ++ file ∷ [] ≡ map Some new
file_more files old new file bytes so_far read grown =
    ap (λ l. l ++ file ∷ []) so_far
    ∙ ap (λ f. map Some old ++ f ∷ []) read
    ∙ sym (map-append {A = Vec ℕ} {B = Option (Vec ℕ)} Some old (bytes ∷ []))
    ∙ ap (map {A = Vec ℕ} {B = Option (Vec ℕ)} Some) (sym grown)

-- the next file was not read
pub file_unread : (files items rest whole : List (Option (Vec ℕ))) (old : List (Vec ℕ)) (file : Option (Vec ℕ)) (place : ℕ)
    → files ++ items ≡ whole → items ≡ file ∷ rest → file ≡ None → files ≡ map Some old → place ≡ length old → IsFirstUnread whole place
file_unread files items rest whole old file place held next gone so_far here = record {
  before = old;
  after = rest;
  whole = sym held ∙ ap (λ l. files ++ l) next ∙ ap (λ f. files ++ f ∷ rest) gone ∙ ap (λ l. l ++ None ∷ rest) so_far;
  here = sym here;
}

within : (files : List (Option (Vec ℕ))) (place : ℕ) → IsFirstUnread files place → place < length files
within files place first =
    let front : List (Option (Vec ℕ)) = map Some first.before in
    let long : length files ≡ length front + length (None ∷ first.after) = ap length first.whole ∙ length-append front (None ∷ first.after) in
    let as_long : length front ≡ length first.before = length-map first.before Some in
    omega (arith, long, as_long, first.here)

-- as many names as files
pub of_names : (n : ℕ) (files : List (Option (Vec ℕ))) (result : Result (Vec (Vec ℕ)) LoadAllStop) → length files ≡ n → AreRead files result → IsOfNames n result
of_names n files (Ok buffers) many read =
    let as_long : length (map {A = Vec ℕ} {B = Option (Vec ℕ)} Some buffers.items) ≡ length buffers.items = length-map buffers.items Some in
    sym as_long ∙ sym (ap length read) ∙ many
of_names n files (Err (stops.Absent place)) many read = read
of_names n files (Err (stops.Failed place)) many read = omega (arith, within files place read, many)
of_names n files (Err stops.Memory) many read = tt
