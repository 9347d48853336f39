-- What the calls on a shelf answer and leave, said of its outputs.
use Rattle.std.proofs.Common.{◌≡◌, ℕ, ◌-◌, ◌<◌, ◌≤◌, min, Bool, true, false, not, cond, nat_lt, nat_le, ◌&&◌, ◌==◌, List, [], ◌∷◌, ◌++◌, length, set, take, sym, ◌∙◌, ap, subst, arith, eq-eqb, None, Some, Option, Ok, Err}
use Rattle.std.proofs.lemmas.Grind.{common_steps}
use Rattle.std.proofs.lemmas.List.{length-take}
use Rattle.std.specs.FinMap.{get, insert, contains_key, len}
use Rattle.std.specs.Prelude.{if◌then◌else◌, ok_or}
use Rattle.std.proofs.lemmas.Bool.{and_left, and_right, not_from_false, not_from_true, or_from, or_left, or_right}
use Rattle.lk_depot.specs.Faults.{next_count}
use Rattle.lk_depot.specs.Files.{Files, content, added}
use Rattle.lk_depot.specs.Held.{Held}
use Rattle.lk_depot.specs.Overlays.{place_of, files_with, kinds_of}
use Rattle.lk_depot.specs.Shelf.{Shelf, fails_now, is_output, room_left, answer_load, refuses_begin, answer_begin, after_begin, refuses_append, answer_append, after_append, length_appended}
use Rattle.lk_depot.specs.declared.kinds.FileKind.{FileKind}
use Rattle.lk_depot.specs.declared.stops.LoadStop.TheVariants.{Absent, Failed}
use Rattle.lk_depot.proofs.OutputMaps.{IsHeldAt, started, not_output, is_output_found, content_found, files_appended, kinds_appended, files_begun, kinds_begun, files_pushed, kinds_pushed}

picked : {X : Type 0} (b v : Bool) (x y : X) → b ≡ v → cond b x y ≡ cond v x y
picked b v x y e = ap (λ test. cond test x y) e

longer_not : {n : ℕ} → n ≤ 256 → nat_lt 256 n ≡ false
longer_not {n} short = grind (arith, common_steps)

two_not : {n : ℕ} → n < 2 → nat_le 2 n ≡ false
two_not {n} few = grind (arith, common_steps)

some_not : {n : ℕ} → 0 < n → (n == 0) ≡ false
some_not {n} some = grind (arith, common_steps)

-- Why an append is refused.
refuses_no_output : (s : Shelf) (name : List ℕ) → is_output s name ≡ false → refuses_append s name ≡ true
refuses_no_output s name e = or_right _ _ (or_left _ _ (not_from_false _ e))

refuses_full : (s : Shelf) (name : List ℕ) → room_left s name ≡ 0 → refuses_append s name ≡ true
refuses_full s name e = or_right _ _ (or_right _ _ (eq-eqb _ _ e))

takes_some : (s : Shelf) (name : List ℕ) → fails_now s ≡ false → is_output s name ≡ true → 0 < room_left s name → refuses_append s name ≡ false
takes_some s name listed output room = or_from _ _ listed (or_from _ _ (not_from_true _ output) (some_not room))

-- Why a begin is refused.
refuses_third : (s : Shelf) (name : List ℕ) → is_output s name ≡ false → len s.kinds ≡ 2 → refuses_begin s name ≡ true
refuses_third s name new two = or_right _ _ (or_right _ _ (ap (λ b. not b && nat_le 2 (len s.kinds)) new ∙ ap (nat_le 2) two))

begins_anew : (s : Shelf) (name : List ℕ) → fails_now s ≡ false → length name ≤ 256 → is_output s name ≡ true → refuses_begin s name ≡ false
begins_anew s name listed short output = or_from _ _ listed (or_from _ _ (longer_not short) (and_left _ _ (not_from_true _ output)))

begins_new : (s : Shelf) (name : List ℕ) → fails_now s ≡ false → length name ≤ 256 → len s.kinds < 2 → refuses_begin s name ≡ false
begins_new s name listed short spare = or_from _ _ listed (or_from _ _ (longer_not short) (and_right _ _ (two_not spare)))

-- What a call that is refused answers and leaves.
abbrev pub BeginRefused : Shelf → List ℕ → FileKind → Type 0
BeginRefused s name kind =
    (answer_begin s name ≡ Err (record {}))
    × (after_begin s name kind ≡ record s { calls = next_count s.calls; begun = next_count s.begun; faults = next_count s.faults })

abbrev pub AppendRefused : Shelf → List ℕ → List ℕ → Type 0
AppendRefused s name piece =
    (answer_append s name piece ≡ Err (record {})) × (after_append s name piece ≡ record s { calls = next_count s.calls; faults = next_count s.faults })

begin_refused : (s : Shelf) (name : List ℕ) (kind : FileKind) → refuses_begin s name ≡ true
    → BeginRefused s name kind
begin_refused s name kind e = (picked _ true _ _ e, picked _ true _ _ e)

begin_done : (s : Shelf) (name : List ℕ) (kind : FileKind) → refuses_begin s name ≡ false
    → (answer_begin s name ≡ Ok tt) × (after_begin s name kind ≡ record s { calls = next_count s.calls; begun = next_count s.begun; files = insert s.files name []; kinds = insert s.kinds name kind })
begin_done s name kind e = (picked _ false _ _ e, picked _ false _ _ e)

append_refused : (s : Shelf) (name piece : List ℕ) → refuses_append s name ≡ true
    → AppendRefused s name piece
append_refused s name piece e = (picked _ true _ _ e, picked _ true _ _ e)

append_done : (s : Shelf) (name piece : List ℕ) → refuses_append s name ≡ false
    → (answer_append s name piece ≡ Ok (length_appended s name piece))
    × (after_append s name piece ≡ record s { calls = next_count s.calls; files = added name (take (length_appended s name piece) piece) s.files })
append_done s name piece e = (picked _ false _ _ e, picked _ false _ _ e)

-- What a begin that is not refused answers, and the outputs that it leaves.
abbrev pub Begun : Shelf → List ℕ → FileKind → Files → List Held → Type 0
Begun s name kind inputs outputs =
    (answer_begin s name ≡ Ok tt)
    × (after_begin s name kind ≡ record s { calls = next_count s.calls; begun = next_count s.begun; files = files_with outputs inputs; kinds = kinds_of outputs })

-- The same of an append.
abbrev pub Appended : Shelf → List ℕ → List ℕ → Files → ℕ → List Held → Type 0
Appended s name piece inputs taken outputs =
    (answer_append s name piece ≡ Ok taken)
    × (after_append s name piece ≡ record s { calls = next_count s.calls; files = files_with outputs inputs; kinds = kinds_of outputs })

-- A shelf has these outputs over these inputs.
pub record Shows (s : Shelf) (outputs : List Held) (inputs : Files) : Type 0 where
  pub files : s.files ≡ files_with outputs inputs
  pub kinds : s.kinds ≡ kinds_of outputs

module _ (s : Shelf) (outputs : List Held) (inputs : Files) (shows : Shows s outputs inputs) (name : List ℕ) where
  module _ (new : place_of (λ h. h.name) outputs name ≡ None) where
    no_output : is_output s name ≡ false
    no_output = ap (λ m. contains_key m name) shows.kinds ∙ not_output outputs inputs name new

    pub append_to_none : (piece : List ℕ) → AppendRefused s name piece
    append_to_none piece = append_refused s name piece (refuses_no_output s name no_output)

    pub begin_third : (kind : FileKind) → len (kinds_of outputs) ≡ 2 → BeginRefused s name kind
    begin_third kind two = begin_refused s name kind (refuses_third s name no_output (ap len shows.kinds ∙ two))

    pub begin_new : (kind : FileKind) (room : ℕ) → fails_now s ≡ false → length name ≤ 256 → len (kinds_of outputs) < 2
        → Begun s name kind inputs (outputs ++ started name kind room ∷ [])
    begin_new kind room listed short few =
        let done = begin_done s name kind (begins_new s name listed short (subst (λ n. n < 2) (sym (ap len shows.kinds)) few)) in
        let files = ap (λ m. insert m name []) shows.files ∙ sym (files_pushed outputs inputs name new kind room) in
        let kinds = ap (λ m. insert m name kind) shows.kinds ∙ sym (kinds_pushed outputs inputs name new kind room) in
        (done.0, done.1 ∙ (λ i. record s { calls = next_count s.calls; begun = next_count s.begun; files = files i; kinds = kinds i }))

  module _ (i : ℕ) (held : Held) (placed : IsHeldAt outputs name i held) where
    an_output : is_output s name ≡ true
    an_output = ap (λ m. contains_key m name) shows.kinds ∙ is_output_found outputs inputs name i held placed

    left : room_left s name ≡ s.room - length held.bytes
    left = ap (λ bytes. s.room - length bytes) (ap (λ m. content m name) shows.files ∙ content_found outputs inputs name i held placed)

    pub append_to_full : (piece : List ℕ) → s.room - length held.bytes ≡ 0 → AppendRefused s name piece
    append_to_full piece full = append_refused s name piece (refuses_full s name (left ∙ full))

    pub begin_again : (kind : FileKind) (room : ℕ) → fails_now s ≡ false → length name ≤ 256 → Begun s name kind inputs (set outputs i (started name kind room))
    begin_again kind room listed short =
        let done = begin_done s name kind (begins_anew s name listed short an_output) in
        let files = ap (λ m. insert m name []) shows.files ∙ sym (files_begun outputs inputs name i held placed kind room) in
        let kinds = ap (λ m. insert m name kind) shows.kinds ∙ sym (kinds_begun outputs inputs name i held placed kind room) in
        (done.0, done.1 ∙ (λ j. record s { calls = next_count s.calls; begun = next_count s.begun; files = files j; kinds = kinds j }))

    pub append_some : (piece : List ℕ) (taken : ℕ) → fails_now s ≡ false → taken ≡ min (min (length piece) s.most) (s.room - length held.bytes) → 0 < taken
        → Appended s name piece inputs taken (set outputs i (record held { bytes = held.bytes ++ take taken piece }))
    append_some piece taken listed is some =
        let room : 0 < room_left s name = rw left (omega arith) in
        let done = append_done s name piece (takes_some s name listed an_output room) in
        let length_is : length_appended s name piece ≡ taken = ap (min (min (length piece) s.most)) left ∙ sym is in
        let prefix : 0 < length (take taken piece) = rw length-take (omega arith) in
        let files : added name (take (length_appended s name piece) piece) s.files ≡ files_with (set outputs i (record held { bytes = held.bytes ++ take taken piece })) inputs =
        ap (λ n. added name (take n piece) s.files) length_is ∙ ap (added name (take taken piece)) shows.files
        ∙ sym (files_appended outputs inputs name i held placed (take taken piece) prefix) in
        let kinds = shows.kinds ∙ sym (kinds_appended outputs inputs name i held placed (take taken piece)) in
        (done.0 ∙ ap Ok length_is, done.1 ∙ (λ j. record s { calls = next_count s.calls; files = files j; kinds = kinds j }))

held_if_given : (listed : Bool) (held : Option (List ℕ)) (bytes : List ℕ) → (if listed then Err Failed else ok_or held Absent) ≡ Ok bytes → held ≡ Some bytes
held_if_given true held bytes is = absurd cc
held_if_given false None bytes is = absurd cc
held_if_given false (Some x) bytes is = cc

-- A load that answers bytes answers those of the file.
pub loaded_is_there : (shelf : Shelf) (name bytes : List ℕ) → answer_load shelf name ≡ Ok bytes → get shelf.files name ≡ Some bytes
loaded_is_there shelf name bytes is = held_if_given (fails_now shelf) (get shelf.files name) bytes is
