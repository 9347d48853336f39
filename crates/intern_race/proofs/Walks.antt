-- The steps of a search for a text, slot by slot.
use Rattle.std.proofs.Common.{◌≡◌, ◌≢◌, ℕ, ◌+◌, ◌*◌, ◌%◌, ◌<◌, ◌≤◌, inl, inr, List, [], ◌∷◌, ◌++◌, length, flat_map, All, Contains, append_assoc, append-nil, refl, sym, ap, ◌∙◌, subst, ⊎_elim, arith}
use Rattle.std.proofs.Math.Nat.{mod-add-mod}
use Rattle.std.proofs.lemmas.Bool.{cases_lt}
use Rattle.std.proofs.lemmas.List.Concat.{flat_map-append}
use Rattle.std.proofs.lemmas.List.Elements.{All-append, All-nil, All-push, All-weaker, Contains-append_left, Contains-append_right, Contains-push}
use Rattle.intern_race.specs.declared.rule.OwnStep.{OwnStep}
use Rattle.intern_race.specs.declared.rule.OwnStep.TheVariants.{Loaded, Lowered, Tried}
use Rattle.intern_race.specs.declared.rule.Pair.{Pair}
use Rattle.intern_race.specs.Hash.{hash_of}
use Rattle.intern_race.specs.Interning.{AreApart, IsLook, IsPassed, IsWalk, SeatView, TableView, after_steps, known, pair, placed_by, seen_by}
use Rattle.intern_race.specs.Slots.{holder, none, slot_on}
use Rattle.intern_race.specs.Texts.{text_at}
use Rattle.intern_race.specs.Visits.{CanFill, IsVisit}
use Rattle.intern_race.proofs.Few.{few_passed}
use Rattle.intern_race.proofs.Shown.{tried_fills, tried_shows}

-- steps after steps
pub steps_twice : (s : SeatView) (one two : List OwnStep) → after_steps (after_steps s one) two ≡ after_steps s (one ++ two)
steps_twice s one two =
    let make : List Pair → List Pair → List OwnStep → SeatView = λ a b c. record s { seen = a; placed = b; steps = c } in
    let seen : (s.seen ++ flat_map seen_by one) ++ flat_map seen_by two ≡ s.seen ++ flat_map seen_by (one ++ two) =
    append_assoc s.seen (flat_map seen_by one) (flat_map seen_by two) ∙ ap (λ l. s.seen ++ l) (sym (flat_map-append seen_by one two)) in
    let placed : (s.placed ++ flat_map placed_by one) ++ flat_map placed_by two ≡ s.placed ++ flat_map placed_by (one ++ two) =
    append_assoc s.placed (flat_map placed_by one) (flat_map placed_by two) ∙ ap (λ l. s.placed ++ l) (sym (flat_map-append placed_by one two)) in
    let steps : (s.steps ++ one) ++ two ≡ s.steps ++ (one ++ two) = append_assoc s.steps one two in
    ap (λ l. make l (after_steps (after_steps s one) two).placed (after_steps (after_steps s one) two).steps) seen
    ∙ ap (λ l. make (after_steps s (one ++ two)).seen l (after_steps (after_steps s one) two).steps) placed
    ∙ ap (λ l. make (after_steps s (one ++ two)).seen (after_steps s (one ++ two)).placed l) steps

-- no steps
pub steps_none : (s : SeatView) → s ≡ after_steps s []
steps_none s =
    let make : List Pair → List Pair → List OwnStep → SeatView = λ a b c. record s { seen = a; placed = b; steps = c } in
    ap (λ l. make l s.placed s.steps) (sym (append-nil s.seen)) ∙ ap (λ l. make (s.seen ++ []) l s.steps) (sym (append-nil s.placed)) ∙ ap (λ l. make (s.seen ++ []) (s.placed ++ []) l) (sym (append-nil s.steps))

passed-left : (texts : List (List ℕ)) (seen more : List Pair) (k : ℕ) (text : List ℕ) → IsPassed texts seen k text → IsPassed texts (seen ++ more) k text
passed-left texts seen more k text p = (p.0, Contains-append_left seen more (pair k p.0) p.1, p.2)

passed-right : (texts : List (List ℕ)) (seen more : List Pair) (k : ℕ) (text : List ℕ) → IsPassed texts more k text → IsPassed texts (seen ++ more) k text
passed-right texts seen more k text p = (p.0, Contains-append_right seen more (pair k p.0) p.1, p.2)

-- the first slot
pub slot_first : (slots hash : ℕ) (text : List ℕ) (slot : ℕ) → hash ≡ hash_of text → slot ≡ hash % slots → slot ≡ slot_on slots text 0
unfolding slot_on
slot_first slots hash text slot is at = at ∙ ap (λ h. h % slots) (is ∙ omega arith)

-- a step of the search is a look at one of so many slots
abbrev LooksBefore : TableView → (i far : ℕ) → OwnStep → Type 0
LooksBefore t i far step = (e : ℕ) × (e < far) × IsLook i (slot_on t.slots (text_at t.texts i) e) step

-- A search for text i that has passed so many slots, with its steps so far
pub record IsGoing (t : TableView) (i far slot : ℕ) (old now : SeatView) : Type 0 where
  pub own : List OwnStep
  pub is : now ≡ after_steps old own
  pub at : slot ≡ slot_on t.slots (text_at t.texts i) far
  pub looks : All (LooksBefore t i far) own
  pub passed : (e : ℕ) → e < far → IsPassed t.texts (flat_map seen_by own) (slot_on t.slots (text_at t.texts i) e) (text_at t.texts i)

pub going_first : (t : TableView) (i slot : ℕ) (old : SeatView) → slot ≡ slot_on t.slots (text_at t.texts i) 0 → IsGoing t i 0 slot old old
going_first t i slot old at = record {
  own = [];
  is = steps_none old;
  at = at;
  looks = All-nil (LooksBefore t i 0);
  passed = λ e lt. absurd (omega (arith, lt));
}

-- what was passed is among what the seat has seen
has_passed : (t : TableView) (i far slot : ℕ) (old now : SeatView) (g : IsGoing t i far slot old now) (e : ℕ) → e < far → IsPassed t.texts now.seen (slot_on t.slots (text_at t.texts i) e) (text_at t.texts i)
has_passed t i far slot old now g e lt =
    let text = text_at t.texts i in
    let At : SeatView → Type 0 = λ s. IsPassed t.texts s.seen (slot_on t.slots text e) text in
    subst At (sym g.is) (passed-right t.texts old.seen (flat_map seen_by g.own) (slot_on t.slots text e) text (g.passed e lt))

pub can_fill : (t : TableView) (i far slot : ℕ) (old now : SeatView) → far < t.slots → IsGoing t i far slot old now → CanFill t now (text_at t.texts i) slot
can_fill t i far slot old now short g = record {
  far = far;
  short = short;
  ends = sym g.at;
  passed = λ e lt. has_passed t i far slot old now g e lt;
}

-- a visit of the next slot that holds another text
pub going_on : (t : TableView) (i far slot after number : ℕ) (old now new : SeatView) (own : List OwnStep) → IsGoing t i far slot old now → IsVisit i slot number own → new ≡ after_steps now own
    → text_at t.texts number ≢ text_at t.texts i → after ≡ slot_on t.slots (text_at t.texts i) (far + 1) → IsGoing t i (far + 1) after old new
going_on t i far slot after number old now new own g visit is other next =
    let text = text_at t.texts i in
    let Looks : ℕ → Type 0 = λ k. All (IsLook i k) own in
    let here : All (IsLook i (slot_on t.slots text far)) own = subst Looks g.at visit.looks in
    let Shows : ℕ → Type 0 = λ k. Contains (flat_map seen_by own) (pair k number) in
    let shows = subst Shows g.at visit.shows in
    let Seen : List Pair → ℕ → Type 0 = λ l e. IsPassed t.texts l (slot_on t.slots text e) text in
    let both : flat_map seen_by (g.own ++ own) ≡ flat_map seen_by g.own ++ flat_map seen_by own = flat_map-append seen_by g.own own in record {
      own = g.own ++ own;
      is = is ∙ ap (λ s. after_steps s own) g.is ∙ steps_twice old g.own own;
      at = next;
      looks = All-append (LooksBefore t i (far + 1)) g.own own
          (All-weaker (LooksBefore t i far) (LooksBefore t i (far + 1)) (λ step l. let lt = l.1 in (l.0, omega (arith, lt), l.2)) g.own g.looks)
          (All-weaker (IsLook i (slot_on t.slots text far)) (LooksBefore t i (far + 1)) (λ step l. (far, omega arith, l)) own here);
      passed = λ e lt. subst (λ l. Seen l e) (sym both) (⊎_elim
          (λ (before : e < far). passed-left t.texts (flat_map seen_by g.own) (flat_map seen_by own) (slot_on t.slots text e) text (g.passed e before))
          (λ (from : far ≤ e).
          let same : far ≡ e = omega (arith, lt, from) in
          subst (λ k. Seen (flat_map seen_by g.own ++ flat_map seen_by own) k) same (passed-right t.texts (flat_map seen_by g.own) (flat_map seen_by own) (slot_on t.slots text far) text (number, shows, other)))
          (cases_lt e far));
    }

abbrev pub Walked : TableView → (i slot : ℕ) → (old new : SeatView) → Type 0
Walked t i slot old new = (own : List OwnStep) × IsWalk t i slot own × (new ≡ after_steps old own)

-- a visit of a slot that holds an equal text, and the offer of the number there
pub going_ends : (t : TableView) (i far slot number : ℕ) (old now mid new : SeatView) (own : List OwnStep) (found : ℕ) → i < length t.texts → far ≤ t.slots → IsGoing t i far slot old now
    → AreApart t.texts (known mid) → IsVisit i slot number own → mid ≡ after_steps now own → text_at t.texts number ≡ text_at t.texts i → new ≡ after_steps mid (Lowered slot i found ∷ []) → Walked t i slot old new
going_ends t i far slot number old now mid new own found within short g apart visit is equal last =
    let text = text_at t.texts i in
    let looks : List OwnStep = g.own ++ own in
    let whole : List OwnStep = looks ++ Lowered slot i found ∷ [] in
    let so_far : mid ≡ after_steps old looks = is ∙ ap (λ s. after_steps s own) g.is ∙ steps_twice old g.own own in
    let all : new ≡ after_steps old whole = last ∙ ap (λ s. after_steps s (Lowered slot i found ∷ [])) so_far ∙ steps_twice old looks (Lowered slot i found ∷ []) in
    let Looks : ℕ → Type 0 = λ k. All (IsLook i k) own in
    let here : All (IsLook i (slot_on t.slots text far)) own = subst Looks g.at visit.looks in
    let both : flat_map seen_by looks ≡ flat_map seen_by g.own ++ flat_map seen_by own = flat_map-append seen_by g.own own in
    let On : OwnStep → Type 0 = λ step. (e : ℕ) × (e ≤ far) × IsLook i (slot_on t.slots text e) step in
    let Seen : List Pair → ℕ → Type 0 = λ l e. IsPassed t.texts l (slot_on t.slots text e) text in
    let passed : (e : ℕ) → e < far → Seen (flat_map seen_by looks) e = λ e lt.
    subst (λ l. Seen l e) (sym both) (passed-left t.texts (flat_map seen_by g.own) (flat_map seen_by own) (slot_on t.slots text e) text (g.passed e lt)) in
    let Knows : SeatView → ℕ → Type 0 = λ s e. Seen (known s) e in
    let knows : (e : ℕ) → e < far → Seen (known mid) e = λ e lt.
    subst (λ s. Knows s e) (sym so_far) (passed-left t.texts (old.seen ++ flat_map seen_by looks) (after_steps old looks).placed (slot_on t.slots text e) text
    (passed-right t.texts old.seen (flat_map seen_by looks) (slot_on t.slots text e) text (passed e lt))) in
    let Has : List Pair → Type 0 = λ l. Contains l (pair slot number) in (
      whole,
      record {
        far = far;
        few = few_passed t.slots t.texts i far (known mid) within short apart knows;
        ends = sym g.at;
        looks = looks;
        last = (found, refl);
        only = All-append On g.own own
            (All-weaker (LooksBefore t i far) On (λ step l. let lt = l.1 in (l.0, omega (arith, lt), l.2)) g.own g.looks)
            (All-weaker (IsLook i (slot_on t.slots text far)) On (λ step l. (far, omega arith, l)) own here);
        passed = passed;
        found = (number, subst Has (sym both) (Contains-append_right (flat_map seen_by g.own) (flat_map seen_by own) (pair slot number) visit.shows), equal);
      },
      all,
    )

-- no search passes all slots
pub not_all : (t : TableView) (i far slot : ℕ) (old now : SeatView) → far ≡ t.slots → i < length t.texts → 2 * length t.texts ≤ t.slots → AreApart t.texts (known now) → IsGoing t i far slot old now → ⊥
not_all t i far slot old now all within wide apart g =
    let text = text_at t.texts i in
    let few = few_passed t.slots t.texts i far (known now) within (omega (arith, all)) apart
    (λ e lt. passed-left t.texts now.seen now.placed (slot_on t.slots text e) text (has_passed t i far slot old now g e lt)) in
    omega (arith, few, wide, within, all)

-- one visit of a slot: by a load alone, or by a load and a try
abbrev pub Visited : (i slot number : ℕ) → (old new : SeatView) → Type 0
Visited i slot number old new = (own : List OwnStep) × IsVisit i slot number own × (new ≡ after_steps old own)

one_load : (i slot w : ℕ) → All (IsLook i slot) (Loaded slot w ∷ [])
one_load i slot w = All-push (IsLook i slot) [] (Loaded slot w) (All-nil (IsLook i slot)) (inl (w, refl))

two_looks : (i slot w x : ℕ) (old mid new : SeatView) → mid ≡ after_steps old (Loaded slot w ∷ []) → new ≡ after_steps mid (Tried slot i x ∷ []) → new ≡ after_steps old (Loaded slot w ∷ Tried slot i x ∷ [])
two_looks i slot w x old mid new one two = two ∙ ap (λ s. after_steps s (Tried slot i x ∷ [])) one ∙ steps_twice old (Loaded slot w ∷ []) (Tried slot i x ∷ [])

all_looks : (i slot w x : ℕ) → All (IsLook i slot) (Loaded slot w ∷ Tried slot i x ∷ [])
all_looks i slot w x = All-push (IsLook i slot) (Loaded slot w ∷ []) (Tried slot i x) (one_load i slot w) (inr (x, refl))

pub visited_filling : (i slot w x : ℕ) (old mid new : SeatView) → x ≡ none → mid ≡ after_steps old (Loaded slot w ∷ []) → new ≡ after_steps mid (Tried slot i x ∷ []) → Visited i slot i old new
visited_filling i slot w x old mid new empty one two = (
  Loaded slot w ∷ Tried slot i x ∷ [],
  record { looks = all_looks i slot w x; shows = Contains-append_right (seen_by (Loaded slot w)) (flat_map seen_by (Tried slot i x ∷ [])) (pair slot i) (tried_fills slot i x empty) },
  two_looks i slot w x old mid new one two,
)

pub visited_taken : (i slot w x : ℕ) (old mid new : SeatView) → x ≢ none → mid ≡ after_steps old (Loaded slot w ∷ []) → new ≡ after_steps mid (Tried slot i x ∷ []) → Visited i slot (holder x) old new
visited_taken i slot w x old mid new filled one two = (
  Loaded slot w ∷ Tried slot i x ∷ [],
  record { looks = all_looks i slot w x; shows = Contains-append_right (seen_by (Loaded slot w)) (flat_map seen_by (Tried slot i x ∷ [])) (pair slot (holder x)) (tried_shows slot i x filled) },
  two_looks i slot w x old mid new one two,
)

-- a slot that may be filled may be after more steps
pub can_fill_after : (t : TableView) (s s' : SeatView) (own : List OwnStep) (text : List ℕ) (slot : ℕ) → s' ≡ after_steps s own → CanFill t s text slot → CanFill t s' text slot
can_fill_after t s s' own text slot is can = record {
  far = can.far;
  short = can.short;
  ends = can.ends;
  passed = λ e lt.
      let At : SeatView → Type 0 = λ x. IsPassed t.texts x.seen (slot_on t.slots text e) text in
      subst At (sym is) (passed-left t.texts s.seen (flat_map seen_by own) (slot_on t.slots text e) text (can.passed e lt));
}

-- what a visit shows is among what the seat has seen
pub visit_seen : (i slot number : ℕ) (old new : SeatView) (v : Visited i slot number old new) → Contains new.seen (pair slot number)
visit_seen i slot number old new v =
    let Has : SeatView → Type 0 = λ s. Contains s.seen (pair slot number) in
    subst Has (sym v.2) (Contains-append_right old.seen (flat_map seen_by v.0) (pair slot number) v.1.shows)

-- the number that a visit shows is that of a text
pub visit_number : (t : TableView) (i slot number : ℕ) (old new : SeatView) → Visited i slot number old new → AreApart t.texts (known new) → number < length t.texts
visit_number t i slot number old new v apart = apart.within (pair slot number) (Contains-append_left new.seen new.placed (pair slot number) (visit_seen i slot number old new v))

-- a text that is walked to a slot is placed there
pub walk_places : (t : TableView) (i slot : ℕ) (old new : SeatView) → Walked t i slot old new → Contains new.placed (pair slot i)
walk_places t i slot old new w =
    let walk = w.1 in
    let found : ℕ = walk.last.0 in
    let Has : SeatView → Type 0 = λ s. Contains s.placed (pair slot i) in
    let Own : List OwnStep → Type 0 = λ l. Contains (flat_map placed_by l) (pair slot i) in
    let both : flat_map placed_by (walk.looks ++ Lowered slot i found ∷ []) ≡ flat_map placed_by walk.looks ++ flat_map placed_by (Lowered slot i found ∷ []) =
    flat_map-append placed_by walk.looks (Lowered slot i found ∷ []) in
    let In : List Pair → Type 0 = λ l. Contains l (pair slot i) in
    let last : Own (walk.looks ++ Lowered slot i found ∷ []) =
    subst In (sym both) (Contains-append_right (flat_map placed_by walk.looks) (flat_map placed_by (Lowered slot i found ∷ [])) (pair slot i) (Contains-push [] (pair slot i))) in
    subst Has (sym w.2) (Contains-append_right old.placed (flat_map placed_by w.0) (pair slot i) (subst Own (sym walk.last.1) last))

-- the rest of a sum does not change by that of a part
mod_step : (n slots : ℕ) → 0 < slots → (n % slots + 1) % slots ≡ (n + 1) % slots
mod_step n slots some = mod-add-mod n slots 1

-- the slot after another
pub slot_next : (slots : ℕ) (text : List ℕ) (far slot next : ℕ) → 0 < slots → slot ≡ slot_on slots text far → next ≡ (slot + 1) % slots → next ≡ slot_on slots text (far + 1)
unfolding slot_on
slot_next slots text far slot next some at is =
    let sum : hash_of text + (far + 1) ≡ hash_of text + far + 1 = omega arith in
    is ∙ ap (λ k. (k + 1) % slots) at ∙ mod_step (hash_of text + far) slots some ∙ ap (λ k. k % slots) (sym sum)
