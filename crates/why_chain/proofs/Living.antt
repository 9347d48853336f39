-- The search for a walk: what is known at a place of the queue, one place on, and where it ends.
use Rattle.std.proofs.Common.{◌≡◌, ◌⊎◌, ℕ, zero, suc, ◌+◌, ◌-◌, ◌<◌, ◌≤◌, Bool, true, false, Some, None, List, [], ◌∷◌, ◌++◌, length, get_or, replicate, All, Contains, IsPermutation, refl, sym, ap, ◌∙◌, subst, inl, inr, ⊎_elim, arith}
use Rattle.std.proofs.lemmas.Bool.{cases_lt, false_from_ne_true, true≢false}
use Rattle.std.proofs.lemmas.List.{get_or-append_right, get_or-replicate, get_or_append_left, length-append, length-replicate}
use Rattle.std.proofs.lemmas.List.Elements.{Contains-append_cases, Contains-append_left, Contains-append_right}
use Rattle.std.proofs.lemmas.List.Sorted.{Contains-permutation, IsPermutation-sym, length_permutation}
use Rattle.lk_base.specs.RelocKinds.{is_among}
use Rattle.lk_base.proofs.Membership.{among_has, among_tells}
use Rattle.lk_tables.specs.Reach.{IsClosed, IsReached, ends_at, mark, unmarked}
use Rattle.lk_tables.proofs.Marking.{mark_inside, none_marked}
use Rattle.why_chain.specs.ShortLists.{NotAfter, short_lists}
use Rattle.why_chain.specs.Visits.{AreWords, Gathered, all_gathered, gathered, with_start}
use Rattle.why_chain.specs.Walks.{IsLeastWalk, is_walk, live_chain}
use Rattle.why_chain.proofs.Among.{stands, stands_at}
use Rattle.why_chain.proofs.Firsts.{find_none, first_short}
use Rattle.why_chain.proofs.Gathering.{IsGathered, all_are_gathered, all_are_marked}
use Rattle.why_chain.proofs.Orders.{comes_or_same, no_longer}
use Rattle.why_chain.proofs.Searching.{IsSearch, after, least_here, none_here, search_more, search_starts}
use Rattle.why_chain.proofs.Walking.{AreSections, end_low, from_start, numbers_low, own_row, rows_low, start_row, step_tells, step_there, step_to, to_start, walk_reaches}

-- the numbers of a list as a function
abbrev pub at : List ℕ → ℕ → ℕ
at xs i = get_or xs i 0

abbrev pub IsLiveSearch : (roots : List ℕ) (ends : List (List ℕ)) (sections froms : List ℕ) (place : ℕ) → Type 0
IsLiveSearch roots ends sections froms place = IsSearch (step_to (with_start roots ends)) (length ends) (at sections) (at froms) (at sections) (length sections) place

-- the queue, its marks, and that no section before the place is the target
pub record IsLiveAt (roots : List ℕ) (ends : List (List ℕ)) (target : ℕ) (seen : List Bool) (sections froms : List ℕ) (place : ℕ) : Type 0 where
  pub search : IsLiveSearch roots ends sections froms place
  pub wide : length froms ≡ length sections
  pub sized : length seen ≡ length ends
  pub counted : unmarked seen + length sections ≡ length ends + 1
  pub queued : (f : ℕ) → mark seen f ≡ true → Contains sections f
  pub marked : (f : ℕ) → Contains sections f → (f ≡ length ends) ⊎ (mark seen f ≡ true)
  pub missed : (i : ℕ) → i < place → at sections i ≡ target → ⊥

no_mark : (n f : ℕ) → mark (replicate n false) f ≡ true → ⊥
no_mark zero f is = true≢false (sym is)
no_mark (suc n) zero is = true≢false (sym is)
no_mark (suc n) (suc f) is = no_mark n f is

one_only : (n f : ℕ) → Contains (n ∷ []) f → f ≡ n
one_only n f (zero, less, is) = sym is
one_only n f (suc k, less, is) = absurd (omega arith)

pub live_starts : (roots : List ℕ) (ends : List (List ℕ)) (target : ℕ) → IsLiveAt roots ends target (replicate (length ends) false) (length ends ∷ []) (0 ∷ []) 0
live_starts roots ends target = record {
  search = search_starts (step_to (with_start roots ends)) (length ends) (at (length ends ∷ [])) (at (0 ∷ [])) (at (length ends ∷ [])) refl;
  wide = refl;
  sized = length-replicate (length ends) false;
  counted = omega (arith, none_marked (length ends));
  queued = λ f is. absurd (no_mark (length ends) f is);
  marked = λ f has. inl (one_only (length ends) f has);
  missed = λ i less is. absurd (omega arith);
}

-- the same of a queue that is the start alone
pub live_begins : (roots : List ℕ) (ends : List (List ℕ)) (target : ℕ) (seen : List Bool) (sections froms : List ℕ) → seen ≡ replicate (length ends) false
    → sections ≡ length ends ∷ [] → froms ≡ 0 ∷ [] → IsLiveAt roots ends target seen sections froms 0
live_begins roots ends target seen sections froms fresh first back =
    let P : List Bool → Type 0 = λ m. IsLiveAt roots ends target m sections froms 0 in
    let Q : List ℕ → Type 0 = λ l. IsLiveAt roots ends target (replicate (length ends) false) l froms 0 in
    let R : List ℕ → Type 0 = λ l. IsLiveAt roots ends target (replicate (length ends) false) (length ends ∷ []) l 0 in
    subst P (sym fresh) (subst Q (sym first) (subst R (sym back) (live_starts roots ends target)))

module _ (roots : List ℕ) (ends : List (List ℕ)) (low : AreSections roots ends) (target : ℕ) (seen : List Bool) (sections froms : List ℕ) (place : ℕ)
    (h : IsLiveAt roots ends target seen sections froms place) where
  abbrev row_here : List ℕ
  row_here = ends_at (with_start roots ends) (at sections place)

  -- each section of the queue is one, or the start
  pub section_low : (i : ℕ) → i < length sections → at sections i ≤ length ends
  section_low i less = ⊎_elim
      (λ (same : at sections i ≡ length ends). omega arith)
      (λ (is : mark seen (at sections i) ≡ true). omega (arith, mark_inside seen (at sections i) is, h.sized))
      (h.marked (at sections i) (stands sections i (at sections i) less refl))

  pub ends_seen : All (λ e. e < length seen) row_here
  ends_seen = λ k d less. omega (arith, rows_low roots ends low (at sections place) k d less, h.sized)

  pub few_sections : length sections ≤ length ends + 1
  few_sections = omega (arith, h.counted)

  module _ (inside : place < length sections) (more : List Bool) (queue places row : List ℕ)
      (marks : more ≡ (all_gathered (gathered seen []) row_here).seen)
      (moved : IsPermutation (all_gathered (gathered seen []) row_here).row row)
      (rises : (i j : ℕ) → i < j → j < length row → at row i < at row j)
      (queue_is : queue ≡ sections ++ row) (places_are : places ≡ froms ++ replicate (length row) place) where
    abbrev new : Gathered
    new = all_gathered (gathered seen []) row_here

    known : IsGathered row_here seen new
    known = all_are_gathered row_here seen ends_seen

    in_row : (f : ℕ) → Contains row f → Contains new.row f
    in_row f has = Contains-permutation row new.row f (IsPermutation-sym new.row row moved) has

    row_has : (f : ℕ) → Contains new.row f → Contains row f
    row_has f has = Contains-permutation new.row row f moved has

    queue_wide : length queue ≡ length sections + length row
    queue_wide = ap length queue_is ∙ length-append sections row

    queue_old : (i : ℕ) → i < length sections → at queue i ≡ at sections i
    queue_old i less = ap (λ l. at l i) queue_is ∙ get_or_append_left sections row 0 i less

    queue_new : (i : ℕ) → length sections ≤ i → at queue i ≡ at row (i - length sections)
    queue_new i most = ap (λ l. at l i) queue_is ∙ get_or-append_right sections row (length sections) i 0 refl most

    places_old : (i : ℕ) → i < length sections → at places i ≡ at froms i
    places_old i less = ap (λ l. at l i) places_are ∙ get_or_append_left froms (replicate (length row) place) 0 i (omega (arith, h.wide))

    places_new : (i : ℕ) → length sections ≤ i → i < length queue → at places i ≡ place
    places_new i most less =
        ap (λ l. at l i) places_are ∙ get_or-append_right froms (replicate (length row) place) (length sections) i 0 h.wide most
        ∙ get_or-replicate (length row) (i - length sections) place 0 (omega (arith, queue_wide))

    new_section : (i : ℕ) → length sections ≤ i → i < length queue → Contains row (at queue i)
    new_section i most less = stands row (i - length sections) (at queue i) (omega (arith, queue_wide)) (sym (queue_new i most))

    new_leads : (i : ℕ) → length sections ≤ i → i < length queue → step_to (with_start roots ends) (at sections place) (at queue i) ≡ Some (at queue i)
    new_leads i most less =
        step_there (with_start roots ends) (at sections place) (at queue i)
        (among_has row_here (at queue i) (known.among (at queue i) (in_row (at queue i) (new_section i most less))))

    new_rises : (i j : ℕ) → length sections ≤ i → i < j → j < length queue → at queue i < at queue j
    new_rises i j most under less =
        let up = rises (i - length sections) (j - length sections) (omega arith) (omega (arith, queue_wide)) in
        omega (arith, up, queue_new i most, queue_new j (omega arith))

    Reached : ℕ → ℕ → Type 0
    Reached k t = (j : ℕ) × (j < length queue) × (at queue j ≡ t) × (length sections ≤ j → at queue j ≤ k)

    steps_stand : (k t : ℕ) → step_to (with_start roots ends) (at sections place) k ≡ Some t → Reached k t
    unfolding Reached
    steps_stand k t e =
        let step = step_tells (with_start roots ends) (at sections place) k t e in
        let has : Contains row_here k = among_tells row_here k step.0 in
        ⊎_elim
        (λ (old : mark seen k ≡ true).
        let where_it = stands_at sections k (h.queued k old) in
        let less : where_it.place < length queue = omega (arith, where_it.inside, queue_wide) in
        (where_it.place, less, queue_old where_it.place where_it.inside ∙ where_it.is ∙ step.1, λ most. absurd (omega (arith, where_it.inside))))
        (λ (fresh : Contains new.row k).
        let where_it = stands_at row k (row_has k fresh) in
        let j : ℕ = length sections + where_it.place in
        let back : (length sections + where_it.place) - length sections ≡ where_it.place = omega arith in
        let is : at queue (length sections + where_it.place) ≡ k = queue_new (length sections + where_it.place) (omega arith) ∙ ap (at row) back ∙ where_it.is in
        (length sections + where_it.place, omega (arith, where_it.inside, queue_wide), is ∙ step.1, λ most. omega (arith, is)))
        (known.queued k (all_are_marked row_here seen ends_seen k has))

    pub live_more : (at sections place ≡ target → ⊥) → IsLiveAt roots ends target more queue places (place + 1)
    unfolding Reached
    live_more other = record {
      search = search_more (step_to (with_start roots ends)) (length ends) (at sections) (at froms) (at sections) (length sections) place h.search
          (at queue) (at places) (at queue) (length queue) inside (omega (arith, queue_wide))
          (record { states = queue_old; backs = places_old; letters = queue_old })
          (record { backs = places_new; leads = new_leads; rises = new_rises; all = steps_stand });
      wide = omega (arith, ap length places_are, length-append froms (replicate (length row) place), length-replicate (length row) place, h.wide, queue_wide);
      sized = ap length marks ∙ known.wide ∙ h.sized;
      counted = omega (arith, h.counted, known.counted, queue_wide, length_permutation new.row row moved, ap unmarked marks);
      queued = λ f is. ⊎_elim
          (λ (old : mark seen f ≡ true). subst (λ l. Contains l f) (sym queue_is) (Contains-append_left sections row f (h.queued f old)))
          (λ (fresh : Contains new.row f). subst (λ l. Contains l f) (sym queue_is) (Contains-append_right sections row f (row_has f fresh)))
          (known.queued f (sym (ap (λ l. mark l f) marks) ∙ is));
      marked = λ f has. ⊎_elim
          (λ (old : Contains sections f). ⊎_elim
          (λ (start : f ≡ length ends). inl start)
          (λ (is : mark seen f ≡ true). inr (ap (λ l. mark l f) marks ∙ known.keeps f is))
          (h.marked f old))
          (λ (fresh : Contains row f). inr (ap (λ l. mark l f) marks ∙ known.marked f (in_row f fresh)))
          (Contains-append_cases sections row f (subst (λ l. Contains l f) queue_is has));
      missed = λ i less is. ⊎_elim
          (λ (under : i < place). h.missed i under (sym (queue_old i (omega arith)) ∙ is))
          (λ (most : place ≤ i). let here : i ≡ place = omega arith in other (ap (at sections) (sym here) ∙ sym (queue_old i (omega arith)) ∙ is))
          (cases_lt i place);
    }

  -- what leads to the target, where it stands at the place
  words_are : AreWords sections froms h.search.word
  words_are = record { first = h.search.empty; next = λ i pos less. h.search.made i pos (omega (arith, h.wide)) }

  module _ (inside : place < length sections) (here : at sections place ≡ target) (inner : target < length ends) where
    leads_here : after (step_to (with_start roots ends)) (length ends) (h.search.word place) ≡ Some target
    leads_here = h.search.leads place inside ∙ ap Some here

    not_after : (other : List ℕ) → is_walk roots ends target other ≡ true → NotAfter (h.search.word place) other
    not_after other e =
        least_here (step_to (with_start roots ends)) (length ends) (at sections) (at froms) (at sections) (length sections) place h.search
        (λ s. s ≡ target) (λ j less is. h.missed j less is) other target (to_start roots ends low target other e) refl

    least_word : IsLeastWalk roots ends target (h.search.word place)
    least_word = record {
      walk = from_start roots ends low target (h.search.word place) inner leads_here;
      shortest = λ other e. no_longer (h.search.word place) other (not_after other e);
      least = λ other e wide. comes_or_same (h.search.word place) other (not_after other e) wide;
    }

    word_is : live_chain roots ends target ≡ Some (h.search.word place)
    unfolding live_chain
    word_is =
        first_short (is_walk roots ends target) (length ends) (length ends + 1) (h.search.word place)
        (numbers_low roots ends low (length ends) target (h.search.word place) leads_here)
        (omega (arith, h.search.short place inside, few_sections)) least_word.walk not_after

    -- a list that is what leads there
    pub live_found : (walk : List ℕ) → ((word : ℕ → List ℕ) → AreWords sections froms word → walk ≡ word place) → IsLeastWalk roots ends target walk
    live_found walk is = subst (IsLeastWalk roots ends target) (sym (is h.search.word words_are)) least_word

    pub live_is : (walk : List ℕ) → ((word : ℕ → List ℕ) → AreWords sections froms word → walk ≡ word place) → Some walk ≡ live_chain roots ends target
    live_is walk is = ap Some (is h.search.word words_are) ∙ sym word_is

    pub live_reached : IsReached roots ends target
    live_reached = walk_reaches roots ends target (h.search.word place) least_word.walk

  -- the end of the queue
  module _ (all : length sections ≤ place) (inner : target < length ends) where
    no_walk : (other : List ℕ) → is_walk roots ends target other ≡ false
    no_walk other = false_from_ne_true (is_walk roots ends target other) (λ e.
        none_here (step_to (with_start roots ends)) (length ends) (at sections) (at froms) (at sections) (length sections) place h.search
        (λ s. s ≡ target) (λ j less is. h.missed j less is) all other target (to_start roots ends low target other e) refl)

    pub live_none : None ≡ live_chain roots ends target
    unfolding live_chain
    live_none = sym (find_none (is_walk roots ends target) (short_lists (length ends) (length ends + 1)) no_walk)

    end_marked : (i e : ℕ) → i < place → is_among (ends_at (with_start roots ends) (at sections i)) e ≡ true → mark seen e ≡ true
    end_marked i e less among =
        let found = h.search.closed i e e less (step_there (with_start roots ends) (at sections i) e among) in
        let inside : e < length ends = end_low roots ends low (at sections i) e (among_tells (ends_at (with_start roots ends) (at sections i)) e among) in
        ⊎_elim
        (λ (same : e ≡ length ends). absurd (omega (arith, same, inside)))
        (λ (is : mark seen e ≡ true). is)
        (h.marked e (stands sections found.0 e found.1 found.2))

    closed_set : IsClosed roots ends (mark seen)
    closed_set = record {
      rooted = λ f has.
          let first : 0 < place = omega (arith, h.search.some, all) in
          let row : ends_at (with_start roots ends) (at sections 0) ≡ roots = ap (ends_at (with_start roots ends)) h.search.begins ∙ start_row roots ends in
          end_marked 0 f first (ap (λ l. is_among l f) row ∙ among_has roots f has);
      followed = λ f g is has.
          let there = stands_at sections f (h.queued f is) in
          let inside : f < length ends = omega (arith, mark_inside seen f is, h.sized) in
          let row : ends_at (with_start roots ends) (at sections there.place) ≡ ends_at ends f = ap (ends_at (with_start roots ends)) there.is ∙ own_row roots ends f inside in
          end_marked there.place g (omega (arith, there.inside, all)) (ap (λ l. is_among l g) row ∙ among_has (ends_at ends f) g has);
    }

    pub live_unreached : IsReached roots ends target → ⊥
    live_unreached reached =
        let there = stands_at sections target (h.queued target (reached (mark seen) closed_set)) in
        h.missed there.place (omega (arith, there.inside, all)) there.is
