-- Texts that are placed by seats of one table, and the numbers that their slots give once the seats are joined.
use Rattle.std.proofs.Common.{◌≡◌, ℕ, ◌+◌, ◌-◌, ◌<◌, ◌≤◌, Result, Ok, Err, List, [], ◌∷◌, ◌++◌, length, map, get_or, All, IfOk, Contains, refl, sym, ap, ◌∙◌, subst, ⊎_elim, inr, arith}
use Rattle.std.specs.Prelude.{Option, Some, None, IfSome}
use Rattle.std.specs.Global.{Vec}
use Rattle.std.specs.List.{range_with_len}
use Rattle.std.specs.declared.ops.Range.{Range}
use Rattle.std.proofs.lemmas.Bool.{cases_lt}
use Rattle.std.proofs.lemmas.List.{get_or_append_left, get_or_default, get_or_push, get_or-map, length-map, length_push, map-append, map_push}
use Rattle.std.proofs.lemmas.List.Elements.{All-push, All-weaker, Contains-append_left, Contains-append_right}
use Rattle.std.proofs.lemmas.List.FromFn.{fill_by_all, get_or-map-range_with_len, length-map-range_with_len, map-range_with_len_more}
use Rattle.lk_base.specs.declared.defects.LinkStop.{LinkStop}
use Rattle.intern_race.specs.declared.rule.OwnStep.{OwnStep}
use Rattle.intern_race.specs.declared.rule.Pair.{Pair}
use Rattle.intern_race.specs.Interning.{AreApart, IsLeastOf, SeatView, SitsAt, TableView, after_split, after_steps, joined, known, newcomer, pair}
use Rattle.intern_race.specs.Texts.{AreTags, tag_at}
use Rattle.intern_race.proofs.Firsts.{is_number}
use Rattle.intern_race.proofs.Sitting.{placed_after, sits_after, sits_newcomer}
use Rattle.work_split.specs.Pieces.{Tiles}
use Rattle.work_split.specs.Shares.{AreGivenBy, IsJoined}
use Rattle.work_split.specs.Shares as shares
use Rattle.work_split.specs.Tasks.{IsAt}
use Rattle.lk_base.proofs.Ranges.{range_parts}
use Rattle.work_split.proofs.ListedRuns.{first_run}
use Rattle.work_split.proofs.RunsBeside.{GoesBeside, joined_beside}
use Rattle.work_split.proofs.Sharing.{given_from}
use Rattle.work_split.proofs.Tiling.{at_place, tiles_cover}
use Rattle.name_numbers.specs.declared.racing.Placed.{Placed}
use Rattle.name_numbers.specs.Placed.{AreDone, AreJoined, AreNumbered, ArePlaced, AreSlots, HasDone, HasSlots, IsReady, KeepsPlaced, Knows, slots_of}
use Rattle.name_numbers.specs.Texts.{hash_at, number_at, text_at, text_number, text_numbers}

-- a seat after steps of its own
pub keeps_after : (s s' : SeatView) (own : List OwnStep) → s' ≡ after_steps s own → KeepsPlaced s.placed s'.placed
keeps_after s s' own is = λ p has. placed_after s s' own p is has

-- one text more
pub slots_next : (t : TableView) (old new : List Pair) (start k slot : ℕ) (slots more : List ℕ) → HasSlots t old start k slots → KeepsPlaced old new → slot < t.slots → Contains new (pair slot (start + k)) →
    more ≡ slots ++ slot ∷ [] → HasSlots t new start (k + 1) more
slots_next t old new start k slot slots more held keeps low has push = record {
  wide = ap length push ∙ length_push slots slot ∙ ap (λ n. n + 1) held.wide;
  within = λ j lt. let wide = held.wide in ⊎_elim
      (λ (early : j < k).
      let at : get_or more j 0 ≡ get_or slots j 0 = ap (λ l. get_or l j 0) push ∙ get_or_append_left slots (slot ∷ []) 0 j (omega (arith, wide, early)) in
      let P : ℕ → Type 0 = λ n. n < t.slots in
      subst P (sym at) (held.within j early))
      (λ (late : k ≤ j).
      let same : k ≡ j = omega (arith, late, lt) in
      let at : get_or more j 0 ≡ slot = ap (λ l. get_or l j 0) push ∙ get_or_push slots slot 0 j (omega (arith, wide, same)) in
      let P : ℕ → Type 0 = λ n. n < t.slots in
      subst P (sym at) low)
      (cases_lt j k);
  each = λ j lt. let wide = held.wide in ⊎_elim
      (λ (early : j < k).
      let at : get_or more j 0 ≡ get_or slots j 0 = ap (λ l. get_or l j 0) push ∙ get_or_append_left slots (slot ∷ []) 0 j (omega (arith, wide, early)) in
      let P : ℕ → Type 0 = λ n. Contains new (pair n (start + j)) in
      subst P (sym at) (keeps _ (held.each j early)))
      (λ (late : k ≤ j).
      let same : k ≡ j = omega (arith, late, lt) in
      let at : get_or more j 0 ≡ slot = ap (λ l. get_or l j 0) push ∙ get_or_push slots slot 0 j (omega (arith, wide, same)) in
      let P : ℕ → Type 0 = λ n. Contains new (pair n (start + j)) in
      let Q : ℕ → Type 0 = λ n. Contains new (pair slot (start + n)) in
      subst P (sym at) (subst Q same has))
      (cases_lt j k);
}

pub length_hashes : (texts : List (List ℕ)) (start n : ℕ) (hashes : List ℕ) → hashes ≡ map (hash_at texts) (range_with_len start n) → length hashes ≡ n
length_hashes texts start n hashes are = ap length are ∙ length-map-range_with_len (hash_at texts) start n

pub slots_none : (t : TableView) (placed : List Pair) (start : ℕ) (slots : List ℕ) → slots ≡ [] → HasSlots t placed start 0 slots
slots_none t placed start slots none = record { wide = ap length none; within = λ k lt. absurd (omega (arith, lt)); each = λ k lt. absurd (omega (arith, lt)) }

-- a list over a run of numbers, one more
pub map_next : {X : Type 0} (f : ℕ → X) (start k : ℕ) (x : X) (old new : List X) → new ≡ old ++ x ∷ [] → x ≡ f (start + k) → old ≡ map f (range_with_len start k) → new ≡ map f (range_with_len start (k + 1))
map_next f start k x old new push is held =
    push ∙ ap (λ l. l ++ x ∷ []) held ∙ ap (λ y. map f (range_with_len start k) ++ y ∷ []) is ∙ sym (map-range_with_len_more f start k (start + k) refl)

pub hash_read : (texts : List (List ℕ)) (start n k : ℕ) (hashes : List ℕ) → hashes ≡ map (hash_at texts) (range_with_len start n) → k < n → get_or hashes k 0 ≡ hash_at texts (start + k)
hash_read texts start n k hashes are lt = ap (λ l. get_or l k 0) are ∙ get_or-map-range_with_len (hash_at texts) start n k (start + k) 0 lt refl

-- the number that a slot gives, where the first texts are placed, text i among them
module _ (t : TableView) (old new : SeatView) (slot number n i : ℕ) (one_list : old.texts ≡ t.texts) (apart : AreApart t.texts (known new)) (keeps : KeepsPlaced old.placed new.placed)
    (all : ArePlaced n old.placed) (mine : i < n) (here : Contains old.placed (pair slot i)) (least : IsLeastOf old slot number) where
  early_bound : (k : ℕ) → k < n → text_at t.texts k ≡ text_at t.texts i → number ≤ k
  early_bound k lt same =
      let at = all k lt in
      let k_in : Contains (known new) (pair at.0 k) = Contains-append_right new.seen new.placed (pair at.0 k) (keeps (pair at.0 k) at.1) in
      let i_in : Contains (known new) (pair slot i) = Contains-append_right new.seen new.placed (pair slot i) (keeps (pair slot i) here) in
      let one : at.0 ≡ slot = (apart.apart (pair at.0 k) (pair slot i) k_in i_in).1 same in
      let P : ℕ → Type 0 = λ m. Contains old.placed (pair m k) in
      (least k (subst P one at.1)).2

  lower_bound : (k : ℕ) → k < length t.texts → text_at t.texts k ≡ text_at t.texts i → number ≤ k
  lower_bound k lt same =
      let own : number ≤ i = (least i here).2 in
      ⊎_elim
      (λ (early : k < n). early_bound k early same)
      (λ (late : n ≤ k). omega (arith, mine, late, own))
      (cases_lt k n)

  pub number_is : number ≡ number_at t.texts i
  number_is =
      let own = least i here in
      let L : List (List ℕ) → Type 0 = λ l. (number < length l) × (text_at l number ≡ text_at l i) in
      let told : L t.texts = subst L one_list (own.0, own.1) in
      is_number t.texts i number told.0 told.1 lower_bound

-- the same of texts that are the table's, where the first seat knew the first of them
pub number_read : (t : TableView) (texts : List (List ℕ)) (placed : List Pair) (old new : SeatView) (slot number n i : ℕ) (own : List OwnStep) → texts ≡ t.texts → SitsAt t old → new ≡ after_steps old own →
    AreApart t.texts (known new) → KeepsPlaced placed old.placed → ArePlaced n placed → i < n → Contains placed (pair slot i) → IsLeastOf old slot number → number ≡ number_at texts i
number_read t texts placed old new slot number n i own lent sits is apart keeps all mine here least =
    let P : List (List ℕ) → Type 0 = λ l. number ≡ number_at l i in
    let each : ArePlaced n old.placed = λ k lt. let at = all k lt in (at.0, keeps (pair at.0 k) at.1) in
    let grows : KeepsPlaced old.placed new.placed = keeps_after old new own is in
    subst P (sym lent) (number_is t old new slot number n i sits.texts apart grows each mine (keeps (pair slot i) here) least)

-- no text
pub numbered_none : (texts : List (List ℕ)) (placed : List Pair) (numbers : List ℕ) → numbers ≡ [] → AreNumbered texts placed 0 numbers
numbered_none texts placed numbers none = record { all = λ j lt. absurd (omega (arith, lt)); list = none }

-- splits
pub knows_newcomer : (t : TableView) (placed : List Pair) (s s' : SeatView) → SitsAt t s → s.placed ≡ placed → s' ≡ newcomer s → Knows t placed s'
knows_newcomer t placed s s' sits same is = record { sits = sits_newcomer t s s' sits is; same = ap (λ (x : SeatView). x.placed) is ∙ same }

pub same_split : (placed : List Pair) (s s' : SeatView) → s.placed ≡ placed → s' ≡ after_split s → s'.placed ≡ placed
same_split placed s s' same is = ap (λ (x : SeatView). x.placed) is ∙ same

pub all_sit : (t : TableView) (placed : List Pair) (seats : List SeatView) → All (Knows t placed) seats → All (SitsAt t) seats
all_sit t placed seats all = All-weaker (Knows t placed) (SitsAt t) (λ s knows. knows.sits) seats all

-- what holds of what the first seat has placed holds of what each has
pub all_know : (t : TableView) (P : List Pair → Type 0) (placed : List Pair) (seats : List SeatView) → P placed → All (Knows t placed) seats → All (λ s. P s.placed) seats
all_know t P placed seats held all = All-weaker (Knows t placed) (λ s. P s.placed) (λ s knows. subst P (sym knows.same) held) seats all

-- joins
pub kept_next : (s other s' : SeatView) (before : List Placed) (y : Placed) → y.seat ≡ other → s' ≡ joined s other → All (λ z. KeepsPlaced z.seat.placed s.placed) before →
    All (λ z. KeepsPlaced z.seat.placed s'.placed) (before ++ y ∷ [])
kept_next s other s' before y own is kept =
    let Before : Placed → Type 0 = λ z. KeepsPlaced z.seat.placed s.placed in
    let After : Placed → Type 0 = λ z. KeepsPlaced z.seat.placed (s.placed ++ other.placed) in
    let old : All After before = All-weaker Before After (λ z keeps p has. Contains-append_left s.placed other.placed p (keeps p has)) before kept in
    let Last : SeatView → Type 0 = λ x. KeepsPlaced x.placed (s.placed ++ other.placed) in
    let all : All After (before ++ y ∷ []) = All-push After before y old (subst Last (sym own) (λ p has. Contains-append_right s.placed other.placed p has)) in
    let P : SeatView → Type 0 = λ x. All (λ z. KeepsPlaced z.seat.placed x.placed) (before ++ y ∷ []) in
    subst P (sym is) all

pub lists_next : (before : List Placed) (y : Placed) (old new : List (Vec ℕ)) (list : Vec ℕ) → y.slots ≡ Some list → new ≡ old ++ list ∷ [] → map slots_of before ≡ map (λ (l : Vec ℕ). Some l) old →
    map slots_of (before ++ y ∷ []) ≡ map (λ (l : Vec ℕ). Some l) new
lists_next before y old new list is push held =
    let some : Vec ℕ → Option (Vec ℕ) = λ l. Some l in
    map_push slots_of before y ∙ ap (λ l. l ++ y.slots ∷ []) held ∙ ap (λ o. map some old ++ o ∷ []) is ∙ sym (ap (map some) push ∙ map_push some old list)

-- the slots of each piece, as the seat knows them that all others were joined into
module _ (t : TableView) (cuts : List (Range ℕ)) (done : List Placed) (s : SeatView) (lists : List (Vec ℕ)) (are : AreDone t cuts done) (is : AreJoined t done s lists) where
  lists_count : length lists ≡ length done
  lists_count =
      let some : Vec ℕ → Option (Vec ℕ) = λ l. Some l in
      sym (length-map lists some) ∙ sym (ap length is.slots) ∙ length-map done slots_of

  slots_kept : (a : List Pair) (start count : ℕ) (slots : List ℕ) → KeepsPlaced a s.placed → HasSlots t a start count slots → HasSlots t s.placed start count slots
  slots_kept a start count slots keeps held = record { wide = held.wide; within = held.within; each = λ k lt. keeps _ (held.each k lt) }

  slots_in : (w : ℕ) (p : Range ℕ) (list : Vec ℕ) → w < length cuts → IsAt cuts w p → IsAt lists w list → HasSlots t s.placed p.start (p.end - p.start) list.items
  slots_in w p list lt at_p at_l =
      let some : Vec ℕ → Option (Vec ℕ) = λ l. Some l in
      let here : w < length done = omega (arith, are.count, lt) in
      let there : w < length lists = omega (arith, lists_count, here) in
      let blank : Placed = record { seat = s; slots = None } in
      let y : Placed = get_or done w blank in
      let at_y : IsAt done w y = get_or_default done w blank y here in
      let told : y.slots ≡ Some list =
      sym (get_or-map slots_of done w blank None here) ∙ ap (λ l. get_or l w None) is.slots ∙ get_or-map some lists w list None there ∙ ap some (sym at_l) in
      let d = are.each w p y lt at_p at_y in
      let P : Option (Vec ℕ) → Type 0 = λ o. IfSome o (λ l. HasSlots t y.seat.placed p.start (p.end - p.start) l.items) in
      slots_kept y.seat.placed p.start (p.end - p.start) list.items (is.kept w blank here) (subst P told d.slots)

  pub slots_are : AreSlots t cuts s.placed lists
  slots_are = record { count = lists_count ∙ are.count; each = slots_in }

  pub all_placed : (n : ℕ) → Tiles 0 n cuts → ArePlaced n s.placed
  all_placed n tiles i lt =
      let cut = tiles_cover 0 n cuts i tiles (omega arith) lt in
      let there : cut.worker < length lists = omega (arith, lists_count, are.count, cut.within) in
      let at = at_place lists cut.worker there in
      let list : Vec ℕ = at.0 in
      let held = slots_in cut.worker cut.piece list cut.within cut.at at.1 in
      let from = cut.from in
      let below = cut.below in
      let k : ℕ = i - cut.piece.start in
      let e : cut.piece.start + k ≡ i = omega arith in
      let P : ℕ → Type 0 = λ n. Contains s.placed (pair (get_or list.items k 0) n) in
      (get_or list.items k 0, subst P e (held.each k (omega arith)))

-- the answers of `over_pieces`: of each piece from its own seat
pub done_from : (t : TableView) (cuts : List (Range ℕ)) (seats : List SeatView) (done : List Placed) → length cuts ≡ length seats → length done ≡ length cuts →
    ((w : ℕ) (p : Range ℕ) (x : SeatView) (y : Placed) → w < length cuts → IsAt cuts w p → IsAt seats w x → IsAt done w y → Range ℕ × HasDone t p y) → AreDone t cuts done
done_from t cuts seats done given count each =
    let one : (w : ℕ) (p : Range ℕ) (y : Placed) → w < length cuts → IsAt cuts w p → IsAt done w y → HasDone t p y =
    λ w p y lt at_p at_y. let x = at_place seats w (omega (arith, given, lt)) in (each w p x.0 y lt at_p x.1 at_y).1 in
    record {
      count = count;
      seated = λ w y lt.
          let here : w < length cuts = omega (arith, count, lt) in
          let p = at_place cuts w here in
          let own : Placed = get_or done w y in
          (one w p.0 own here p.1 (get_or_default done w y own lt)).sits;
      each = one;
    }

-- the hashes that are known, and the tags
pub hashed_whole : (texts : List (List ℕ)) (start n : ℕ) (own : List ℕ) → own ≡ map (hash_at texts) (range_with_len start n) → own ≡ map (hash_at texts) (range_with_len start (length own))
hashed_whole texts start n own are = are ∙ ap (λ k. map (hash_at texts) (range_with_len start k)) (sym (length_hashes texts start n own are))

pub tags_next : (texts : List (List ℕ)) (start k tag : ℕ) (old new : List ℕ) → new ≡ old ++ tag ∷ [] → tag ≡ tag_at texts (start + k) → old ≡ map (tag_at texts) (range_with_len 0 (start + k)) →
    new ≡ map (tag_at texts) (range_with_len 0 (start + (k + 1)))
tags_next texts start k tag old new push is held =
    let from : start + k ≡ 0 + (start + k) = omega arith in
    let next : (start + k) + 1 ≡ start + (k + 1) = omega arith in
    map_next (tag_at texts) 0 (start + k) tag old new push (is ∙ ap (tag_at texts) from) held ∙ ap (λ n. map (tag_at texts) (range_with_len 0 n)) next

pub tags_so_far : (texts : List (List ℕ)) (m n : ℕ) (tags : List ℕ) → m ≡ n → tags ≡ map (tag_at texts) (range_with_len 0 m) → tags ≡ map (tag_at texts) (range_with_len 0 n)
tags_so_far texts m n tags same are = are ∙ ap (λ k. map (tag_at texts) (range_with_len 0 k)) same

pub tags_listed : (texts : List (List ℕ)) (n : ℕ) (tags : List ℕ) → tags ≡ map (tag_at texts) (range_with_len 0 n) → AreTags texts tags
tags_listed texts n tags are i lt =
    let long : length tags ≡ n = ap length are ∙ length-map-range_with_len (tag_at texts) 0 n in
    ap (λ l. get_or l i 0) are ∙ get_or-map-range_with_len (tag_at texts) 0 n i i 0 (omega (arith, long, lt)) (omega arith)

-- the numbers of the texts of all pieces, joined
pub numbers_from_range : (texts : List (List ℕ)) → text_numbers texts ≡ map (number_at texts) (range_with_len 0 (length texts))
unfolding text_numbers
numbers_from_range texts =
    fill_by_all (number_at texts) (map (text_number texts) texts) (length texts) 0 (length-map texts (text_number texts)) (λ k lt. get_or-map (text_number texts) texts k [] 0 lt)

pub numbers_of_all : (texts : List (List ℕ)) (n : ℕ) (list : List ℕ) → n ≡ length texts → list ≡ map (number_at texts) (range_with_len 0 n) → list ≡ text_numbers texts
numbers_of_all texts n list all is = is ∙ ap (λ k. map (number_at texts) (range_with_len 0 k)) all ∙ sym (numbers_from_range texts)

pub two_runs : {Y : Type 0} (f : ℕ → Y) (a m b : ℕ) → a ≤ m → m ≤ b → map f (range_with_len a (b - a)) ≡ map f (range_with_len a (m - a)) ++ map f (range_with_len m (b - m))
two_runs f a m b low high =
    let n : b - a ≡ (m - a) + (b - m) = omega arith in
    let from : a + (m - a) ≡ m = omega arith in
    ap (λ k. map f (range_with_len a k)) n ∙ ap (map f) (range_parts a (m - a) (b - m))
    ∙ map-append f (range_with_len a (m - a)) (range_with_len (a + (m - a)) (b - m))
    ∙ ap (λ k. map f (range_with_len a (m - a)) ++ map f (range_with_len k (b - m))) from

abbrev AreNumbers : (texts : List (List ℕ)) (a b : ℕ) → List ℕ → Type 0
AreNumbers texts a b list = list ≡ map (number_at texts) (range_with_len a (b - a))

numbers_beside : (texts : List (List ℕ)) → GoesBeside {X = ℕ} (AreNumbers texts)
numbers_beside texts = record {
  none = first_run (number_at texts);
  both = λ a m b xs ys low high one two. ap (λ l. l ++ ys) one ∙ ap (λ l. map (number_at texts) (range_with_len a (m - a)) ++ l) two ∙ sym (two_runs (number_at texts) a m b low high);
}

abbrev GivesNumbers : (texts : List (List ℕ)) → Range ℕ → Result (Vec ℕ) LinkStop → Type 0
GivesNumbers texts p r = IfOk r (λ list. list.items ≡ map (number_at texts) (range_with_len p.start (p.end - p.start)))

pub numbers_joined : (texts : List (List ℕ)) (cuts : List (Range ℕ)) (seats : List SeatView) (rs : List (Result (Vec ℕ) LinkStop)) (r : Result (Vec ℕ) LinkStop) (list : Vec ℕ) → Tiles 0 (length texts) cuts →
    length cuts ≡ length seats → length rs ≡ length cuts →
    ((w : ℕ) (p : Range ℕ) (x : SeatView) (y : Result (Vec ℕ) LinkStop) → w < length cuts → IsAt cuts w p → IsAt seats w x → IsAt rs w y → Range ℕ × GivesNumbers texts p y) →
    IsJoined (shares.joined rs) r → r ≡ Ok list → list.items ≡ text_numbers texts
numbers_joined texts cuts seats rs r list tiles given count each joined is =
    let one : (w : ℕ) (p : Range ℕ) (y : Result (Vec ℕ) LinkStop) → w < length cuts → IsAt cuts w p → IsAt rs w y → GivesNumbers texts p y =
    λ w p y lt at_p at_y. let x = at_place seats w (omega (arith, given, lt)) in (each w p x.0 y lt at_p x.1 at_y).1 in
    let gives : AreGivenBy (GivesNumbers texts) cuts rs = given_from (GivesNumbers texts) cuts rs count one in
    let whole = joined_beside (AreNumbers texts) (numbers_beside texts) (GivesNumbers texts) (length texts) cuts r list (inr (rs, gives, joined)) (λ p s holds. holds) tiles is in
    numbers_of_all texts (length texts - 0) list.items (omega arith) whole

-- the seat is ready that all others were joined into, if all slots are there
ready_some : (t : TableView) (n : ℕ) (cuts : List (Range ℕ)) (done : List Placed) (s : SeatView) (o : Option (Vec (Vec ℕ))) → Tiles 0 n cuts → AreDone t cuts done →
    IfSome o (λ lists. AreJoined t done s lists.items) → IfSome o (λ lists. IsReady t n cuts s lists.items)
ready_some t n cuts done s (Some lists) tiles are is =
    record { sits = is.sits; all = all_placed t cuts done s lists.items are is n tiles; slots = slots_are t cuts done s lists.items are is }
ready_some t n cuts done s None tiles are is = tt

pub ready_if : {E : Type 0} (t : TableView) (n : ℕ) (cuts : List (Range ℕ)) (done : List Placed) (s : SeatView) (r : Result (Option (Vec (Vec ℕ))) E) → Tiles 0 n cuts → AreDone t cuts done →
    IfOk r (λ found. IfSome found (λ lists. AreJoined t done s lists.items)) → IfOk r (λ found. IfSome found (λ lists. IsReady t n cuts s lists.items))
ready_if t n cuts done s (Ok found) tiles are is = ready_some t n cuts done s found tiles are is
ready_if t n cuts done s (Err e) tiles are is = tt
