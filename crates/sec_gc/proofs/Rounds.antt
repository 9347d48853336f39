-- What rounds that close marks come to.
use Rattle.std.proofs.Common.{◌≡◌, ◌≢◌, ℕ, zero, suc, ◌+◌, ◌<◌, ◌≤◌, ◌||◌, Bool, true, false, List, [], ◌∷◌, ◌++◌, length, get_or, All, Contains, refl, sym, ◌∙◌, subst, ⊎_elim, arith}
use Rattle.std.proofs.lemmas.List.{get_or_append_left, get_or_default, get_or_past, get_or_push, length_push}
use Rattle.std.proofs.lemmas.List.Elements.{All-contains, All-push, All-weaker, Contains-append_left, Contains-append_right, Contains-push}
use Rattle.std.proofs.lemmas.Bool.{both_ways, cases_eq, cases_lt}
use Rattle.std.specs.declared.ops.Range.{Range}
use Rattle.lk_tables.specs.Reach.{mark, ends_at, IsReach, IsReached, unmarked}
use Rattle.sec_gc.specs.declared.closing.Done.{Done}
use Rattle.sec_gc.specs.Closing.{AreFound, AreOn, HasEnds, HaveEnds, HaveSeen, KeepsSeen, Rests}
use Rattle.sec_gc.specs.Marks.{MarksView, SeatView, SitsAt, after_look, after_split, joined, section_at, seen_at, word_of}
use Rattle.sec_gc.specs.Workers.{AreDone, HasMore}
use Rattle.work_split.specs.Pieces.{Tiles}
use Rattle.work_split.specs.Tasks.{IsAt}
use Rattle.work_split.proofs.Tiling.{tiles_cover}

-- what a seat has seen it keeps, whatever it does
pub keeps_more : (a b c : List ℕ) → KeepsSeen a b → KeepsSeen b c → KeepsSeen a c
keeps_more a b c one two f has = two f (one f has)

pub keeps_looked : (s s' : SeatView) (section found : ℕ) → s' ≡ after_look s section found → KeepsSeen s.seen s'.seen
keeps_looked s s' section found is = subst (λ (x : SeatView). KeepsSeen s.seen x.seen) (sym is) (λ f has. Contains-append_left s.seen (seen_at section found) f has)

pub known_looked : (s s' : SeatView) (section : ℕ) (b : Bool) → s' ≡ after_look s section (word_of b) → b ≡ true → Contains s'.seen section
known_looked s s' section true is lit = subst (λ (x : SeatView). Contains x.seen section) (sym is) (Contains-push s.seen section)
known_looked s s' section false is lit = absurd cc

pub keeps_split : (start : List ℕ) (s s' : SeatView) → KeepsSeen start s.seen → s' ≡ after_split s → KeepsSeen start s'.seen
keeps_split start s s' keeps is = subst (λ (x : SeatView). KeepsSeen start x.seen) (sym is) keeps

pub keeps_joined : (s other s' : SeatView) → s' ≡ joined s other → KeepsSeen s.seen s'.seen × KeepsSeen other.seen s'.seen
keeps_joined s other s' is = subst (λ (x : SeatView). KeepsSeen s.seen x.seen × KeepsSeen other.seen x.seen) (sym is)
    ((λ f has. Contains-append_left s.seen other.seen f has), (λ f has. Contains-append_right s.seen other.seen f has))

pub found_keeps : (m : MarksView) (seen more : List ℕ) (on : List Bool) → KeepsSeen seen more → AreFound m seen on → AreFound m more on
found_keeps m seen more on keeps found = record { wide = found.wide; within = found.within; known = λ f is. keeps f (found.known f is) }

pub rests_keep : (seen more : List ℕ) (on : List Bool) (Whole : Type 0) (b : Bool) → KeepsSeen seen more → Rests seen on Whole b → Rests more on Whole b
rests_keep seen more on Whole b keeps r = record {
  some = λ is. let m = r.some is in record { section = m.section; inside = m.inside; no_mark = m.no_mark; known = keeps m.section m.known };
  none = r.none;
}

pub rests_both : (seen : List ℕ) (on : List Bool) (A B C : Type 0) (one two : Bool) → (A → B → C) → Rests seen on A one → Rests seen on B two → Rests seen on C (one || two)
rests_both seen on A B C true two f p q = record { some = λ is. p.some refl; none = λ is. absurd cc }
rests_both seen on A B C false two f p q = record { some = q.some; none = λ is. f (p.none refl) (q.none is) }

pub rests_next : (seen more : List ℕ) (on : List Bool) (A B C : Type 0) (one two both : Bool) → (A → B → C) → KeepsSeen seen more → both ≡ (one || two) → Rests seen on A one → Rests more on B two → Rests more on C both
rests_next seen more on A B C one two both f keeps is p q = subst (Rests more on C) (sym is) (rests_both more on A B C one two f (rests_keep seen more on A one keeps p) q)

-- one end more, and one section more
pub on_more : (on : List Bool) (list : List ℕ) (k : ℕ) → AreOn on list k → mark on (section_at list k) ≡ true → AreOn on list (k + 1)
on_more on list k before here i lt = ⊎_elim
    (λ (less : i < k). before i less)
    (λ (at : k ≤ i). let same : k ≡ i = omega arith in subst (λ j. mark on (section_at list j) ≡ true) same here)
    (cases_lt i k)

pub ends_more : (ends : List (List ℕ)) (on : List Bool) (start k : ℕ) → HaveEnds ends on start k → (mark on k ≡ true → HasEnds ends on k) → HaveEnds ends on start (k + 1)
ends_more ends on start k before here f from lt = ⊎_elim
    (λ (less : f < k). before f from less)
    (λ (at : k ≤ f). let same : k ≡ f = omega arith in subst (λ j. mark on j ≡ true → HasEnds ends on j) same here)
    (cases_lt f k)

-- marks with one more at their end
push_mark : (on : List Bool) (b : Bool) (f : ℕ) (P : Bool → Type 0) → (f < length on → P (mark on f)) → (f ≡ length on → P b) → (length on < f → P false) → P (mark (on ++ b ∷ []) f)
push_mark on b f P old here past = ⊎_elim
    (λ (less : f < length on). subst P (sym (get_or_append_left on (b ∷ []) false f less)) (old less))
    (λ (more : length on ≤ f). ⊎_elim
    (λ (at : f ≡ length on). subst P (sym (get_or_push on b false f (sym at))) (here at))
    (λ (ne : f ≢ length on). let long = length_push on b in subst P (sym (get_or_past (on ++ b ∷ []) f false (omega (arith, long, more, ne)))) (past (omega (arith, more, ne))))
    (cases_eq f (length on)))
    (cases_lt f (length on))

-- what is marked is a place of the list
pub marked_inside : (on : List Bool) (f n : ℕ) → length on ≡ n → mark on f ≡ true → f < n
marked_inside on f n wide is = ⊎_elim
    (λ (lt : f < length on). omega (arith, lt, wide))
    (λ (past : length on ≤ f). absurd (both_ways (mark on f) (get_or_past on f false past) is))
    (cases_lt f (length on))

-- what a look at the first sections gave
pub record Looked (m : MarksView) (before seen : List ℕ) (on : List Bool) : Type 0 where
  pub within : (f : ℕ) → mark on f ≡ true → IsReached m.roots m.ends f × Contains seen f
  pub have : HaveSeen before on

no_mark : (f : ℕ) → mark [] f ≡ true → ⊥
no_mark f lit = both_ways (mark [] f) (get_or_past [] f false (omega arith)) lit

pub looked_none : (m : MarksView) (before seen : List ℕ) (on : List Bool) → on ≡ [] → Looked m before seen on
looked_none m before seen on is = subst (Looked m before seen) (sym is) (record { within = λ f lit. absurd (no_mark f lit); have = λ f has lt. absurd (omega (arith, lt)) })

pub found_looked : (m : MarksView) (before seen : List ℕ) (on : List Bool) → length on ≡ length m.ends → Looked m before seen on → AreFound m seen on
found_looked m before seen on long l = record { wide = long; within = λ f is. (l.within f is).0; known = λ f is. (l.within f is).1 }

pub looked_more : (m : MarksView) (before : List ℕ) (s s' : SeatView) (on new : List Bool) (section : ℕ) (b : Bool) → section ≡ length on → new ≡ on ++ b ∷ [] → s' ≡ after_look s section (word_of b)
    → (Contains s.seen section → b ≡ true) → (b ≡ true → IsReached m.roots m.ends section) → KeepsSeen before s.seen → Looked m before s.seen on → Looked m before s'.seen new
looked_more m before s s' on new section b at is step known within keeps looked =
    let next : Looked m before s'.seen (on ++ b ∷ []) = record {
      within = λ f. push_mark on b f (λ x. x ≡ true → IsReached m.roots m.ends f × Contains s'.seen f)
          (λ _ lit. let old = looked.within f lit in (old.0, keeps_looked s s' section (word_of b) step f old.1))
          (λ here lit. let same : section ≡ f = at ∙ sym here in subst (λ g. IsReached m.roots m.ends g × Contains s'.seen g) same (within lit, known_looked s s' section b step lit))
          (λ _ lit. absurd cc);
      have = λ f has lt. push_mark on b f (λ x. x ≡ true)
          (λ less. looked.have f has less)
          (λ here. let same : f ≡ section = here ∙ sym at in known (subst (Contains s.seen) same (keeps f has)))
          (λ past. let long = length_push on b in absurd (omega (arith, long, lt, past)));
    } in
    subst (Looked m before s'.seen) (sym is) next

-- marks that grew have no more places without one
no_more : (a b : List Bool) → length a ≡ length b → ((f : ℕ) → mark a f ≡ true → mark b f ≡ true) → unmarked b ≤ unmarked a
no_more [] [] long grows = omega arith
no_more [] (y ∷ b) long grows = absurd (omega (arith, long))
no_more (x ∷ a) [] long grows = absurd (omega (arith, long))
no_more (true ∷ a) (true ∷ b) long grows = no_more a b (omega (arith, long)) (λ f. grows (suc f))
no_more (true ∷ a) (false ∷ b) long grows = let wrong : false ≡ true = grows 0 refl in absurd cc
no_more (false ∷ a) (true ∷ b) long grows =
    let rest = no_more a b (omega (arith, long)) (λ f. grows (suc f)) in
    let e : unmarked (false ∷ a) ≡ 1 + unmarked a = refl in
    let d : unmarked (true ∷ b) ≡ unmarked b = refl in omega (arith, rest, e, d)
no_more (false ∷ a) (false ∷ b) long grows =
    let rest = no_more a b (omega (arith, long)) (λ f. grows (suc f)) in
    let e : unmarked (false ∷ a) ≡ 1 + unmarked a = refl in
    let d : unmarked (false ∷ b) ≡ 1 + unmarked b = refl in omega (arith, rest, e, d)

-- and fewer if one got a mark
pub fewer : (a b : List Bool) (g : ℕ) → length a ≡ length b → ((f : ℕ) → mark a f ≡ true → mark b f ≡ true) → g < length a → mark a g ≡ false → mark b g ≡ true → unmarked b < unmarked a
fewer [] b g long grows lt off lit = absurd (omega (arith, lt))
fewer (x ∷ a) [] g long grows lt off lit = absurd (omega (arith, long))
fewer (true ∷ a) (y ∷ b) zero long grows lt off lit = absurd cc
fewer (false ∷ a) (false ∷ b) zero long grows lt off lit = absurd cc
fewer (false ∷ a) (true ∷ b) zero long grows lt off lit =
    let rest = no_more a b (omega (arith, long)) (λ f. grows (suc f)) in
    let e : unmarked (false ∷ a) ≡ 1 + unmarked a = refl in
    let d : unmarked (true ∷ b) ≡ unmarked b = refl in omega (arith, rest, e, d)
fewer (true ∷ a) (true ∷ b) (suc g) long grows lt off lit = fewer a b g (omega (arith, long)) (λ f. grows (suc f)) (omega (arith, lt)) off lit
fewer (true ∷ a) (false ∷ b) (suc g) long grows lt off lit = let wrong : false ≡ true = grows 0 refl in absurd cc
fewer (false ∷ a) (true ∷ b) (suc g) long grows lt off lit =
    let rest = fewer a b g (omega (arith, long)) (λ f. grows (suc f)) (omega (arith, lt)) off lit in
    let e : unmarked (false ∷ a) ≡ 1 + unmarked a = refl in
    let d : unmarked (true ∷ b) ≡ unmarked b = refl in omega (arith, rest, e, d)
fewer (false ∷ a) (false ∷ b) (suc g) long grows lt off lit =
    let rest = fewer a b g (omega (arith, long)) (λ f. grows (suc f)) (omega (arith, lt)) off lit in
    let e : unmarked (false ∷ a) ≡ 1 + unmarked a = refl in
    let d : unmarked (false ∷ b) ≡ 1 + unmarked b = refl in omega (arith, rest, e, d)

-- a round that found something leaves fewer for the next
pub round_fewer : (m : MarksView) (seen : List ℕ) (on next : List Bool) (more : List ℕ) (W : Type 0) → AreFound m seen on → KeepsSeen seen more → Rests more on W true → HaveSeen more next → length next ≡ length m.ends → unmarked next < unmarked on
round_fewer m seen on next more W found keeps rests have wide =
    let missing = rests.some refl in
    let here = found.wide in
    let inside = missing.inside in
    fewer on next missing.section (here ∙ sym wide)
    (λ f is. have f (keeps f (found.known f is)) (marked_inside on f (length next) (here ∙ sym wide) is))
    inside missing.no_mark (have missing.section missing.known (omega (arith, inside, here, wide)))

-- a round that found nothing leaves what is reached
pub round_last : (m : MarksView) (seen : List ℕ) (on : List Bool) → AreFound m seen on → ((f : ℕ) → Contains m.roots f → mark on f ≡ true) → HaveEnds m.ends on 0 (length on) → IsReach m.roots m.ends on
round_last m seen on found rooted ended = record {
  wide = found.wide;
  closed = record {
    rooted = rooted;
    followed = λ f g is has.
        let list = ends_at m.ends f in
        let i : ℕ = has.0 in
        let at : section_at list i ≡ g = get_or_default list i 0 g has.1 ∙ has.2 in
        subst (λ h. mark on h ≡ true) at (ended f (omega arith) (marked_inside on f (length on) refl is) is i has.1);
  };
  least = λ s closed f is. found.within f is s closed;
}

-- what the workers of a round leave together
pub all_rest : (m : MarksView) (on : List Bool) (cuts : List (Range ℕ)) (done : List Done) (whole : SeatView) (any : Bool) → Tiles 0 (length on) cuts → AreDone m on cuts done
    → All (λ d. KeepsSeen d.seat.seen whole.seen) done → (any ≡ true → HasMore done) → (any ≡ false → All (λ d. d.more ≡ false) done) → Rests whole.seen on (HaveEnds m.ends on 0 (length on)) any
all_rest m on cuts done whole any tiles are kept some none =
    let count = are.count in
    let dummy : Done = record { seat = whole; more = false } in
    let nothing : Range ℕ = record { start = 0; end = 0 } in
    record {
      some = λ is.
          let has = some is in
          let w : ℕ = has.among.0 in
          let lt = has.among.1 in
          let here : w < length cuts = omega (arith, lt, count) in
          let p : Range ℕ = get_or cuts w nothing in
          let own = are.each w p has.one here (get_or_default cuts w nothing p here) (sym has.among.2) in
          let keeps : KeepsSeen has.one.seat.seen whole.seen = All-contains (λ (d : Done). KeepsSeen d.seat.seen whole.seen) done has.one kept has.among in
          let m = own.some has.more in
          record { section = m.section; inside = m.inside; no_mark = m.no_mark; known = keeps m.section m.known };
      none = λ is f from lt.
          let cut = tiles_cover 0 (length on) cuts f tiles from lt in
          let within : cut.worker < length done = omega (arith, count, cut.within) in
          let d : Done = get_or done cut.worker dummy in
          let own = are.each cut.worker cut.piece d cut.within cut.at (get_or_default done cut.worker dummy d within) in
          own.none (none is cut.worker dummy within) f cut.from cut.below;
    }

flags_more : (done : Done) (before : List Done) (more : Bool) → (more ≡ true → HasMore before) → (more ≡ false → All (λ d. d.more ≡ false) before)
    → ((more || done.more) ≡ true → HasMore (before ++ done ∷ [])) × ((more || done.more) ≡ false → All (λ d. d.more ≡ false) (before ++ done ∷ []))
flags_more done before true some none =
    let has = some refl in
    ((λ _. record { one = has.one; among = Contains-append_left before (done ∷ []) has.one has.among; more = has.more }), (λ off. absurd cc))
flags_more done before false some none =
    ((λ lit. record { one = done; among = Contains-push before done; more = lit }), (λ off. All-push (λ d. d.more ≡ false) before done (none refl) off))

-- one more worker's seat is joined
pub joined_more : (start : List ℕ) (s : SeatView) (done : Done) (before : List Done) (s' : SeatView) (more new : Bool) → s' ≡ joined s done.seat → new ≡ (more || done.more) → KeepsSeen start s.seen
    → All (λ d. KeepsSeen d.seat.seen s.seen) before → (more ≡ true → HasMore before) → (more ≡ false → All (λ d. d.more ≡ false) before)
    → KeepsSeen start s'.seen × All (λ d. KeepsSeen d.seat.seen s'.seen) (before ++ done ∷ []) × (new ≡ true → HasMore (before ++ done ∷ [])) × (new ≡ false → All (λ d. d.more ≡ false) (before ++ done ∷ []))
joined_more start s done before s' more new step is keeps kept some none =
    let both = keeps_joined s done.seat s' step in
    let Old : Done → Type 0 = λ d. KeepsSeen d.seat.seen s.seen in
    let New : Done → Type 0 = λ d. KeepsSeen d.seat.seen s'.seen in
    let flags = flags_more done before more some none in (
      keeps_more start s.seen s'.seen keeps both.0,
      All-push New before done (All-weaker Old New (λ d has. keeps_more d.seat.seen s.seen s'.seen has both.0) before kept) both.1,
      (λ lit. flags.0 (sym is ∙ lit)),
      (λ off. flags.1 (sym is ∙ off)),
    )

-- nothing was missing so far
pub rests_none : (seen : List ℕ) (on : List Bool) (Whole : Type 0) → Whole → Rests seen on Whole false
rests_none seen on Whole whole = record { some = λ is. absurd cc; none = λ is. whole }

-- each worker's seat has seen what the one had that they were split from
pub found_each : (m : MarksView) (seen : List ℕ) (on : List Bool) (seats : List SeatView) → AreFound m seen on → All (λ s. s.seen ≡ seen) seats → All (λ s. AreFound m s.seen on) seats
found_each m seen on seats found same = All-weaker (λ (s : SeatView). s.seen ≡ seen) (λ (s : SeatView). AreFound m s.seen on) (λ s is. subst (λ l. AreFound m l on) (sym is) found) seats same

-- what the tasks of the pieces answer, of which each was given its seat
pub done_from : (m : MarksView) (ends : List (List ℕ)) (on : List Bool) (cuts : List (Range ℕ)) (seats : List SeatView) (done : List Done) → ends ≡ m.ends → length cuts ≡ length seats → length done ≡ length cuts
    → ((w : ℕ) (p : Range ℕ) (x : SeatView) (y : Done) → w < length cuts → IsAt cuts w p → IsAt seats w x → IsAt done w y → Range ℕ × (SitsAt m y.seat × Rests y.seat.seen on (HaveEnds ends on p.start p.end) y.more))
    → AreDone m on cuts done
done_from m ends on cuts seats done same given count each = record {
  count = count;
  seated = λ w d lt.
      let here : w < length cuts = omega (arith, lt, count) in
      let nothing : Range ℕ = record { start = 0; end = 0 } in
      let p : Range ℕ = get_or cuts w nothing in
      let x : SeatView = get_or seats w d.seat in
      let y : Done = get_or done w d in
      (each w p x y here (get_or_default cuts w nothing p here) (get_or_default seats w d.seat x (omega (arith, here, given))) (get_or_default done w d y lt)).1.0;
  each = λ w p d lt at_p at_d.
      let x : SeatView = get_or seats w d.seat in
      subst (λ e. Rests d.seat.seen on (HaveEnds e on p.start p.end) d.more) same (each w p x d lt at_p (get_or_default seats w d.seat x (omega (arith, lt, given))) at_d).1.1;
}

-- a round that looked at all sections and marked what was missing
pub record RoundAt (m : MarksView) (start : List ℕ) (s : SeatView) (on : List Bool) (more : Bool) : Type 0 where
  pub sits : SitsAt m s
  pub keeps : KeepsSeen start s.seen
  pub found : AreFound m s.seen on
  pub rooted : KeepsSeen m.roots s.seen
  pub marked : (f : ℕ) → Contains m.roots f → mark on f ≡ true
  pub rests : Rests s.seen on (HaveEnds m.ends on 0 (length on)) more

pub round_at : (m : MarksView) (start : List ℕ) (s0 s1 s2 : SeatView) (on : List Bool) (more : Bool) → All (λ r. r < length m.ends) m.roots → KeepsSeen start s0.seen → KeepsSeen m.roots s0.seen → KeepsSeen s0.seen s1.seen
    → AreFound m s1.seen on → HaveSeen s0.seen on → SitsAt m s2 → KeepsSeen s1.seen s2.seen → Rests s2.seen on (HaveEnds m.ends on 0 (length on)) more → RoundAt m start s2 on more
round_at m start s0 s1 s2 on more within keeps rooted looked found have sits marks rests = record {
  sits = sits;
  keeps = λ f has. marks f (looked f (keeps f has));
  found = found_keeps m s1.seen s2.seen on marks found;
  rooted = λ f has. marks f (looked f (rooted f has));
  marked = λ f has.
      let low = All-contains (λ r. r < length m.ends) m.roots f within has in
      let wide = found.wide in
      have f (rooted f has) (omega (arith, low, wide));
  rests = rests;
}

-- one that found something leaves fewer for the next, and one that found nothing the answer
pub round_smaller : (m : MarksView) (start : List ℕ) (s : SeatView) (on next : List Bool) (more : Bool) → RoundAt m start s on more → more ≡ true → HaveSeen s.seen next → length next ≡ length m.ends → unmarked next < unmarked on
round_smaller m start s on next more r is have wide =
    let rests : Rests s.seen on (HaveEnds m.ends on 0 (length on)) true = subst (Rests s.seen on (HaveEnds m.ends on 0 (length on))) is r.rests in
    round_fewer m s.seen on next s.seen (HaveEnds m.ends on 0 (length on)) r.found (λ f has. has) rests have wide

pub round_reach : (m : MarksView) (start : List ℕ) (s : SeatView) (on : List Bool) (more : Bool) → RoundAt m start s on more → more ≡ false → IsReach m.roots m.ends on
round_reach m start s on more r is = round_last m s.seen on r.found r.marked (r.rests.none is)
