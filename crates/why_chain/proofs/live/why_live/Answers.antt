use Rattle.std.proofs.Common.{◌≡◌, ◌∙◌, ◌<◌, ℕ, false, All, List, [], ◌∷◌, ◌++◌, length, replicate, refl, sym, ap, ap₂, subst, arith, rules}
use Rattle.std.proofs.lemmas.Bool.{true≢false}
use Rattle.std.proofs.lemmas.List.{get_or_default}
use Rattle.link_sections.specs.Edges.{ends_of}
use Rattle.lk_tables.specs.Reach.{ends_at}
use Rattle.why_chain.specs.Visits.{AreWords, HasVisited, with_start}
use Rattle.why_chain.specs.Walks.{IsLeastWalk}
use Rattle.why_chain.proofs.Living.{at, ends_seen, few_sections, live_begins, live_found, live_is, live_more, live_none, live_reached, live_unreached, section_low}
use Rattle.why_chain.proofs.Walking.{AreSections, walk_low}
use Rattle.why_chain.proofs.live.why_live.Goals as goal
use Rattle.why_chain.proofs.live.why_live.Goals.{In_ok-walk}

pub loop-place-init : goal.loop-place-init
loop-place-init c =
    let ends = ends_of c.args.edges.now in
    let fresh : c.in_ok-seen.seen.items ≡ replicate c.count.result false = search rules in
    live_begins c.args.roots.now ends c.args.target c.in_ok-seen.seen.items c.push.new.self.items c.push-2.new.self.items
    (fresh ∙ ap (λ n. replicate n false) c.count.ensures.value)
    (c.in_ok-push.ensures.items ∙ ap₂ (λ (l : List ℕ) (x : ℕ). l ++ x ∷ []) c.new-sections.ensures.items c.count-2.ensures.value)
    (c.in_ok-push-2.ensures.items ∙ ap (λ (l : List ℕ). l ++ 0 ∷ []) c.new-froms.ensures.items)

pub walk_to-requires-clause-place : goal.walk_to-requires-clause-place
walk_to-requires-clause-place c =
    let ok = c.loop-place.sections.ok in
    let test = c.loop-place-test.true in
    let len = c.len.ensures in
    omega (arith, c.loop-place.invariant.wide, ap length c.as_slice-then-section-target.ensures.value)

pub walk_to-requires-clause-wide : goal.walk_to-requires-clause-wide
walk_to-requires-clause-wide c =
    ap length c.as_slice.ensures.value ∙ sym c.loop-place.invariant.wide ∙ sym (ap length c.as_slice-then-section-target.ensures.value)

pub walk_to-requires-clause-earlier : goal.walk_to-requires-clause-earlier
walk_to-requires-clause-earlier c = λ i pos less.
    let own = ap (λ l. at l i) c.as_slice-then-section-target.ensures.value in
    let early = c.loop-place.invariant.search.earlier i pos (omega (arith, less, c.loop-place.invariant.wide, ap length c.as_slice-then-section-target.ensures.value)) in
    omega (arith, own, early)

-- the walk is what leads to the place
walk_is : (c : In_ok-walk) → (word : ℕ → List ℕ) → AreWords c.loop-place.sections.items c.loop-place.froms.items word → c.in_ok-walk.walk.items ≡ word c.loop-place.place
walk_is c =
    let walk = c.in_ok-walk.walk.items in
    let place = c.loop-place.place in
    let P : List ℕ → Type 0 = λ s. (word : ℕ → List ℕ) → AreWords s c.as_slice-then-section-target.result.now word → walk ≡ word place in
    let Q : List ℕ → Type 0 = λ f. (word : ℕ → List ℕ) → AreWords c.loop-place.sections.items f word → walk ≡ word place in
    subst Q c.as_slice-then-section-target.ensures.value (subst P c.as_slice.ensures.value c.in_ok-walk.ensures)

-- the sections that roots and ends name are below the count
low_of : (c : In_ok-walk) → AreSections c.args.roots.now (ends_of c.args.edges.now)
low_of c = record { roots_low = c.requires.roots; ends_low = c.args.edges.now.within }

-- the place is one of the queue's, at which the section stands that is asked for
here_is : (c : In_ok-walk) → (c.loop-place.place < length c.loop-place.sections.items) × (at c.loop-place.sections.items c.loop-place.place ≡ c.args.target)
here_is c =
    let sections = c.loop-place.sections.items in
    let place = c.loop-place.place in
    let ok = c.loop-place.sections.ok in
    let test = c.loop-place-test.true in
    let len = c.len.ensures in
    let lt : place < length sections = omega arith in
    (lt, sym (get_or_default sections place c.index-section.result.now 0 lt) ∙ sym c.index-section.ensures ∙ c.if-section-target.true)

found_is : (c : In_ok-walk) → IsLeastWalk c.args.roots.now (ends_of c.args.edges.now) c.args.target c.in_ok-walk.walk.items
found_is c =
    live_found c.args.roots.now (ends_of c.args.edges.now) (low_of c) c.args.target c.loop-place.seen.items c.loop-place.sections.items c.loop-place.froms.items c.loop-place.place
    c.loop-place.invariant (here_is c).0 (here_is c).1 c.requires.target c.in_ok-walk.walk.items (walk_is c)

pub returns-then-section-target-clause-chain : goal.returns-then-section-target-clause-chain
returns-then-section-target-clause-chain c =
    let p = (goal.at.returns-then-section-target-clause-chain c).In_ok-walk in
    live_is c.args.roots.now (ends_of c.args.edges.now) (low_of p) c.args.target c.loop-place.seen.items c.loop-place.sections.items c.loop-place.froms.items c.loop-place.place
    c.loop-place.invariant (here_is p).0 (here_is p).1 c.requires.target c.in_ok-walk.walk.items (walk_is p)

pub returns-then-section-target-clause-least : goal.returns-then-section-target-clause-least
returns-then-section-target-clause-least c = found_is ((goal.at.returns-then-section-target-clause-least c).In_ok-walk)

pub returns-then-section-target-clause-within : goal.returns-then-section-target-clause-within
returns-then-section-target-clause-within c =
    let p = (goal.at.returns-then-section-target-clause-within c).In_ok-walk in
    walk_low c.args.roots.now (ends_of c.args.edges.now) (low_of p) c.args.target c.in_ok-walk.walk.items (found_is p).walk

pub returns-then-section-target-clause-given : goal.returns-then-section-target-clause-given
returns-then-section-target-clause-given c =
    let p = (goal.at.returns-then-section-target-clause-given c).In_ok-walk in
    let reached = live_reached c.args.roots.now (ends_of c.args.edges.now) (low_of p) c.args.target c.loop-place.seen.items c.loop-place.sections.items c.loop-place.froms.items c.loop-place.place
    c.loop-place.invariant (here_is p).0 (here_is p).1 c.requires.target in
    (λ e. reached, λ r. refl)

pub ends_from-requires : goal.ends_from-requires
ends_from-requires c =
    let ends = ends_of c.args.edges.now in
    let low : AreSections c.args.roots.now ends = record { roots_low = c.requires.roots; ends_low = c.args.edges.now.within } in
    let sections = c.loop-place.sections.items in
    let place = c.loop-place.place in
    let ok = c.loop-place.sections.ok in
    let test = c.loop-place-test.true in
    let len = c.len.ensures in
    let lt : place < length sections = omega arith in
    let read = c.index-section.ensures ∙ get_or_default sections place c.index-section.result.now 0 lt in
    omega (arith, read, section_low c.args.roots.now ends low c.args.target c.loop-place.seen.items sections c.loop-place.froms.items place c.loop-place.invariant place lt)

pub visit_ends-requires : goal.visit_ends-requires
visit_ends-requires c =
    let ends = ends_of c.args.edges.now in
    let low : AreSections c.args.roots.now ends = record { roots_low = c.requires.roots; ends_low = c.args.edges.now.within } in
    let sections = c.loop-place.sections.items in
    let place = c.loop-place.place in
    let ok = c.loop-place.sections.ok in
    let test = c.loop-place-test.true in
    let len = c.len.ensures in
    let lt : place < length sections = omega arith in
    let read = c.index-section.ensures ∙ get_or_default sections place c.index-section.result.now 0 lt in
    let P : List ℕ → Type 0 = λ l. All (λ end. end < length c.loop-place.seen.items) l in
    subst P (sym (c.ends_from.ensures ∙ ap (ends_at (with_start c.args.roots.now ends)) read))
    (ends_seen c.args.roots.now ends low c.args.target c.loop-place.seen.items sections c.loop-place.froms.items place c.loop-place.invariant)

pub loop-place-smaller : goal.loop-place-smaller
loop-place-smaller c =
    let ends = ends_of c.args.edges.now in
    let low : AreSections c.args.roots.now ends = record { roots_low = c.requires.roots; ends_low = c.args.edges.now.within } in
    let ok = c.loop-place.sections.ok in
    let test = c.loop-place-test.true in
    let len = c.len.ensures in
    omega (arith, few_sections c.args.roots.now ends low c.args.target c.loop-place.seen.items c.loop-place.sections.items c.loop-place.froms.items c.loop-place.place c.loop-place.invariant)

pub loop-place-preserved : goal.loop-place-preserved
loop-place-preserved c =
    let roots = c.args.roots.now in
    let ends = ends_of c.args.edges.now in
    let low : AreSections roots ends = record { roots_low = c.requires.roots; ends_low = c.args.edges.now.within } in
    let seen = c.loop-place.seen.items in
    let sections = c.loop-place.sections.items in
    let froms = c.loop-place.froms.items in
    let place = c.loop-place.place in
    let ok = c.loop-place.sections.ok in
    let test = c.loop-place-test.true in
    let len = c.len.ensures in
    let lt : place < length sections = omega arith in
    let read = c.index-section.ensures ∙ get_or_default sections place c.index-section.result.now 0 lt in
    let P : List ℕ → Type 0 = λ l. HasVisited l place seen c.visit_ends.new.seen.items sections c.visit_ends.new.sections.items froms c.visit_ends.new.froms.items in
    let h = subst P (c.ends_from.ensures ∙ ap (ends_at (with_start roots ends)) read) c.in_ok-visit_ends.ensures in
    live_more roots ends low c.args.target seen sections froms place c.loop-place.invariant lt c.visit_ends.new.seen.items c.visit_ends.new.sections.items c.visit_ends.new.froms.items h.row
    h.marks h.moved h.rises h.queue h.places (λ same. c.if-section-target.false (read ∙ same))

pub returns-clause-chain : goal.returns-clause-chain
returns-clause-chain c =
    let ends = ends_of c.args.edges.now in
    let low : AreSections c.args.roots.now ends = record { roots_low = c.requires.roots; ends_low = c.args.edges.now.within } in
    let ok = c.loop-place.sections.ok in
    let test = c.loop-place-test.false in
    let len = c.len.ensures in
    live_none c.args.roots.now ends low c.args.target c.loop-place.seen.items c.loop-place.sections.items c.loop-place.froms.items c.loop-place.place c.loop-place.invariant (omega arith) c.requires.target

pub returns-clause-given : goal.returns-clause-given
returns-clause-given c =
    let ends = ends_of c.args.edges.now in
    let low : AreSections c.args.roots.now ends = record { roots_low = c.requires.roots; ends_low = c.args.edges.now.within } in
    let ok = c.loop-place.sections.ok in
    let test = c.loop-place-test.false in
    let len = c.len.ensures in
    let none = live_unreached c.args.roots.now ends low c.args.target c.loop-place.seen.items c.loop-place.sections.items c.loop-place.froms.items c.loop-place.place c.loop-place.invariant (omega arith) c.requires.target in
    (λ e. absurd (true≢false (sym e)), λ r. absurd (none r))
