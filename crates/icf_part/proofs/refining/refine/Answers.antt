use Rattle.std.proofs.Common.{◌≡◌, ℕ, ◌<◌, List, length, get_or, ap, sym, ◌∙◌, subst, arith}
use Rattle.std.specs.Global.{Vec}
use Rattle.icf_part.specs.Classes.{class_count, lists_of}
use Rattle.icf_part.specs.Edges.{AreInto, AreWaiting}
use Rattle.icf_part.proofs.EdgesInto.{lists_wide}
use Rattle.icf_part.proofs.Started.{classes_lead, first_items_are, firsts_themselves, firsts_wide, into_items, kept_classes, refined_at_once, refined_by}
use Rattle.icf_part.proofs.refining.refine.Goals as goal

pub first_waiting-requires-clause-within : goal.first_waiting-requires-clause-within
first_waiting-requires-clause-within g c =
    let P : List ℕ → Type 0 = λ l. (a : ℕ) → a < length l → get_or l a 0 < length l in
    subst P (sym c.as_slice.ensures.value) ((firsts_wide (length c.args.ends.now) c.args.start.items c.requires.firsts).within)

pub first_waiting-requires-clause-ends : goal.first_waiting-requires-clause-ends
first_waiting-requires-clause-ends g c = λ a k lt. omega (arith, c.requires.ends.within a k lt, c.requires.firsts.wide, ap length c.as_slice.ensures.value)

pub edges_into-requires-clause-within : goal.edges_into-requires-clause-within
edges_into-requires-clause-within g c = c.requires.ends.within

pub first_classes-requires-clause-few : goal.first_classes-requires-clause-few
first_classes-requires-clause-few g c = omega (arith, c.requires.few, c.requires.firsts.wide)

pub first_classes-requires-clause-firsts : goal.first_classes-requires-clause-firsts
first_classes-requires-clause-firsts g c = firsts_wide (length c.args.ends.now) c.args.start.items c.requires.firsts

pub first_classes-requires-clause-count : goal.first_classes-requires-clause-count
first_classes-requires-clause-count g c = c.in_ok-waiting.ensures.count ∙ ap length c.as_slice.ensures.value

pub all_turns-requires-clause-few : goal.all_turns-requires-clause-few
all_turns-requires-clause-few g c = omega (arith, c.requires.few, c.requires.firsts.wide, ap length c.in_ok-classes.ensures.labels)

pub all_turns-requires-clause-kept : goal.all_turns-requires-clause-kept
all_turns-requires-clause-kept g c =
    let W : List ℕ → Type 0 = λ l. AreWaiting c.args.ends.now l c.in_ok-waiting.waiting in
    let made = c.in_ok-classes.ensures in
    kept_classes c.args.ends.now c.args.start.items c.in_ok-waiting.waiting c.in_ok-classes.classes (firsts_wide (length c.args.ends.now) c.args.start.items c.requires.firsts)
    (subst W c.as_slice.ensures.value c.in_ok-waiting.ensures) made.labels made.waits made.queue made.sizes made.members

pub all_turns-requires-clause-count : goal.all_turns-requires-clause-count
all_turns-requires-clause-count g c =
    omega (arith, ap length c.as_slice-2.ensures.value, lists_wide c.in_ok-into.into.items, c.in_ok-into.ensures.count, c.requires.firsts.wide, ap length c.in_ok-classes.ensures.labels)

pub all_turns-requires-clause-items : goal.all_turns-requires-clause-items
all_turns-requires-clause-items g c =
    let I : List (Vec ℕ) → Type 0 = λ l. AreInto c.args.ends.now (lists_of l) in
    into_items c.args.ends.now (lists_of c.as_slice-2.result.now) (length c.in_ok-classes.classes.labels.items) (omega (arith, c.requires.firsts.wide, ap length c.in_ok-classes.ensures.labels))
    (subst I (sym c.as_slice-2.ensures.value) c.in_ok-into.ensures)

pub first_items-requires-clause-few : goal.first_items-requires-clause-few
first_items-requires-clause-few g c =
    omega (arith, ap length c.as_slice-3.ensures.value, c.in_ok-last.ensures.kept.wide, c.requires.few, c.requires.firsts.wide, ap length c.in_ok-classes.ensures.labels)

pub first_items-requires-clause-within : goal.first_items-requires-clause-within
first_items-requires-clause-within g c = λ a lt.
    let kept = c.in_ok-last.ensures.kept in
    let low = kept.below a (omega (arith, lt, ap length c.as_slice-3.ensures.value, kept.wide)) in
    omega (arith, low, ap (λ l. get_or l a 0) c.as_slice-3.ensures.value, c.len-2.ensures, c.in_ok-last.last.sizes.ok.0)

pub returns-then-len-eq0-clause-refined : goal.returns-then-len-eq0-clause-refined
returns-then-len-eq0-clause-refined g c =
    let W : List ℕ → Type 0 = λ l. AreWaiting c.args.ends.now l c.in_ok-waiting.waiting in
    let waits = subst W c.as_slice.ensures.value c.in_ok-waiting.ensures in
    refined_at_once c.args.ends.now c.args.start.items c.in_ok-waiting.waiting c.requires.firsts c.requires.ends waits (sym c.in_ok-waiting.waiting.queue.ok.0 ∙ sym c.len.ensures ∙ c.if-len-eq0.true)

pub returns-clause-refined : goal.returns-clause-refined
returns-clause-refined g c =
    let W : List ℕ → Type 0 = λ l. AreWaiting c.args.ends.now l c.in_ok-waiting.waiting in
    let waits = subst W c.as_slice.ensures.value c.in_ok-waiting.ensures in
    let n = length c.args.ends.now in
    let last = c.in_ok-last.last.labels.items in
    let leaders = c.in_ok-leaders.leaders.items in
    let wide : length last ≡ n = omega (arith, c.in_ok-last.ensures.kept.wide, c.requires.firsts.wide, ap length c.in_ok-classes.ensures.labels) in
    let are = first_items_are n last c.as_slice-3.result.now leaders c.as_slice-3.ensures.value wide c.in_ok-leaders.ensures in
    let I : List (Vec ℕ) → Type 0 = λ l. AreInto c.args.ends.now (lists_of l) in
    refined_by c.args.ends.now (lists_of c.as_slice-2.result.now) c.args.start.items leaders c.in_ok-waiting.waiting c.in_ok-classes.classes c.in_ok-last.last c.requires.ends c.requires.firsts
    (subst I (sym c.as_slice-2.ensures.value) c.in_ok-into.ensures) waits c.in_ok-classes.ensures.labels c.in_ok-classes.ensures.waits c.in_ok-last.ensures.done are

pub returns-clause-steps : goal.returns-clause-steps
returns-clause-steps g c =
    let n = length c.args.ends.now in
    let last = c.in_ok-last.last.labels.items in
    let leaders = c.in_ok-leaders.leaders.items in
    let wide : length last ≡ n = omega (arith, c.in_ok-last.ensures.kept.wide, c.requires.firsts.wide, ap length c.in_ok-classes.ensures.labels) in
    let are = first_items_are n last c.as_slice-3.result.now leaders c.as_slice-3.ensures.value wide c.in_ok-leaders.ensures in
    let start = c.args.start.items in
    let first = ap (λ l. class_count l) c.in_ok-classes.ensures.labels ∙ classes_lead n start start c.requires.firsts.wide (firsts_themselves n start c.requires.firsts) in
    omega (arith, first, classes_lead n last leaders wide are, c.in_ok-last.ensures.steps)
