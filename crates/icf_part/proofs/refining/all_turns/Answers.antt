use Rattle.std.proofs.Common.{◌≡◌, ℕ, false, length, set, sym, ◌∙◌, subst, refl, arith}
use Rattle.icf_part.specs.declared.classes.Classes.{Classes}
use Rattle.icf_part.specs.Classes.{IsKept, lists_of}
use Rattle.icf_part.proofs.AllTurns.{label_in, queue_left, turn_fewer, way_end, way_first, way_turn}
use Rattle.icf_part.proofs.EdgesInto.{lists_wide}
use Rattle.icf_part.proofs.Turning.{popped}
use Rattle.icf_part.proofs.refining.all_turns.Goals as goal

pub turns-init : goal.turns-init
turns-init g c = way_first (length c.args.start.labels.items) (lists_of c.args.into.now) c.args.start c.args.steps.now c.requires.kept

pub turn-requires-clause-few : goal.turn-requires-clause-few
turn-requires-clause-few g c = omega (arith, c.requires.few, c.turns.invariant.kept.wide)

pub turn-requires-clause-kept : goal.turn-requires-clause-kept
turn-requires-clause-kept g c =
    let n = length c.args.start.labels.items in
    let now = c.turns.classes in
    let kept = c.turns.invariant.kept in
    let left = c.pop.new.self.items in
    let label = c.in-Some.label in
    let P : ℕ → Type 0 = λ k. IsKept k now.labels.items now.sizes.items (lists_of now.members.items) (set now.waits.items label false) left in
    subst P (sym kept.wide) (popped n label now.labels.items now.sizes.items (lists_of now.members.items) now.waits.items now.queue.items left kept c.in-Some.ensures.items)

pub turn-requires-clause-label : goal.turn-requires-clause-label
turn-requires-clause-label g c =
    label_in (length c.args.start.labels.items) c.in-Some.label c.turns.classes c.pop.new.self.items c.turns.invariant.kept c.in-Some.ensures.items

pub turn-requires-clause-count : goal.turn-requires-clause-count
turn-requires-clause-count g c = omega (arith, c.requires.count, c.turns.invariant.kept.wide)

pub turn-requires-clause-items : goal.turn-requires-clause-items
turn-requires-clause-items g c = λ t w has. omega (arith, c.requires.items t w has, c.turns.invariant.kept.wide)

pub turns-preserved : goal.turns-preserved
turns-preserved g c =
    way_turn (length c.args.start.labels.items) (lists_of c.args.into.now) c.args.start c.turns.classes _ c.turn.new.classes c.in-Some.label c.args.steps.now c.turns.steps c.turn.new.steps
    c.in_ok-turn.ensures.stands (lists_wide c.args.into.now ∙ c.requires.count) c.turns.invariant refl refl c.in_ok-turn.ensures.turned

pub turns-smaller : goal.turns-smaller
turns-smaller g c =
    turn_fewer (length c.args.start.labels.items) c.in-Some.label c.turns.classes _ c.turn.new.classes c.pop.new.self.items c.turns.steps c.turn.new.steps c.in_ok-turn.ensures.stands c.turns.invariant.kept c.in-Some.ensures.items refl refl

pub index_mut-requires : goal.index_mut-requires
index_mut-requires g c =
    let kept = c.turns.invariant.kept in
    omega (arith, label_in (length c.args.start.labels.items) c.in-Some.label c.turns.classes c.pop.new.self.items kept c.in-Some.ensures.items, kept.marks, c.turns.classes.waits.ok.0)

pub returns-clause-kept : goal.returns-clause-kept
returns-clause-kept g c = queue_left (length c.args.start.labels.items) c.turns.classes c.pop.new.self.items c.turns.invariant.kept c.in_default.ensures.items

pub returns-clause-done : goal.returns-clause-done
returns-clause-done g c =
    let n = length c.args.start.labels.items in
    let now = c.turns.classes in
    let last : Classes = record { labels = now.labels; sizes = now.sizes; members = now.members; waits = now.waits; queue = c.pop.new.self } in
    let none : length c.pop.new.self.items ≡ 0 = omega (arith, c.in_default.ensures.cases.1, c.pop.new.self.ok.0) in
    way_end n (lists_of c.args.into.now) c.args.start now last c.args.steps.now c.turns.steps (queue_left n now c.pop.new.self.items c.turns.invariant.kept c.in_default.ensures.items) refl refl
    (lists_wide c.args.into.now ∙ c.requires.count) refl none c.turns.invariant

pub returns-clause-steps : goal.returns-clause-steps
returns-clause-steps g c = c.turns.invariant.steps
