use Rattle.std.proofs.Common.{ℕ, ◌/◌, ◌^◌, List, length, get_or, Contains, subst, arith}
use Rattle.icf_part.specs.Classes.{AreSplit, word}
use Rattle.icf_part.proofs.SplitAll.{turn_first, turn_last, turn_next}
use Rattle.icf_part.proofs.SplitRuns.{kept_here, split_here, stands_here}
use Rattle.icf_part.proofs.Turned.{all_within}
use Rattle.icf_part.proofs.turns.split_all.Goals as goal

pub runs-init : goal.runs-init
runs-init g c = turn_first (length c.args.classes.now.labels.items) c.args.words.now c.args.classes.now c.args.steps.now c.requires.kept

pub next_run-requires-clause-cut : goal.next_run-requires-clause-cut
next_run-requires-clause-cut g c = c.runs.invariant.cut

pub split_by-requires-clause-few : goal.split_by-requires-clause-few
split_by-requires-clause-few g c = omega (arith, c.requires.few, c.runs.invariant.stands.kept.wide)

pub split_by-requires-clause-kept : goal.split_by-requires-clause-kept
split_by-requires-clause-kept g c = kept_here (length c.args.classes.now.labels.items) c.runs.classes c.runs.invariant.stands.kept

pub split_by-requires-clause-list : goal.split_by-requires-clause-list
split_by-requires-clause-list g c =
    all_within (length c.runs.classes.labels.items) c.as_slice.result.now (λ a has.
    let P : List ℕ → Type 0 = λ l. Contains l a in
    let told = c.in_ok-end.ensures.only a (subst P c.as_slice.ensures.value has) in
    let low = c.requires.items (word (get_or c.args.words.now c.runs.at 0 / 2 ^ 32) a) told.1 in
    let fits = told.0 in
    omega (arith, low, fits, c.runs.invariant.stands.kept.wide))

pub runs-preserved : goal.runs-preserved
runs-preserved g c =
    let n = length c.args.classes.now.labels.items in
    let now = c.runs.classes in
    let list = c.next_run.new.part.items in
    let end = c.in_ok-end.ensures in
    let next = c.split_by.new.classes in
    let kept = c.runs.invariant.stands.kept in
    let P : List ℕ → Type 0 = λ l. AreSplit (length now.labels.items) (λ a. Contains l a) now.labels.items next.labels.items in
    turn_next n c.args.words.now list c.runs.at c.in_ok-end.end c.args.classes.now now next c.args.steps.now c.runs.steps c.split_by.new.steps c.requires.few c.runs.invariant
    end.more end.cut end.same end.all end.only (stands_here n now next c.runs.steps c.split_by.new.steps kept c.in_ok-split_by.ensures.stands)
    (split_here n list now next.labels.items kept (subst P c.as_slice.ensures.value c.in_ok-split_by.ensures.split))

pub returns-clause-stands : goal.returns-clause-stands
returns-clause-stands g c = c.runs.invariant.stands

pub returns-clause-split : goal.returns-clause-split
returns-clause-split g c =
    turn_last (length c.args.classes.now.labels.items) c.args.words.now c.runs.at c.args.classes.now c.runs.classes c.args.steps.now c.runs.steps (omega arith) c.requires.few c.runs.invariant
