use Rattle.std.proofs.Common.{ℕ, ◌<◌, List, length, Contains, sym, subst, arith}
use Rattle.icf_part.specs.Classes.{IsPartSplit}
use Rattle.icf_part.proofs.SplitRuns.{kept_here, part_here, run_items, stands_here, under_first, under_last, under_next}
use Rattle.icf_part.proofs.splitting.split_runs.Goals as goal

pub runs-init : goal.runs-init
runs-init g c = under_first (length c.args.classes.now.labels.items) c.args.keys.now c.args.classes.now c.args.steps.now c.requires.kept

pub next_run-requires-clause-cut : goal.next_run-requires-clause-cut
next_run-requires-clause-cut g c = c.runs.invariant.cut

pub split_class-requires-clause-few : goal.split_class-requires-clause-few
split_class-requires-clause-few g c = omega (arith, c.requires.few, c.runs.invariant.stands.kept.wide)

pub split_class-requires-clause-kept : goal.split_class-requires-clause-kept
split_class-requires-clause-kept g c = kept_here (length c.args.classes.now.labels.items) c.runs.classes c.runs.invariant.stands.kept

pub split_class-requires-clause-some : goal.split_class-requires-clause-some
split_class-requires-clause-some g c =
    let P : List ℕ → Type 0 = λ l. 0 < length l in
    subst P (sym c.as_slice.ensures.value) c.in_ok-end.ensures.some

pub split_class-requires-clause-part : goal.split_class-requires-clause-part
split_class-requires-clause-part g c = λ a has.
    let n = length c.args.classes.now.labels.items in
    let now = c.runs.classes in
    let part = c.next_run.new.part.items in
    let end = c.in_ok-end.ensures in
    let P : List ℕ → Type 0 = λ l. Contains l a in
    let item = run_items n c.args.keys.now part c.runs.at c.in_ok-end.end c.upper_at-from.result c.args.classes.now now now c.args.steps.now c.runs.steps c.runs.steps c.requires.few c.requires.keys c.runs.invariant
    (omega arith) c.upper_at-from.ensures end.more end.cut end.same end.all end.only a (subst P c.as_slice.ensures.value has) in
    (omega (arith, item.0, c.runs.invariant.stands.kept.wide), item.1)

pub runs-preserved : goal.runs-preserved
runs-preserved g c =
    let n = length c.args.classes.now.labels.items in
    let now = c.runs.classes in
    let part = c.next_run.new.part.items in
    let end = c.in_ok-end.ensures in
    let next = c.split_class.new.classes in
    let kept = c.runs.invariant.stands.kept in
    let P : List ℕ → Type 0 = λ l. IsPartSplit (length now.labels.items) c.upper_at-from.result l now.labels.items next.labels.items in
    under_next n c.args.keys.now part c.runs.at c.in_ok-end.end c.upper_at-from.result c.args.classes.now now next c.args.steps.now c.runs.steps c.split_class.new.steps c.requires.few c.requires.keys c.runs.invariant
    (omega arith) c.upper_at-from.ensures end.more end.cut end.same end.all end.only (stands_here n now next c.runs.steps c.split_class.new.steps kept c.in_ok-split_class.ensures.stands)
    (part_here n c.upper_at-from.result part now next.labels.items kept (subst P c.as_slice.ensures.value c.in_ok-split_class.ensures.split))

pub returns-clause-stands : goal.returns-clause-stands
returns-clause-stands g c = c.runs.invariant.stands

pub returns-clause-split : goal.returns-clause-split
returns-clause-split g c =
    under_last (length c.args.classes.now.labels.items) c.args.keys.now c.runs.at c.args.classes.now c.runs.classes c.args.steps.now c.runs.steps (omega arith) c.requires.few c.runs.invariant
