use Rattle.std.proofs.Common.{◌≡◌, ◌≢◌, ◌∙◌, ℕ, length, get_or, subst, refl, arith}
use Rattle.std.proofs.lemmas.Grind.{get_or_default_zero}
use Rattle.icf_part.specs.declared.classes.Classes.{Classes}
use Rattle.icf_part.proofs.ClassSplit.{IsPart, added, back_again, from_within, labels_few, moved_few, part_is, part_sent, part_whole, stays, whole_is}
use Rattle.icf_part.proofs.Relabelled.{IsRelabelled}
use Rattle.icf_part.proofs.Turned.{all_within}
use Rattle.icf_part.proofs.splitting.split_class.Goals as goal

pub relabel-moved-requires-clause-apart : goal.relabel-moved-requires-clause-apart
relabel-moved-requires-clause-apart g c =
    let start = c.args.classes.now in
    let n = length start.labels.items in
    let part : IsPart n c.args.from c.args.part.now start.labels.items = record { some = c.requires.some; items = c.requires.part } in
    let lt = from_within n c.args.from c.args.part.now start c.requires.kept part in
    λ e. omega (arith, lt, e, c.len-to.ensures, start.sizes.ok.0)

pub relabel-moved-requires-clause-within : goal.relabel-moved-requires-clause-within
relabel-moved-requires-clause-within g c = all_within (length c.args.classes.now.labels.items) c.args.part.now (λ a has. (c.requires.part a has).0)

pub relabel-requires-clause-apart : goal.relabel-requires-clause-apart
relabel-requires-clause-apart g c =
    let start = c.args.classes.now in
    let n = length start.labels.items in
    let part : IsPart n c.args.from c.args.part.now start.labels.items = record { some = c.requires.some; items = c.requires.part } in
    let lt = from_within n c.args.from c.args.part.now start c.requires.kept part in
    λ e. omega (arith, lt, e, c.len-to.ensures, start.sizes.ok.0)

pub relabel-requires-clause-within : goal.relabel-requires-clause-within
relabel-requires-clause-within g c =
    all_within (length c.relabel-moved.new.labels.items) c.args.part.now (λ a has. omega (arith, (c.requires.part a has).0, c.relabel-moved.ensures.wide))

pub add_class-requires-clause-few : goal.add_class-requires-clause-few
add_class-requires-clause-few g c = labels_few (length c.args.classes.now.labels.items) c.args.classes.now c.requires.kept c.requires.few

pub add_class-requires-clause-from : goal.add_class-requires-clause-from
add_class-requires-clause-from g c =
    let start = c.args.classes.now in
    let n = length start.labels.items in
    let part : IsPart n c.args.from c.args.part.now start.labels.items = record { some = c.requires.some; items = c.requires.part } in
    from_within n c.args.from c.args.part.now start c.requires.kept part

pub add_class-requires-clause-moved : goal.add_class-requires-clause-moved
add_class-requires-clause-moved g c =
    let start = c.args.classes.now in
    let n = length start.labels.items in
    let part : IsPart n c.args.from c.args.part.now start.labels.items = record { some = c.requires.some; items = c.requires.part } in
    let r = c.relabel-moved.ensures in
    let labels = c.relabel-moved.new.labels.items in
    let moved = c.relabel-moved.result in
    let P : ℕ → Type 0 = λ t. IsRelabelled start.labels.items c.args.part.now c.args.from t labels moved in
    let to_is : c.len-to.result ≡ length start.sizes.items = omega (arith, c.len-to.ensures, start.sizes.ok.0) in
    let is : IsRelabelled start.labels.items c.args.part.now c.args.from (length start.sizes.items) labels moved = subst P to_is (record { wide = r.wide; each = r.each; less = r.less; more = r.more }) in
    moved_few n c.args.from c.args.part.now start c.requires.kept part labels moved is

pub add_class-requires-clause-marks : goal.add_class-requires-clause-marks
add_class-requires-clause-marks g c = c.requires.kept.marks

pub overflow_cast-to : goal.overflow_cast-to
overflow_cast-to g c = omega (arith, labels_few (length c.args.classes.now.labels.items) c.args.classes.now c.requires.kept c.requires.few, c.len-to.ensures, c.args.classes.now.sizes.ok.0)

pub index-requires : goal.index-requires
index-requires g c =
    let start = c.args.classes.now in
    let n = length start.labels.items in
    let part : IsPart n c.args.from c.args.part.now start.labels.items = record { some = c.requires.some; items = c.requires.part } in
    omega (arith, from_within n c.args.from c.args.part.now start c.requires.kept part, start.sizes.ok.0)

pub returns-then-moved-index-clause-stands : goal.returns-then-moved-index-clause-stands
returns-then-moved-index-clause-stands g c =
    let start = c.args.classes.now in
    let n = length start.labels.items in
    let part : IsPart n c.args.from c.args.part.now start.labels.items = record { some = c.requires.some; items = c.requires.part } in
    let r = c.relabel-moved.ensures in
    let labels = c.relabel-moved.new.labels.items in
    let moved = c.relabel-moved.result in
    let P : ℕ → Type 0 = λ t. IsRelabelled start.labels.items c.args.part.now c.args.from t labels moved in
    let to_is : c.len-to.result ≡ length start.sizes.items = omega (arith, c.len-to.ensures, start.sizes.ok.0) in
    let is : IsRelabelled start.labels.items c.args.part.now c.args.from (length start.sizes.items) labels moved = subst P to_is (record { wide = r.wide; each = r.each; less = r.less; more = r.more }) in
    let b = c.relabel.ensures in
    let Q : ℕ → Type 0 = λ t. IsRelabelled labels c.args.part.now t c.args.from c.relabel.new.labels.items c.relabel.result in
    let was : IsRelabelled labels c.args.part.now (length start.sizes.items) c.args.from c.relabel.new.labels.items c.relabel.result = subst Q to_is (record { wide = b.wide; each = b.each; less = b.less; more = b.more }) in
    let undone = back_again n c.args.from c.args.part.now start c.requires.kept part labels moved is c.relabel.new.labels.items c.relabel.result was in
    let new : Classes = record { labels = c.relabel.new.labels; sizes = start.sizes; members = start.members; waits = start.waits; queue = start.queue } in
    stays n start new c.args.steps.now c.requires.kept undone refl refl refl refl

pub returns-then-moved-index-clause-split : goal.returns-then-moved-index-clause-split
returns-then-moved-index-clause-split g c =
    let start = c.args.classes.now in
    let n = length start.labels.items in
    let part : IsPart n c.args.from c.args.part.now start.labels.items = record { some = c.requires.some; items = c.requires.part } in
    let r = c.relabel-moved.ensures in
    let labels = c.relabel-moved.new.labels.items in
    let moved = c.relabel-moved.result in
    let P : ℕ → Type 0 = λ t. IsRelabelled start.labels.items c.args.part.now c.args.from t labels moved in
    let to_is : c.len-to.result ≡ length start.sizes.items = omega (arith, c.len-to.ensures, start.sizes.ok.0) in
    let is : IsRelabelled start.labels.items c.args.part.now c.args.from (length start.sizes.items) labels moved = subst P to_is (record { wide = r.wide; each = r.each; less = r.less; more = r.more }) in
    let b = c.relabel.ensures in
    let Q : ℕ → Type 0 = λ t. IsRelabelled labels c.args.part.now t c.args.from c.relabel.new.labels.items c.relabel.result in
    let was : IsRelabelled labels c.args.part.now (length start.sizes.items) c.args.from c.relabel.new.labels.items c.relabel.result = subst Q to_is (record { wide = b.wide; each = b.each; less = b.less; more = b.more }) in
    let undone = back_again n c.args.from c.args.part.now start c.requires.kept part labels moved is c.relabel.new.labels.items c.relabel.result was in
    let lt = from_within n c.args.from c.args.part.now start c.requires.kept part in
    let read = c.index.ensures ∙ get_or_default_zero start.sizes.items c.args.from c.index.result.now lt in
    let all : moved ≡ get_or start.sizes.items c.args.from 0 = omega (arith, read) in
    part_whole n c.args.from c.args.part.now start.labels.items c.relabel.new.labels.items undone (whole_is n c.args.from c.args.part.now start c.requires.kept part labels moved is all)

pub returns-clause-stands : goal.returns-clause-stands
returns-clause-stands g c =
    let start = c.args.classes.now in
    let n = length start.labels.items in
    let part : IsPart n c.args.from c.args.part.now start.labels.items = record { some = c.requires.some; items = c.requires.part } in
    let r = c.relabel-moved.ensures in
    let labels = c.relabel-moved.new.labels.items in
    let moved = c.relabel-moved.result in
    let P : ℕ → Type 0 = λ t. IsRelabelled start.labels.items c.args.part.now c.args.from t labels moved in
    let to_is : c.len-to.result ≡ length start.sizes.items = omega (arith, c.len-to.ensures, start.sizes.ok.0) in
    let is : IsRelabelled start.labels.items c.args.part.now c.args.from (length start.sizes.items) labels moved = subst P to_is (record { wide = r.wide; each = r.each; less = r.less; more = r.more }) in
    let e = c.in_ok-add_class.ensures in
    let lt = from_within n c.args.from c.args.part.now start c.requires.kept part in
    let read = c.index.ensures ∙ get_or_default_zero start.sizes.items c.args.from c.index.result.now lt in
    let other : moved ≢ get_or start.sizes.items c.args.from 0 = λ e. omega (arith, e, read) in
    added n c.args.from c.args.part.now start c.requires.kept part labels moved is _ c.add_class.new.classes c.args.steps.now c.tick.new.self e.next other refl refl refl refl e.labels e.members e.sizes c.tick.ensures

pub returns-clause-split : goal.returns-clause-split
returns-clause-split g c =
    let start = c.args.classes.now in
    let n = length start.labels.items in
    let part : IsPart n c.args.from c.args.part.now start.labels.items = record { some = c.requires.some; items = c.requires.part } in
    let r = c.relabel-moved.ensures in
    let labels = c.relabel-moved.new.labels.items in
    let moved = c.relabel-moved.result in
    let P : ℕ → Type 0 = λ t. IsRelabelled start.labels.items c.args.part.now c.args.from t labels moved in
    let to_is : c.len-to.result ≡ length start.sizes.items = omega (arith, c.len-to.ensures, start.sizes.ok.0) in
    let is : IsRelabelled start.labels.items c.args.part.now c.args.from (length start.sizes.items) labels moved = subst P to_is (record { wide = r.wide; each = r.each; less = r.less; more = r.more }) in
    part_sent n c.args.from c.args.part.now start.labels.items labels c.add_class.new.classes.labels.items c.in_ok-add_class.ensures.labels
    (part_is n c.args.from c.args.part.now start c.requires.kept part labels moved is)
