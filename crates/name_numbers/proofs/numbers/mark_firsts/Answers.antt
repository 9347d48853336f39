use Rattle.std.proofs.Common.{◌≡◌, ℕ, length, subst, arith}
use Rattle.name_numbers.specs.Marks.{AreMarked}
use Rattle.name_numbers.proofs.Marked.{marked_next, marked_none}
use Rattle.name_numbers.proofs.numbers.mark_firsts.Goals as goal

pub bounds-symbols-indexes : goal.bounds-symbols-indexes
bounds-symbols-indexes c = let lt = c.requires.indexes c.loop-k.k (omega arith) in omega (arith, lt)

pub bounds-firsts-symbols : goal.bounds-firsts-symbols
bounds-firsts-symbols c =
    let lt = c.requires.symbols c.loop-k.k (omega arith) in
    let wide = c.loop-k.invariant.wide in
    omega (arith, lt, wide)

pub loop-k-init : goal.loop-k-init
loop-k-init c = marked_none c.args.symbols.now c.args.indexes.now c.args.firsts.now

pub loop-k-preserved : goal.loop-k-preserved
loop-k-preserved c =
    marked_next c.args.symbols.now c.args.indexes.now c.loop-k.k c.args.firsts.now c.loop-k.firsts (omega arith) c.requires.symbols c.requires.rise c.loop-k.invariant

pub returns : goal.returns
returns c =
    let all : c.loop-k.k ≡ length c.args.symbols.now = omega arith in
    let P : ℕ → Type 0 = λ n. AreMarked c.args.symbols.now c.args.indexes.now n c.args.firsts.now c.loop-k.firsts in
    subst P all c.loop-k.invariant
