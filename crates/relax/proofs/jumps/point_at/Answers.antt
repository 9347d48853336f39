use Rattle.std.proofs.Common.{length, ap, sym, ◌∙◌, arith, get_or}
use Rattle.std.proofs.lemmas.List.FromFn.{length-map-range_with_len}
use Rattle.relax.specs.declared.jumps.Mark.{Mark}
use Rattle.relax.specs.CallSizes.{row_at}
use Rattle.relax.specs.Points.{mark_at, point_at, point_in}
use Rattle.relax.proofs.PointSteps.{first_low, mark_is, start_is}
use Rattle.relax.proofs.jumps.point_at.Goals as goal

abbrev no_mark : Mark
no_mark = record { start = 0; first = 0 }

pub bounds-marks-i : goal.bounds-marks-i
bounds-marks-i c =
    let ms = c.args.members.now in
    omega (arith, ap length c.requires.marks, length-map-range_with_len (mark_at ms c.args.rows.now) 0 (length ms), c.requires.within)

pub returns-then-offset-eq0-clause-value : goal.returns-then-offset-eq0-clause-value
unfolding point_at
returns-then-offset-eq0-clause-value c =
    let ms = c.args.members.now in
    let rows = c.args.rows.now in
    let row = row_at rows c.args.i in
    let mark = get_or c.args.marks.now c.args.i no_mark in
    let is = mark_is ms rows c.args.marks.now c.args.i no_mark c.requires.marks c.requires.within in
    c.start_of.ensures ∙ start_is row mark ∙ ap (point_in row mark) (sym c.if-offset-eq0.true) ∙ ap (λ m. point_in row m c.args.offset) is

pub point_in-requires-clause-first : goal.point_in-requires-clause-first
point_in-requires-clause-first c =
    let ms = c.args.members.now in
    let rows = c.args.rows.now in
    let is = mark_is ms rows c.args.marks.now c.args.i no_mark c.requires.marks c.requires.within in
    let low = first_low ms rows (get_or c.args.marks.now c.args.i no_mark) c.args.i is (omega (arith, c.requires.within, c.requires.sound.count)) in
    omega (arith, low, ap length c.row.ensures, c.requires.count)

pub returns-clause-value : goal.returns-clause-value
unfolding point_at
returns-clause-value c =
    let ms = c.args.members.now in
    let rows = c.args.rows.now in
    let is = mark_is ms rows c.args.marks.now c.args.i no_mark c.requires.marks c.requires.within in
    c.point_in.ensures.value ∙ ap (λ l. point_in l (get_or c.args.marks.now c.args.i no_mark) c.args.offset) c.row.ensures ∙ ap (λ m. point_in (row_at rows c.args.i) m c.args.offset) is
