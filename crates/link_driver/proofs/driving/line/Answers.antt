use Rattle.std.proofs.Common.{◌≤◌, arith, inl, inr, refl, subst, sym}
use Rattle.link_driver.specs.declared.driving.Ending.{Ending}
use Rattle.link_driver.specs.Ends.{HasLine, no_line, a_line}
use Rattle.link_driver.specs.Endings.{status_of, reported_line}
use Rattle.link_driver.specs.Link.{bad_command, cannot_report}
use Rattle.link_driver.proofs.OneLine.{one_line}
use Rattle.link_driver.proofs.driving.line.Goals as goal

abbrev ReportedAsLine : Ending → Type 0
ReportedAsLine e = HasLine (status_of e) (reported_line e)

pub returns-in-Done-clause-one : goal.returns-in-Done-clause-one
returns-in-Done-clause-one c = subst ReportedAsLine (sym c.in-Done.is) (no_line (inl refl) refl)

pub returns-in-Memory-clause-one : goal.returns-in-Memory-clause-one
returns-in-Memory-clause-one c = subst ReportedAsLine (sym c.in-Memory.is) (no_line (inr refl) refl)

pub returns-in-Refused-clause-one : goal.returns-in-Refused-clause-one
unfolding bad_command
returns-in-Refused-clause-one c =
    let low : 1 ≤ 2 = grind arith in
    let high : 2 ≤ 3 = grind arith in
    subst ReportedAsLine (sym c.in-Refused.is) (a_line low high (one_line bad_command refl))

pub returns-in-Unreported-clause-one : goal.returns-in-Unreported-clause-one
unfolding cannot_report
returns-in-Unreported-clause-one c =
    let low : 1 ≤ 3 = grind arith in
    let high : 3 ≤ 3 = grind arith in
    subst ReportedAsLine (sym c.in-Unreported.is) (a_line low high (one_line cannot_report refl))

pub returns-in-Defective-clause-one : goal.returns-in-Defective-clause-one
returns-in-Defective-clause-one c =
    let low : 1 ≤ 1 = grind arith in
    let high : 1 ≤ 3 = grind arith in
    subst ReportedAsLine (sym c.in-Defective.is) (a_line low high (one_line c.in-Defective.line.bytes.items c.in-Defective.line.one))

pub returns-in-Unread-clause-one : goal.returns-in-Unread-clause-one
returns-in-Unread-clause-one c =
    let low : 1 ≤ 3 = grind arith in
    let high : 3 ≤ 3 = grind arith in
    subst ReportedAsLine (sym c.in-Unread.is) (a_line low high (one_line c.in-Unread.line.bytes.items c.in-Unread.line.one))

pub returns-in-Unwritten-clause-one : goal.returns-in-Unwritten-clause-one
returns-in-Unwritten-clause-one c =
    let low : 1 ≤ 3 = grind arith in
    let high : 3 ≤ 3 = grind arith in
    subst ReportedAsLine (sym c.in-Unwritten.is) (a_line low high (one_line c.in-Unwritten.line.bytes.items c.in-Unwritten.line.one))
