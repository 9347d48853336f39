use mir.Syntax.{w128}
use mir.Val.{of_z, to_z}
use Rattle.std.proofs.Common.{◌+◌, ◌^◌, ◌∙◌, ap, arith, pos, ◌+ℤ◌, ◌-ℤ◌}
use Rattle.std.specs.Prelude.{unsigned_abs}
use Rattle.std.proofs.lemmas.Int.{ints}
use Rattle.eh_frame.specs.Header.{low_word}
use Rattle.eh_frame.proofs.TableRows.{key_same, low_same, row_same}
use Rattle.eh_frame.proofs.header.row_of.Goals as goal

pub returns : goal.returns
returns c =
    let h = c.args.starts.header in
    let function = c.function_of-function.result in
    let value = c.function_of-function.ensures.value in
    let low = c.function_of-function.ensures.low in
    let high = c.function_of-function.ensures.high in
    row_same _ _ _ _ _ _
    (key_same c.key_of.result (to_z w128 (of_z w128 function)) function c.key_of.ensures (omega (arith, ints, low, high)) ∙ ap (λ v. unsigned_abs (v +ℤ pos (2 ^ 64))) value)
    (low_same c.low_word.result _ (function -ℤ pos h) c.low_word.ensures (omega (arith, ints, low, high)) ∙ ap (λ v. low_word (v -ℤ pos h)) value)
    (low_same c.low_word-2.result _ (pos (c.args.starts.frames + c.args.fde.now.at) -ℤ pos h) c.low_word-2.ensures (omega (arith, ints)))
