use Rattle.std.proofs.Common.{◌≡◌, ◌+◌, ◌-◌, ◌*◌, Bool, [], length, take, drop, sym, ap, ◌∙◌, arith}
use Rattle.std.specs.Prelude.{if◌then◌else◌}
use Rattle.std.proofs.lemmas.List.{nil_from_length}
use Rattle.link_sections.specs.MergeSections.{elements, is_zero_char, strings_from}
use Rattle.str_merge.proofs.ByteStrings.{count_zeros}
use Rattle.str_merge.proofs.CountSteps.{no_size, strings_done, strings_next}
use Rattle.str_merge.proofs.CutTexts.{element_of}
use Rattle.str_merge.proofs.counts.string_count.Goals as goal

pub returns-then-size-eq0 : goal.returns-then-size-eq0
returns-then-size-eq0 c =
    let none = nil_from_length (elements c.args.size c.args.bytes.now) (no_size c.args.bytes.now c.args.size c.if-size-eq0.true) in
    sym (ap (λ l. length (strings_from [] l)) none)

pub returns-then-size-eq1 : goal.returns-then-size-eq1
returns-then-size-eq1 c =
    c.count.ensures ∙ ap length c.memchr_iter.ensures.value ∙ count_zeros c.args.bytes.now
    ∙ ap (λ n. length (strings_from [] (elements n c.args.bytes.now))) (sym c.if-size-eq1.true)

pub loop-i-preserved : goal.loop-i-preserved
loop-i-preserved c =
    let bytes = c.args.bytes.now in
    let size = c.args.size in
    let i = c.loop-i.i in
    let long : i * size + size - i * size ≡ size = omega arith in
    let one : c.one_if-count.result ≡ (if is_zero_char (element_of size bytes i) then 1 else 0) = c.one_if-count.ensures
    ∙ ap (λ (b : Bool). if b then 1 else 0) (c.is_zero_char.ensures ∙ ap (λ n. is_zero_char (take n (drop (i * size) bytes))) long) in
    let next = strings_next size i bytes c.loop-i-test.true in
    omega (arith, c.loop-i.invariant, one, next)

pub returns : goal.returns
returns c = c.loop-i.invariant ∙ strings_done c.args.size c.loop-i.i c.args.bytes.now (omega arith)
