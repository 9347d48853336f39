use Rattle.std.proofs.Common.{◌≡◌, ℕ, List, [], ◌∷◌, ◌++◌, ◌+◌, ◌*◌, ◌-◌, length, take, drop, arith, ap, sym, subst, ◌∙◌}
use Rattle.std.specs.Prelude.{if◌then◌else◌}
use Rattle.link_sections.specs.MergeSections.{is_zero_char}
use Rattle.intern_race.specs.Texts.{cut_texts}
use Rattle.str_merge.proofs.CutTexts.{AreStrings, element_end, ended_last, ended_texts, last_of, string_step, strings_all, strings_none}
use Rattle.str_merge.proofs.cuts.string_ends.Goals as goal

pub loop-i-init : goal.loop-i-init
unfolding cut_texts
loop-i-init c =
    let bytes = c.args.contents.now in
    let P : List ℕ → Type 0 = λ l. AreStrings bytes c.args.size 0 (last_of l) (cut_texts bytes l) in
    subst P (sym c.new-ends.ensures.items) (strings_none bytes c.args.size)

pub push_end-requires-clause-within : goal.push_end-requires-clause-within
push_end-requires-clause-within c = element_end (length c.args.contents.now) c.args.size c.loop-i.i c.loop-i-test.true

pub loop-i-preserved : goal.loop-i-preserved
loop-i-preserved c =
    let bytes = c.args.contents.now in
    let i = c.loop-i.i in
    let size = c.args.size in
    let at = i * size in
    let end = at + size in
    let old = c.loop-i.ends.items in
    let new = c.push_end.new.ends.items in
    let long : end - at ≡ size = omega arith in
    let ends = is_zero_char (take size (drop at bytes)) in
    let is : new ≡ old ++ (if ends then end ∷ [] else []) =
    c.in_ok-push_end.ensures ∙ ap (λ n. old ++ (if is_zero_char (take n (drop at bytes)) then end ∷ [] else [])) long in
    string_step bytes size i (last_of old) (last_of new) (cut_texts bytes old) (cut_texts bytes new) c.loop-i-test.true c.loop-i.invariant
    (ended_last old new end ends is) (ended_texts bytes old new end ends is)

pub returns : goal.returns
returns c = strings_all c.args.contents.now c.args.size c.loop-i.i (last_of c.loop-i.ends.items) (cut_texts c.args.contents.now c.loop-i.ends.items) c.loop-i-test.false c.loop-i.invariant
