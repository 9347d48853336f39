use Rattle.std.proofs.Common.{ℕ, List, ◌+◌, refl, sym, subst}
use Rattle.intern_race.specs.Texts.{cut_texts}
use Rattle.str_merge.proofs.ByteStrings.{AreCutTo, cut_all, cut_more, cut_none}
use Rattle.str_merge.proofs.CutTexts.{last_of, pushed_last, pushed_texts}
use Rattle.str_merge.proofs.cuts.byte_string_ends.Goals as goal

pub places-init : goal.places-init
unfolding cut_texts
places-init c =
    let bytes = c.args.contents.now in
    let P : List ℕ → Type 0 = λ l. AreCutTo bytes (last_of l) c.memchr_iter-found.result (cut_texts bytes l) in
    subst P (sym c.in_ok-ends.ensures.items) (cut_none bytes c.memchr_iter-found.result c.memchr_iter-found.ensures.value)

pub places-preserved : goal.places-preserved
places-preserved c =
    let bytes = c.args.contents.now in
    let at = c.in-Some.at in
    let old = c.places.ends.items in
    let new = c.push.new.self.items in
    let P : ℕ → Type 0 = λ s. AreCutTo bytes s c.next.new.self (cut_texts bytes new) in
    subst P (pushed_last old new (at + 1) c.in_ok-push.ensures.items)
    (cut_more bytes (last_of old) at c.places.found c.next.new.self (cut_texts bytes old) (cut_texts bytes new) c.places.invariant c.in-Some.ensures.steps
    (pushed_texts bytes old new (last_of old) (at + 1) refl c.in_ok-push.ensures.items))

pub returns : goal.returns
returns c = cut_all c.args.contents.now (last_of c.places.ends.items) c.places.found (cut_texts c.args.contents.now c.places.ends.items) c.places.invariant c.in_default.ensures.steps.0
