use Rattle.std.proofs.Common.{◌≡◌, ℕ, List, length, drop, Contains, sym, ◌∙◌, subst}
use Rattle.std.proofs.lemmas.List.{take_at}
use Rattle.icf_part.specs.Runs.{IsRising}
use Rattle.icf_part.proofs.runs.sort_words.Goals as goal

pub returns-clause-rising : goal.returns-clause-rising
returns-clause-rising c =
    let sorted = c.sort_slice.new.words in
    let len : length sorted ≡ c.args.words.now.len = c.sort_slice.ensures.len ∙ c.as_mut_slice.ensures.len in
    let is = take_at sorted (drop (length sorted) c.args.words.now.items) c.args.words.now.len len in
    let P : List ℕ → Type 0 = IsRising in subst P (sym is) c.sort_slice.ensures.rising

pub returns-clause-all : goal.returns-clause-all
returns-clause-all c = λ w has.
    let sorted = c.sort_slice.new.words in
    let len : length sorted ≡ c.args.words.now.len = c.sort_slice.ensures.len ∙ c.as_mut_slice.ensures.len in
    let is = take_at sorted (drop (length sorted) c.args.words.now.items) c.args.words.now.len len in
    let P : List ℕ → Type 0 = λ l. Contains l w in
    subst P (sym is) (c.sort_slice.ensures.all w (subst P (sym c.as_mut_slice.ensures.value) has))

pub returns-clause-only : goal.returns-clause-only
returns-clause-only c = λ w has.
    let sorted = c.sort_slice.new.words in
    let len : length sorted ≡ c.args.words.now.len = c.sort_slice.ensures.len ∙ c.as_mut_slice.ensures.len in
    let is = take_at sorted (drop (length sorted) c.args.words.now.items) c.args.words.now.len len in
    let P : List ℕ → Type 0 = λ l. Contains l w in
    subst P c.as_mut_slice.ensures.value (c.sort_slice.ensures.only w (subst P is has))
