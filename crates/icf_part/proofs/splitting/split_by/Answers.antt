use Rattle.std.proofs.Common.{◌≡◌, ℕ, List, length, Contains, ap, sym, ◌∙◌, subst, arith}
use Rattle.icf_part.specs.Runs.{IsRising}
use Rattle.icf_part.proofs.Keyed.{keyed, keyed_split, keyed_told}
use Rattle.icf_part.proofs.splitting.split_by.Goals as goal

pub labelled-requires : goal.labelled-requires
labelled-requires g c = λ k d lt. omega (arith, c.requires.list k d lt, ap length c.as_slice.ensures.value)

pub split_runs-requires-clause-rising : goal.split_runs-requires-clause-rising
split_runs-requires-clause-rising g c = let P : List ℕ → Type 0 = IsRising in subst P (sym c.as_slice-2.ensures.value) c.sort_words.ensures.rising

pub split_runs-requires-clause-keys : goal.split_runs-requires-clause-keys
split_runs-requires-clause-keys g c =
    let labels = c.args.classes.now.labels.items in
    let made : c.in_ok-keys.keys.items ≡ keyed labels c.args.list.now = c.in_ok-keys.ensures ∙ ap (λ l. keyed l c.args.list.now) c.as_slice.ensures.value in
    keyed_told (length labels) labels c.args.list.now c.as_slice-2.result.now c.requires.few c.requires.list (λ w has.
    let P : List ℕ → Type 0 = λ l. Contains l w in
    subst P made (c.sort_words.ensures.only w (subst P c.as_slice-2.ensures.value has)))

pub returns-clause-split : goal.returns-clause-split
returns-clause-split g c =
    let labels = c.args.classes.now.labels.items in
    let made : c.in_ok-keys.keys.items ≡ keyed labels c.args.list.now = c.in_ok-keys.ensures ∙ ap (λ l. keyed l c.args.list.now) c.as_slice.ensures.value in
    keyed_split (length labels) c.args.list.now c.as_slice-2.result.now labels c.split_runs.new.classes.labels.items c.requires.few c.requires.list
    (λ w has. let P : List ℕ → Type 0 = λ l. Contains l w in subst P (sym c.as_slice-2.ensures.value) (c.sort_words.ensures.all w (subst P (sym made) has)))
    (λ w has. let P : List ℕ → Type 0 = λ l. Contains l w in subst P made (c.sort_words.ensures.only w (subst P c.as_slice-2.ensures.value has)))
    c.in_ok-split_runs.ensures.split
