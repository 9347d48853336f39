use Rattle.std.proofs.Common.{ℕ, ◌<◌, ◌-◌, List, length, get_or, sym, ◌∙◌, subst, arith}
use Rattle.name_numbers.specs.Keys.{no_key}
use Rattle.name_numbers.proofs.Runs.{IsLeastAt, marked_more, run_begins, run_goes_on}
use Rattle.name_numbers.proofs.Keyed.{keys_run, view_in, new_name, old_name, keys_marked}
use Rattle.name_numbers.proofs.sorting.mark_keys.Goals as goal
use Rattle.name_numbers.proofs.sorting.mark_keys.Goals.{then-is_new, else-is_new}

pub bounds-firsts-keys : goal.bounds-firsts-keys
bounds-firsts-keys c =
    let wide = c.loop-k.invariant.wide in
    let in_width = c.requires.within _ (view_in c.args.keys.now c.loop-k.k (omega arith)) in
    omega arith

pub loop-k-preserved : goal.loop-k-preserved
loop-k-preserved c =
    let keys = c.args.keys.now in
    let n = length keys in
    let k = c.loop-k.k in
    let lt : k < n = omega arith in
    let key : ℕ → List ℕ = λ j. (get_or keys j no_key).name.text.now in
    let place : ℕ → ℕ = λ j. (get_or keys j no_key).at in
    let run = keys_run keys c.requires.sorted c.requires.right_hashes c.requires.once in
    let in_width = c.requires.within _ (view_in keys k lt) in
    let wide = c.loop-k.invariant.wide in
    let within : place k < length c.loop-k.firsts = omega arith in
    let P : ℕ → Type 0 = IsLeastAt key place n k in
    let least : IsLeastAt key place n k c.if-is_new.first = elim c.if-is_new.branch [
      | then-is_new w ↦ subst P (sym w.first-is) (run_begins key place n run k lt (new_name keys k (sym c.is_new.ensures ∙ w.if-is_new.true)))
      | else-is_new w ↦ subst P (sym w.first-is) (let old = old_name keys k (sym c.is_new.ensures ∙ w.if-is_new.false) in run_goes_on key place n k (k - 1) c.loop-k.first old.0 old.1 c.loop-k.invariant.last)
    ] in
    marked_more key place n run c.args.firsts.now c.loop-k.firsts c.loop-k.first c.if-is_new.first k c.loop-k.invariant lt within least

pub returns : goal.returns
returns c = keys_marked c.args.keys.now c.args.firsts.now c.loop-k.firsts c.loop-k.first c.loop-k.k (omega arith) c.loop-k.invariant
