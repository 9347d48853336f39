use Rattle.std.proofs.Common.{◌∙◌, IsPermutation, List, [], ℕ, sym, ap, subst}
use Rattle.why_chain.specs.Visits.{Gathered, all_gathered, gathered}
use Rattle.why_chain.proofs.Gathering.{row_rises}
use Rattle.why_chain.proofs.visits.visit_ends.Goals as goal

pub returns : goal.returns
returns c =
    let ends = c.args.ends.now in
    let seen = c.args.seen.now.items in
    let all = c.in_ok-gather_ends.ensures ∙ ap (λ r. all_gathered (gathered seen r) ends) c.clear.ensures.items in
    let row = ap (λ (g : Gathered). g.row) all in
    let P : List ℕ → Type 0 = λ l. IsPermutation l c.sort_unstable.new.self.items in
    let Q : List ℕ → Type 0 = λ l. IsPermutation (all_gathered (gathered seen []) ends).row l in
    record {
      row = c.as_slice.result.now;
      marks = ap (λ (g : Gathered). g.seen) all;
      moved = subst Q (sym c.as_slice.ensures.value) (subst P row c.sort_unstable.ensures.permutation);
      rises = row_rises ends seen c.gather_ends.new.row.items c.sort_unstable.new.self.items c.as_slice.result.now c.requires row c.sort_unstable.ensures.permutation c.sort_unstable.ensures.sorted c.as_slice.ensures.value;
      queue = c.in_ok-push_row.ensures.sections;
      places = c.in_ok-push_row.ensures.froms;
    }
