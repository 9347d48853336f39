use Rattle.std.proofs.Common.{◌≡◌, ℕ, ◌+◌, ◌<◌, List, Vec, Global, length, sym, ap, ◌∙◌, subst, arith}
use Rattle.std.specs.Prelude.{flat_map}
use Rattle.std.specs.List.{range_with_len}
use Rattle.std.proofs.lemmas.List.{length-map}
use Rattle.lk_tables.specs.FileView.{file_view, file_views}
use Rattle.file_live.specs.Pulls.{asked_at, asked_members, lists_of}
use Rattle.file_live.specs.Visits.{Reached, reached, all_visited}
use Rattle.file_live.proofs.Searching.{AreVisited, visit_next, visit_skip, reached_same}
use Rattle.file_live.proofs.Asking.{at_within}
use Rattle.file_live.proofs.search.visit_asked.Goals as goal
use Rattle.file_live.proofs.search.visit_asked.Goals.{in-Some+in_ok-visit, in_default}

pub visit-requires : goal.visit-requires
visit-requires c =
    let lent = c.args.files.now in
    let files = file_views lent in
    let undefined = lists_of c.args.undefined.now in
    let few : length files < 16777216 = omega (arith, c.requires.files, length-map lent file_view) in
    omega (arith, at_within undefined files few c.requires.symbols c.loop-n.n c.in-Some.member c.in-Some.ensures, length-map lent file_view, c.requires.wide, c.loop-n.invariant.0)

pub loop-n-preserved : goal.loop-n-preserved
loop-n-preserved c =
    let n = c.loop-n.n in
    let give : ℕ → List ℕ = asked_at (lists_of c.args.undefined.now) (file_views c.args.files.now) in
    let start = reached c.args.seen.now.items c.args.queue.now.items in
    let now = reached c.loop-n.seen.items c.loop-n.queue.items in
    elim c.match-asked_member.branch [
      | in-Some+in_ok-visit w ↦
          visit_next give start now _ n w.in-Some.member c.loop-n.invariant (sym w.in-Some.ensures)
          (reached_same c.match-asked_member.seen w.visit.new.seen c.match-asked_member.queue w.visit.new.queue w.seen-is w.queue-is ∙ w.in_ok-visit.ensures)
      | in_default w ↦
          let P : Reached → Type 0 = λ r. AreVisited give start r (n + 1) in
          subst P (sym (reached_same c.match-asked_member.seen c.loop-n.seen c.match-asked_member.queue c.loop-n.queue w.seen-is w.queue-is))
          (visit_skip give start now n c.loop-n.invariant (sym w.in_default.ensures))
    ]

pub returns : goal.returns
unfolding asked_members
returns c =
    let undefined = lists_of c.args.undefined.now in
    let files = file_views c.args.files.now in
    let all : c.loop-n.n ≡ length undefined = omega (arith, length-map c.args.undefined.now (λ (v : Vec ℕ Global). v.items)) in
    c.loop-n.invariant.1 ∙ ap (λ k. all_visited (reached c.args.seen.now.items c.args.queue.now.items) (flat_map (asked_at undefined files) (range_with_len 0 k))) all
