use Rattle.std.proofs.Common.{◌≡◌, ◌+◌, ◌∷◌, [], not, length, sym, ap, ◌∙◌, subst, arith}
use Rattle.std.specs.Prelude.{flat_map}
use Rattle.std.specs.List.{range_with_len}
use Rattle.std.proofs.lemmas.Bool.{cond-true, cond-false}
use Rattle.std.proofs.lemmas.List.{length-map}
use Rattle.lk_tables.specs.FileView.{file_view, file_views}
use Rattle.lk_tables.specs.Files.{File, file_at}
use Rattle.lk_tables.proofs.FirstNumbers.{file_read}
use Rattle.file_live.specs.Pulls.{command_at, commands}
use Rattle.file_live.specs.Visits.{Reached, reached, all_visited}
use Rattle.file_live.proofs.Searching.{AreVisited, visit_next, visit_skip, reached_same}
use Rattle.file_live.proofs.search.visit_commands.Goals as goal
use Rattle.file_live.proofs.search.visit_commands.Goals.{then-not-is_member+in_ok-visit, else-not-is_member}

pub loop-f-preserved : goal.loop-f-preserved
loop-f-preserved c =
    let files = file_views c.args.files.now in
    let f = c.loop-f.f in
    let start = reached c.args.seen.now.items c.args.queue.now.items in
    let now = reached c.loop-f.seen.items c.loop-f.queue.items in
    let own = ap (λ (x : File). not x.member) (sym (file_read c.args.files.now f c.index-files-f.result c.loop-f-test.true c.index-files-f.is)) ∙ ap not (sym c.is_member.ensures) in
    elim c.if-not-is_member.branch [
      | then-not-is_member+in_ok-visit w ↦
          visit_next (command_at files) start now _ f f c.loop-f.invariant (cond-true (not (file_at files f).member) (f ∷ []) [] (own ∙ ap not w.if-not-is_member.true))
          (reached_same c.if-not-is_member.seen w.visit.new.seen c.if-not-is_member.queue w.visit.new.queue w.seen-is w.queue-is ∙ w.in_ok-visit.ensures)
      | else-not-is_member w ↦
          let P : Reached → Type 0 = λ r. AreVisited (command_at files) start r (f + 1) in
          subst P (sym (reached_same c.if-not-is_member.seen c.loop-f.seen c.if-not-is_member.queue c.loop-f.queue w.seen-is w.queue-is))
          (visit_skip (command_at files) start now f c.loop-f.invariant (cond-false (not (file_at files f).member) (f ∷ []) [] (own ∙ ap not w.if-not-is_member.false)))
    ]

pub returns : goal.returns
unfolding commands
returns c =
    let files = file_views c.args.files.now in
    let all : c.loop-f.f ≡ length files = omega (arith, length-map c.args.files.now file_view) in
    c.loop-f.invariant.1 ∙ ap (λ k. all_visited (reached c.args.seen.now.items c.args.queue.now.items) (flat_map (command_at files) (range_with_len 0 k))) all
