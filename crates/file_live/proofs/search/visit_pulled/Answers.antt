use Rattle.std.proofs.Common.{◌≡◌, ℕ, ◌+◌, ◌<◌, List, length, sym, ap, ◌∙◌, subst, arith}
use Rattle.std.specs.Prelude.{flat_map, option_to_list}
use Rattle.std.specs.List.{range_with_len}
use Rattle.std.proofs.lemmas.List.{length-map}
use Rattle.lk_tables.specs.FileView.{file_view, file_views}
use Rattle.lk_tables.specs.Files.{File, file_at}
use Rattle.lk_tables.proofs.FirstNumbers.{file_read}
use Rattle.file_live.specs.Pulls.{pulled, pulled_in}
use Rattle.file_live.specs.Visits.{Reached, reached, all_visited}
use Rattle.file_live.proofs.Searching.{AreVisited, visit_next, visit_skip, reached_same}
use Rattle.file_live.proofs.Pulling.{some_within}
use Rattle.file_live.proofs.search.visit_pulled.Goals as goal
use Rattle.file_live.proofs.search.visit_pulled.Goals.{in-Some+in_ok-visit, in_default}

pub visit-requires : goal.visit-requires
visit-requires c =
    let lent = c.args.files.now in
    let files = file_views lent in
    let own = ap (λ (x : File). length x.head.symbols) (file_read lent c.args.f c.index-files-f.result c.requires.file c.index-files-f.is) in
    let inside : c.loop-i.i < length (file_at files c.args.f).head.symbols = omega (arith, ap length c.symbols-i-end.ensures, own) in
    let few : length files < 16777216 = omega (arith, c.requires.files, length-map lent file_view) in
    omega (arith, some_within files few c.requires.symbols c.args.f c.loop-i.i c.in-Some.member inside c.in-Some.ensures, length-map lent file_view, c.requires.wide, c.loop-i.invariant.0)

pub loop-i-preserved : goal.loop-i-preserved
loop-i-preserved c =
    let files = file_views c.args.files.now in
    let i = c.loop-i.i in
    let give : ℕ → List ℕ = λ j. option_to_list (pulled files c.args.f j) in
    let start = reached c.args.seen.now.items c.args.queue.now.items in
    let now = reached c.loop-i.seen.items c.loop-i.queue.items in
    elim c.match-pulled_by.branch [
      | in-Some+in_ok-visit w ↦
          visit_next give start now _ i w.in-Some.member c.loop-i.invariant (sym (ap option_to_list w.in-Some.ensures))
          (reached_same c.match-pulled_by.seen w.visit.new.seen c.match-pulled_by.queue w.visit.new.queue w.seen-is w.queue-is ∙ w.in_ok-visit.ensures)
      | in_default w ↦
          let P : Reached → Type 0 = λ r. AreVisited give start r (i + 1) in
          subst P (sym (reached_same c.match-pulled_by.seen c.loop-i.seen c.match-pulled_by.queue c.loop-i.queue w.seen-is w.queue-is))
          (visit_skip give start now i c.loop-i.invariant (sym (ap option_to_list w.in_default.ensures)))
    ]

pub returns : goal.returns
unfolding pulled_in
returns c =
    let lent = c.args.files.now in
    let files = file_views lent in
    let own = ap (λ (x : File). length x.head.symbols) (file_read lent c.args.f c.index-files-f.result c.requires.file c.index-files-f.is) in
    let all : c.loop-i.i ≡ length (file_at files c.args.f).head.symbols = omega (arith, ap length c.symbols-i-end.ensures, own) in
    let give : ℕ → List ℕ = λ j. option_to_list (pulled files c.args.f j) in
    c.loop-i.invariant.1 ∙ ap (λ k. all_visited (reached c.args.seen.now.items c.args.queue.now.items) (flat_map give (range_with_len 0 k))) all
