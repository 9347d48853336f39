use Rattle.std.proofs.Common.{◌≡◌, ◌<◌, ◌≤◌, ◌∙◌, ◌++◌, ◌∷◌, [], ℕ, List, Ok, All, ap, sym, subst, arith, length, map}
use Rattle.std.specs.Prelude.{IfSome}
use Rattle.std.specs.List.{range_with_len}
use Rattle.std.specs.Vec.Iter.{into_iter_items}
use Rattle.std.proofs.lemmas.List.{length_push}
use Rattle.std.proofs.lemmas.List.FromFn.{length-map-range_with_len}
use Rattle.lk_base.specs.declared.abi.TheConstants.{FILE_MAX}
use Rattle.lk_base.proofs.Loops.{map_step}
use Rattle.work_split.proofs.Sharing.{taken_more}
use Rattle.lk_tables.specs.Files.{File}
use Rattle.lk_tables.specs.Heads.{head_of, head_view}
use Rattle.lk_tables.specs.TablesView.{heads_of}
use Rattle.lk_tables.proofs.Putting.{given_all, given_within}
use Rattle.link_passes.specs.Contents.{source_view, sources_of}
use Rattle.link_passes.specs.Reading.{HasFewSymbols, IsHeadAt}
use Rattle.link_passes.specs.Sources.{Source, headed, source_at}
use Rattle.link_passes.proofs.FileFacts.{source_is}
use Rattle.link_passes.proofs.Gathered.{added_is, all_few, next_is}
use Rattle.link_passes.proofs.heads.gather.Goals as goal

pub add-requires-clause-few : goal.add-requires-clause-few
add-requires-clause-few c =
    let ss = sources_of c.args.sources.now in
    let n : ℕ = length c.args.list.items in
    let at : ℕ = c.loop-head.at in
    let before = c.loop-head.invariant in
    let items = into_iter_items c.loop-head.head-iterator in
    let rest = into_iter_items c.next.new.self in
    let next = c.in-Some.ensures.steps.0 in
    let lt : at < n = omega (arith, before.3, given_within c.loop-head.yielded items rest c.args.list.items c.in-Some.head before.2 next) in
    let many : length (heads_of c.loop-head.heads) ≡ at = ap length before.4 ∙ length-map-range_with_len (headed ss) 0 at in
    omega (arith, many, lt, c.requires.few)

pub add-requires-clause-short : goal.add-requires-clause-short
add-requires-clause-short c =
    let ss = sources_of c.args.sources.now in
    let n : ℕ = length c.args.list.items in
    let at : ℕ = c.loop-head.at in
    let before = c.loop-head.invariant in
    let items = into_iter_items c.loop-head.head-iterator in
    let rest = into_iter_items c.next.new.self in
    let next = c.in-Some.ensures.steps.0 in
    let lt : at < n = omega (arith, before.3, given_within c.loop-head.yielded items rest c.args.list.items c.in-Some.head before.2 next) in
    let here : IsHeadAt ss at c.in-Some.head = next_is (IsHeadAt ss) n at c.loop-head.yielded items rest c.args.list.items c.in-Some.head c.requires.each before.2 next before.3 in
    let is : source_view c.index-sources-at.result ≡ source_at ss at = ap source_view c.index-sources-at.is ∙ source_is c.args.sources.now at c.index-sources-at.result (omega (arith, lt, c.requires.count)) in
    let P : Source → Type 0 = λ s. length s.bytes ≤ FILE_MAX in
    subst P (sym is) here.short

pub add-requires-clause-head : goal.add-requires-clause-head
add-requires-clause-head c =
    let ss = sources_of c.args.sources.now in
    let n : ℕ = length c.args.list.items in
    let at : ℕ = c.loop-head.at in
    let before = c.loop-head.invariant in
    let items = into_iter_items c.loop-head.head-iterator in
    let rest = into_iter_items c.next.new.self in
    let next = c.in-Some.ensures.steps.0 in
    let lt : at < n = omega (arith, before.3, given_within c.loop-head.yielded items rest c.args.list.items c.in-Some.head before.2 next) in
    let here : IsHeadAt ss at c.in-Some.head = next_is (IsHeadAt ss) n at c.loop-head.yielded items rest c.args.list.items c.in-Some.head c.requires.each before.2 next before.3 in
    let is : source_view c.index-sources-at.result ≡ source_at ss at = ap source_view c.index-sources-at.is ∙ source_is c.args.sources.now at c.index-sources-at.result (omega (arith, lt, c.requires.count)) in
    let P : Source → Type 0 = λ s. IfSome c.in-Some.head (λ h. head_of s.bytes ≡ Ok (head_view h)) in
    subst P (sym is) here.own

pub loop-head-preserved : goal.loop-head-preserved
loop-head-preserved c =
    let ss = sources_of c.args.sources.now in
    let n : ℕ = length c.args.list.items in
    let at : ℕ = c.loop-head.at in
    let before = c.loop-head.invariant in
    let items = into_iter_items c.loop-head.head-iterator in
    let rest = into_iter_items c.next.new.self in
    let next = c.in-Some.ensures.steps.0 in
    let lt : at < n = omega (arith, before.3, given_within c.loop-head.yielded items rest c.args.list.items c.in-Some.head before.2 next) in
    let here : IsHeadAt ss at c.in-Some.head = next_is (IsHeadAt ss) n at c.loop-head.yielded items rest c.args.list.items c.in-Some.head c.requires.each before.2 next before.3 in
    let is : source_view c.index-sources-at.result ≡ source_at ss at = ap source_view c.index-sources-at.is ∙ source_is c.args.sources.now at c.index-sources-at.result (omega (arith, lt, c.requires.count)) in (
      tt,
      tt,
      taken_more c.loop-head.yielded items rest c.args.list.items c.in-Some.head before.2 next,
      omega (arith, before.3, length_push c.loop-head.yielded c.in-Some.head),
      map_step (headed ss) at (heads_of c.loop-head.heads) (heads_of c.add.new.self) before.4
          (c.in_ok-add.ensures.ok ∙ ap (λ (x : File). heads_of c.loop-head.heads ++ x ∷ []) (added_is ss at (source_view c.index-sources-at.result) c.in-Some.head is here)),
    )

pub returns-clause-few : goal.returns-clause-few
returns-clause-few c =
    let ss = sources_of c.args.sources.now in
    let n : ℕ = length c.args.list.items in
    let at : ℕ = c.loop-head.at in
    let before = c.loop-head.invariant in
    let items = into_iter_items c.loop-head.head-iterator in
    let none = c.in-None.ensures.steps.0 in
    let counts = c.loop-head.head-iterator.rest.ok.0 in
    let all : at ≡ n = omega (arith, before.3, given_all c.loop-head.yielded items c.args.list.items before.2 (omega arith)) in
    let are : heads_of c.loop-head.heads ≡ map (headed ss) (range_with_len 0 n) = before.4 ∙ ap (λ k. map (headed ss) (range_with_len 0 k)) all in
    let P : List File → Type 0 = λ l. All HasFewSymbols l in
    subst P (sym are) (all_few ss 0 n c.args.list.items c.requires.each)
