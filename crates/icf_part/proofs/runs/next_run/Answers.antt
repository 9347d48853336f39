use Rattle.std.proofs.Common.{◌≡◌, ◌-◌, ℕ, ◌<◌, ◌^◌, ◌/◌, List, length, map, get_or, Contains, sym, ap, ◌∙◌, subst, arith}
use Rattle.std.specs.List.{range_with_len}
use Rattle.work_split.proofs.ListedRuns.{first_run, run_more}
use Rattle.icf_part.specs.Classes.{word}
use Rattle.icf_part.proofs.RunsFound.{IsRun, lower, run_all, run_cut, run_only, run_some}
use Rattle.icf_part.proofs.runs.next_run.Goals as goal

pub loop-i-init : goal.loop-i-init
loop-i-init c = (omega arith, c.clear.ensures.items ∙ first_run (lower c.args.words.now) c.args.at)

pub loop-i-preserved : goal.loop-i-preserved
loop-i-preserved c = (omega arith, run_more (lower c.args.words.now) c.args.at c.loop-i.i c.loop-i.part.items c.push.new.self.items c.loop-i.invariant.0 c.loop-i.invariant.1 c.in_ok-push.ensures.items)

pub returns-clause-cut : goal.returns-clause-cut
returns-clause-cut c =
    let end = c.run_end-end.ensures in
    let run : IsRun c.args.words.now c.args.at c.run_end-end.result = record { more = end.more; within = end.within; same = end.same; next = end.next } in
    run_cut c.args.words.now c.args.at c.run_end-end.result c.requires.rising c.requires.cut run

pub returns-clause-some : goal.returns-clause-some
returns-clause-some c =
    let end = c.run_end-end.ensures in
    let run : IsRun c.args.words.now c.args.at c.run_end-end.result = record { more = end.more; within = end.within; same = end.same; next = end.next } in
    let all : c.loop-i.i ≡ c.run_end-end.result = omega arith in
    let is = c.loop-i.invariant.1 ∙ ap (λ n. map (lower c.args.words.now) (range_with_len c.args.at (n - c.args.at))) all in
    let P : List ℕ → Type 0 = λ l. 0 < length l in
    subst P (sym is) (run_some c.args.words.now c.args.at c.run_end-end.result c.requires.rising c.requires.cut run)

pub returns-clause-all : goal.returns-clause-all
returns-clause-all c =
    let end = c.run_end-end.ensures in
    let run : IsRun c.args.words.now c.args.at c.run_end-end.result = record { more = end.more; within = end.within; same = end.same; next = end.next } in
    let all : c.loop-i.i ≡ c.run_end-end.result = omega arith in
    let is = c.loop-i.invariant.1 ∙ ap (λ n. map (lower c.args.words.now) (range_with_len c.args.at (n - c.args.at))) all in
    let P : List ℕ → Type 0 = λ l. (x : ℕ) → x < 2 ^ 32 → Contains c.args.words.now (word (get_or c.args.words.now c.args.at 0 / 2 ^ 32) x) → Contains l x in
    subst P (sym is) (run_all c.args.words.now c.args.at c.run_end-end.result c.requires.rising c.requires.cut run)

pub returns-clause-only : goal.returns-clause-only
returns-clause-only c =
    let end = c.run_end-end.ensures in
    let run : IsRun c.args.words.now c.args.at c.run_end-end.result = record { more = end.more; within = end.within; same = end.same; next = end.next } in
    let all : c.loop-i.i ≡ c.run_end-end.result = omega arith in
    let is = c.loop-i.invariant.1 ∙ ap (λ n. map (lower c.args.words.now) (range_with_len c.args.at (n - c.args.at))) all in
    let P : List ℕ → Type 0 = λ l. (x : ℕ) → Contains l x → (x < 2 ^ 32) × Contains c.args.words.now (word (get_or c.args.words.now c.args.at 0 / 2 ^ 32) x) in
    subst P (sym is) (run_only c.args.words.now c.args.at c.run_end-end.result c.requires.rising c.requires.cut run)
