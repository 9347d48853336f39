use Rattle.std.proofs.Common.{◌≡◌, ◌-◌, ◌<◌, ℕ, flat_map, length, ap, ◌∙◌, arith}
use Rattle.std.specs.List.{range_with_len}
use Rattle.std.proofs.lemmas.Result.{err_from_is_err_and}
use Rattle.lk_base.proofs.Loops.{collect_end, collect_step}
use Rattle.lk_tables.specs.Checks.{passes}
use Rattle.lk_tables.specs.FileHeader.{section_count}
use Rattle.lk_tables.specs.FileView.{file_view}
use Rattle.lk_tables.specs.Frames.{list_views}
use Rattle.lk_tables.proofs.Passing.{all_pass, fails_as, step_fails, step_passes}
use Rattle.eh_frame.specs.Sections.{all_frame_checks, section_frames}
use Rattle.eh_frame.proofs.HeadObject.{count_is}
use Rattle.link_passes.specs.Frames.{list_in, lists_in}
use Rattle.link_passes.specs.Sources.{with_body}
use Rattle.link_passes.proofs.records.read_records.Goals as goal

pub push_records-requires-clause-index : goal.push_records-requires-clause-index
push_records-requires-clause-index c = omega (arith, ap length c.sections.ensures)

pub returns-in_err-push_records-clause-checked : goal.returns-in_err-push_records-clause-checked
returns-in_err-push_records-clause-checked c =
    let file = file_view c.args.file.now in
    let b = file.bytes in
    let p = err_from_is_err_and c.from_residual.result c.from_residual.ensures.1 in
    let count = count_is b file.head c.requires.head in
    rw (p.1, p.2)
    (fails_as _ _ _ (λ flaw h.
    step_fails (section_frames b) c.loop-index.index (section_count b) (tt {0}) flaw (passes (all_frame_checks b)) (omega (arith, count, ap length c.sections.ensures)) c.loop-index.invariant.so_far h)
    c.in_err-push_records.ensures.checked)

pub loop-index-preserved : goal.loop-index-preserved
loop-index-preserved c =
    let file = file_view c.args.file.now in
    let b = file.bytes in
    let i : ℕ = c.loop-index.index in
    let n = length file.head.sections in
    let lt : i < n = omega (arith, ap length c.sections.ensures) in
    record {
      so_far = step_passes (section_frames b) i (section_count b) (tt {0}) (tt {0}) (passes (all_frame_checks b)) (omega (arith, lt, count_is b file.head c.requires.head))
          c.loop-index.invariant.so_far c.in_ok-push_records.ensures.checked;
      lists_are = collect_step (list_in (with_body file)) i n (list_views c.loop-index.lists.items) (list_views c.push_records.new.lists.items) _ lt
          c.loop-index.invariant.lists_are c.in_ok-push_records.ensures.lists;
    }

pub returns-clause-checked : goal.returns-clause-checked
returns-clause-checked c =
    let file = file_view c.args.file.now in
    let b = file.bytes in
    all_pass (section_frames b) c.loop-index.index (section_count b) (passes (all_frame_checks b))
    (omega (arith, count_is b file.head c.requires.head, ap length c.sections.ensures)) c.loop-index.invariant.so_far

pub returns-clause-lists : goal.returns-clause-lists
unfolding lists_in
returns-clause-lists c =
    let file = file_view c.args.file.now in
    let n = length file.head.sections in
    let all : n - 0 ≡ n = omega arith in
    collect_end (list_in (with_body file)) c.loop-index.index n (list_views c.loop-index.lists.items) _ (omega (arith, ap length c.sections.ensures)) c.loop-index.invariant.lists_are
    ∙ ap (λ (k : ℕ). flat_map (list_in (with_body file)) (range_with_len 0 k)) all
