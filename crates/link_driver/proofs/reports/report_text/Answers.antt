use Rattle.std.proofs.Common.{◌≡◌, ℕ, List, ◌++◌, ◌∷◌, [], ap, ◌∙◌}
use Rattle.std.specs.Prelude.{codes}
use Rattle.link_sections.specs.LaidOut.{layout_view, with_contents}
use Rattle.link_sections.specs.Views.{files_in, laid_in, leaders_in}
use Rattle.link_driver.specs.Reports.{counted, folded_count, image_size, kept_count, piece_total, relaxed_count, report_text}
use Rattle.link_driver.proofs.Counting.{joined}
use Rattle.link_driver.proofs.reports.report_text.Goals as goal

-- a word and a number, once the number is known
with_number : (text : List ℕ) (word : List ℕ) (n m : ℕ) (new : List ℕ) → new ≡ text ++ counted word n → n ≡ m → new ≡ text ++ counted word m
with_number text word n m new is same = is ∙ ap (λ k. text ++ counted word k) same

pub returns : goal.returns
unfolding report_text with_contents layout_view
returns c =
    let view = c.args.view.now in
    let laid = laid_in view in
    let t1 = c.push_count.new.text.items in
    let t2 = c.push_count-2.new.text.items in
    let t3 = c.push_count-3.new.text.items in
    let t4 = c.push_count-4.new.text.items in
    let t5 = c.push_count-5.new.text.items in
    let t6 = c.push_count-6.new.text.items in
    joined (counted (codes "objects ") c.args.objects) (counted (codes " kept ") (kept_count view.kept.now)) (counted (codes " folded ") (folded_count (leaders_in view)))
    (counted (codes " relaxed ") (relaxed_count (files_in view) laid)) (counted (codes " pieces ") (piece_total laid)) (counted (codes " image ") (image_size laid)) (10 ∷ [])
    c.new-text.result.items t1 t2 t3 t4 t5 t6 c.push.new.self.items
    c.new-text.ensures.items
    c.in_ok-push_count.ensures
    (with_number t1 (codes " kept ") c.kept_count.result (kept_count view.kept.now) t2 c.in_ok-push_count-2.ensures c.kept_count.ensures)
    (with_number t2 (codes " folded ") c.folded_count.result (folded_count (leaders_in view)) t3 c.in_ok-push_count-3.ensures c.folded_count.ensures)
    (with_number t3 (codes " relaxed ") c.relaxed_count.result (relaxed_count (files_in view) laid) t4 c.in_ok-push_count-4.ensures c.relaxed_count.ensures)
    (with_number t4 (codes " pieces ") c.piece_total.result (piece_total laid) t5 c.in_ok-push_count-5.ensures c.piece_total.ensures)
    (with_number t5 (codes " image ") c.saturating_sub-image.result (image_size laid) t6 c.in_ok-push_count-6.ensures c.saturating_sub-image.ensures)
    c.in_ok-push.ensures.items
