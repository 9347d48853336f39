use Rattle.std.proofs.Common.{◌≡◌, ℕ, suc, ◌+◌, ◌<◌, ◌-◌, length, get_or, ap, ◌∙◌, arith}
use Rattle.std.proofs.lemmas.List.{length-map}
use Rattle.link_sections.specs.CutsView.{cut_view, cut_views}
use Rattle.link_sections.specs.Cuts.{new_offset}
use Rattle.reloc_apply.specs.Staying.{new_before, no_cut, old_before}
use Rattle.reloc_apply.specs.Sites.{no_held}
use Rattle.reloc_apply.proofs.CutViews.{cut_is}
use Rattle.reloc_apply.proofs.staying.ends_before.Goals as goal

pub overflow_add-result : goal.overflow_add-result
overflow_add-result c =
    let some = c.if-k-eq0.false in
    let lt : c.args.k - 1 < length c.args.cuts.now = omega (arith, c.requires.within) in
    let is = cut_is c.args.cuts.now (c.args.k - 1) c.requires.cuts lt in
    let a = is.at in
    let w = is.whole in
    let small = c.requires.small (c.args.k - 1) no_cut (omega (arith, length-map c.args.cuts.now cut_view)) in
    omega (arith, a, w, small)

pub overflow_add-result-2 : goal.overflow_add-result-2
overflow_add-result-2 c =
    let some = c.if-k-eq0.false in
    let lt : c.args.k - 1 < length c.args.cuts.now = omega (arith, c.requires.within) in
    let is = cut_is c.args.cuts.now (c.args.k - 1) c.requires.cuts lt in
    let a = is.at in
    let w = is.whole in
    let m = is.most in
    let l = is.low in
    let small = c.requires.small (c.args.k - 1) no_cut (omega (arith, length-map c.args.cuts.now cut_view)) in
    omega (arith, a, w, m, l, small)

pub returns-clause-old : goal.returns-clause-old
returns-clause-old c =
    let some = c.if-k-eq0.false in
    let j : ℕ = c.args.k - 1 in
    let cuts = c.args.cuts.now in
    let lt : j < length cuts = omega (arith, c.requires.within) in
    let is = cut_is cuts j c.requires.cuts lt in
    let a = is.at in
    let w = is.whole in
    let e : suc j ≡ c.args.k = omega arith in
    let own : (get_or cuts j no_held).at + (get_or cuts j no_held).whole ≡ old_before (cut_views cuts) (suc j) = omega (arith, a, w) in
    own ∙ ap (old_before (cut_views cuts)) e

pub returns-clause-new : goal.returns-clause-new
returns-clause-new c =
    let some = c.if-k-eq0.false in
    let j : ℕ = c.args.k - 1 in
    let cuts = c.args.cuts.now in
    let lt : j < length cuts = omega (arith, c.requires.within) in
    let is = cut_is cuts j c.requires.cuts lt in
    let n = is.new in
    let a = ap (new_offset (cut_views cuts)) is.at in
    let k = is.kept in
    let e : suc j ≡ c.args.k = omega arith in
    let own : (get_or cuts j no_held).new_at + (get_or cuts j no_held).kept ≡ new_before (cut_views cuts) (suc j) = omega (arith, n, a, k) in
    own ∙ ap (new_before (cut_views cuts)) e
