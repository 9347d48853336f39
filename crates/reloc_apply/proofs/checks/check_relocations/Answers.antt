use Rattle.std.proofs.Common.{◌≡◌, ℕ, List, Result, Vec, Global, ◌+◌, ◌-◌, ◌≤◌, arith, ◌∙◌, ap, length, max, slice_index, flat_map, sym, subst}
use Rattle.std.specs.declared.ops.Range.{Range}
use Rattle.std.specs.List.{range_with_len}
use Rattle.lk_base.specs.Firsts.{Goes}
use Rattle.lk_base.specs.declared.defects.Defect.{Defect}
use Rattle.lk_base.specs.declared.defects.LinkStop.{LinkStop}
use Rattle.lk_tables.specs.Files.{section_total}
use Rattle.lk_tables.specs.Sites.{relocs_of}
use Rattle.link_sections.specs.Views.{binding_in, files_in, laid_in, leaders_in}
use Rattle.work_split.specs.Pieces.{Tiles}
use Rattle.work_split.proofs.Tiling.{tiles_within}
use Rattle.reloc_apply.specs.Relocated.{relocation_defects}
use Rattle.reloc_apply.proofs.JoinedChecks.{joined_checks}
use Rattle.reloc_apply.proofs.NumberWalks.{all_defects, first, given_at, last_is, own_defects}
use Rattle.reloc_apply.proofs.checks.check_relocations.Goals as goal

pub over_shares-checked-requires-clause-accepts : goal.over_shares-checked-requires-clause-accepts
over_shares-checked-requires-clause-accepts g c = λ κs bound w p lt at.
    let view = c.args.view.now in
    let n = section_total (files_in view) in
    let numbers = c.as_slice-firsts.result.now in
    let same = c.as_slice-firsts.ensures.value in
    let count : length numbers ≡ n + 1 = ap length same ∙ c.in_ok-numbers.ensures.count in
    let firsts : (k : ℕ) → k ≤ n → slice_index numbers k ≡ length (flat_map (relocs_of (files_in view)) (range_with_len 0 k)) =
    λ k le. ap (λ (l : List ℕ). slice_index l k) same ∙ c.in_ok-numbers.ensures.firsts k le in
    let end = max (slice_index numbers (length numbers - 1)) c.args.workers in
    let P : List (Range ℕ) → Type 0 = λ ps. Tiles 0 end ps in
    let tiles : Tiles 0 end c.as_slice.result.now = subst P (sym c.as_slice.ensures.value) c.in_ok-pieces.ensures.tiles in
    let within = tiles_within 0 end c.as_slice.result.now w p tiles lt at in
    (omega (arith, within.some), (count, firsts))

pub returns-in-Ok : goal.returns-in-Ok
returns-in-Ok g c =
    let view = c.args.view.now in
    let files = files_in view in
    let f : ℕ → ℕ → List Defect = own_defects files (binding_in view) (leaders_in view) (laid_in view) in
    let n = section_total files in
    let total = first (relocs_of files) f n in
    let numbers = c.as_slice-firsts.result.now in
    let same = c.as_slice-firsts.ensures.value in
    let count : length numbers ≡ n + 1 = ap length same ∙ c.in_ok-numbers.ensures.count in
    let last : slice_index numbers n ≡ total = ap (λ (l : List ℕ). slice_index l n) same ∙ c.in_ok-numbers.ensures.firsts n (omega arith) in
    let end = max (slice_index numbers (length numbers - 1)) c.args.workers in
    let P : List (Range ℕ) → Type 0 = λ ps. Tiles 0 end ps in
    let tiles : Tiles 0 end c.as_slice.result.now = subst P (sym c.as_slice.ensures.value) c.in_ok-pieces.ensures.tiles in
    let past : total ≤ end = omega (arith, last_is numbers n total count last) in
    let goes = joined_checks (given_at (relocs_of files) f n) _ end c.as_slice.result.now c.over_shares-checked.result (λ p s h. h.1) tiles c.over_shares-checked.ensures in
    let R : List Defect → Type 0 = λ ds. Goes c.over_shares-checked.result ds in
    let S : Result (Vec (Unit {0}) Global) LinkStop → Type 0 = λ r. Goes r (relocation_defects files (binding_in view) (leaders_in view) (laid_in view)) in
    subst S c.in-Ok.is (subst R (all_defects files (binding_in view) (leaders_in view) (laid_in view) end past) goes)

pub returns : goal.returns
returns g c =
    let view = c.args.view.now in
    let files = files_in view in
    let f : ℕ → ℕ → List Defect = own_defects files (binding_in view) (leaders_in view) (laid_in view) in
    let n = section_total files in
    let total = first (relocs_of files) f n in
    let numbers = c.as_slice-firsts.result.now in
    let same = c.as_slice-firsts.ensures.value in
    let count : length numbers ≡ n + 1 = ap length same ∙ c.in_ok-numbers.ensures.count in
    let last : slice_index numbers n ≡ total = ap (λ (l : List ℕ). slice_index l n) same ∙ c.in_ok-numbers.ensures.firsts n (omega arith) in
    let end = max (slice_index numbers (length numbers - 1)) c.args.workers in
    let P : List (Range ℕ) → Type 0 = λ ps. Tiles 0 end ps in
    let tiles : Tiles 0 end c.as_slice.result.now = subst P (sym c.as_slice.ensures.value) c.in_ok-pieces.ensures.tiles in
    let past : total ≤ end = omega (arith, last_is numbers n total count last) in
    let goes = joined_checks (given_at (relocs_of files) f n) _ end c.as_slice.result.now c.over_shares-checked.result (λ p s h. h.1) tiles c.over_shares-checked.ensures in
    let R : List Defect → Type 0 = λ ds. Goes c.over_shares-checked.result ds in
    let S : Result (Vec (Unit {0}) Global) LinkStop → Type 0 = λ r. Goes r (relocation_defects files (binding_in view) (leaders_in view) (laid_in view)) in
    subst S c.in-Err.is (subst R (all_defects files (binding_in view) (leaders_in view) (laid_in view) end past) goes)
