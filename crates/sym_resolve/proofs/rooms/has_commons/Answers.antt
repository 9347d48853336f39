use Rattle.std.proofs.Common.{◌≡◌, [], length, sym, ap, ◌∙◌, arith}
use Rattle.std.specs.Prelude.{flat_map}
use Rattle.std.specs.List.{range_with_len}
use Rattle.lk_tables.specs.Binding.{demand_at, demands, demands_in}
use Rattle.lk_tables.specs.TablesView.{files_of}
use Rattle.sym_resolve.specs.Symbols.{in_file}
use Rattle.sym_resolve.proofs.Claiming.{demand_none}
use Rattle.sym_resolve.proofs.CommonNumbers.{none_common}
use Rattle.name_numbers.proofs.Walks.{walk_skip}
use Rattle.sym_resolve.proofs.rooms.has_commons.Goals as goal

pub loop-f-preserved : goal.loop-f-preserved
loop-f-preserved c =
    let files = files_of c.args.tables.now in
    let f = c.loop-f.f in
    let none = none_common files (demand_at files) f (λ i is. demand_none files f i is) (sym c.common_count.ensures ∙ c.if-common_count-ne0.false) in
    sym (walk_skip (in_file files (demand_at files)) [] [] f (sym c.loop-f.invariant) none)

pub returns : goal.returns
unfolding demands demands_in
returns c = λ _.
    let files = files_of c.args.tables.now in
    let all : c.loop-f.f ≡ length files = omega arith in
    ap (λ k. flat_map (in_file files (demand_at files)) (range_with_len 0 k)) (sym all) ∙ c.loop-f.invariant
