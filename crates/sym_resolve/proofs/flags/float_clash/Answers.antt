use Rattle.std.proofs.Common.{◌≡◌, ℕ, ◌+◌, ◌<◌, Option, length, sym, subst, arith}
use Rattle.lk_tables.specs.Binding.{flag_defects}
use Rattle.lk_tables.specs.TablesView.{files_of}
use Rattle.sym_resolve.proofs.FloatAbis.{clashes_after, abis_from, abis_all, dead_next, first_next, same_next, clash_first}
use Rattle.sym_resolve.proofs.flags.float_clash.Goals as goal
use Rattle.sym_resolve.proofs.flags.float_clash.Goals.{in-None, in-Some+else-own-abi}

pub loop-f-init : goal.loop-f-init
loop-f-init c = abis_all (files_of c.args.tables.now)

pub loop-f-preserved-then-not-is_live : goal.loop-f-preserved-then-not-is_live
loop-f-preserved-then-not-is_live c =
    let files = files_of c.args.tables.now in
    let lt : c.loop-f.f < length files = omega arith in
    dead_next files c.loop-f.first c.loop-f.f (flag_defects files) lt (sym c.if-not-is_live.ensures) c.loop-f.invariant

pub returns-then-own-abi : goal.returns-then-own-abi
returns-then-own-abi c =
    let files = files_of c.args.tables.now in
    let f = c.loop-f.f in
    let lt : f < length files = omega arith in
    let Q : Option ℕ → Type 0 = λ o. clashes_after o (abis_from files f) ≡ flag_defects files in
    clash_first files f c.float_abi-own.result c.in-Some.abi (flag_defects files) c.clash_of.result lt (sym c.if-not-is_live.ensures) c.float_abi-own.ensures c.clash_of.ensures (subst Q c.in-Some.is c.loop-f.invariant)

pub loop-f-preserved : goal.loop-f-preserved
loop-f-preserved c =
    let files = files_of c.args.tables.now in
    let f = c.loop-f.f in
    let own = c.float_abi-own.result in
    let lt : f < length files = omega arith in
    let Q : Option ℕ → Type 0 = λ o. clashes_after o (abis_from files f) ≡ flag_defects files in
    let P : Option ℕ → Type 0 = λ o. clashes_after o (abis_from files (f + 1)) ≡ flag_defects files in
    elim c.match-first.branch [
      | in-None w ↦ subst P (sym w.first-is) (first_next files f own (flag_defects files) lt (sym c.if-not-is_live.ensures) c.float_abi-own.ensures (subst Q w.in-None.is c.loop-f.invariant))
      | in-Some+else-own-abi w ↦ subst P (sym w.first-is) (same_next files f own w.in-Some.abi (flag_defects files) lt (sym c.if-not-is_live.ensures) c.float_abi-own.ensures w.if-own-abi.false (subst Q w.in-Some.is c.loop-f.invariant))
    ]
