use Rattle.std.proofs.Common.{◌≡◌, List, length, arith, sym, ap, refl, true, ◌∙◌, subst}
use Rattle.lk_tables.specs.declared.records.Record.{Record}
use Rattle.eh_frame.specs.RecordChecks.{is_bad_record}
use Rattle.eh_frame.proofs.Walk.{begun, walk_on, walk_fails, walk_ends, few_records, is_bad_from, read_from, smaller}
use Rattle.eh_frame.proofs.reading.read_records.Goals as goal

pub walk-init : goal.walk-init
walk-init c = begun c.args.section c.args.offset c.args.bytes.now c.args.relocs.now c.new-records.result.items c.new-records.ensures.items

pub read_record-requires-clause-few : goal.read_record-requires-clause-few
read_record-requires-clause-few c =
    let few = few_records c.args.section c.args.offset c.args.bytes.now c.args.relocs.now c.walk.at c.walk.records.items c.walk.invariant in
    omega (arith, few, ap length c.as_slice.ensures.value, c.requires.short)

pub returns-in_default : goal.returns-in_default
returns-in_default c =
    let b = c.args.bytes.now in
    let P : List Record → Type 0 = λ l. is_bad_record b c.args.relocs.now (length l) ≡ true in
    rw c.flaw.ensures (record {
      exact = walk_fails c.args.section c.args.offset b c.args.relocs.now c.walk.at c.walk.records.items c.walk.invariant (sym c.is_there.ensures ∙ c.walk-test.true)
          (subst P c.as_slice.ensures.value (is_bad_from (is_bad_record b c.args.relocs.now (length c.as_slice.result.now)) c.in_ok-found.found c.in_ok-found.ensures.sound c.in_default.is));
    })

pub walk-smaller : goal.walk-smaller
walk-smaller c =
    let read = read_from c.args.bytes.now c.args.relocs.now c.as_slice.result.now c.walk.records.items c.in_ok-found.found c.in-Some.record c.as_slice.ensures.value c.in-Some.is
    c.in_ok-found.ensures.sound c.in_ok-found.ensures.value c.in_ok-found.ensures.end c.in_ok-found.ensures.least in
    smaller c.args.section c.args.offset c.args.bytes.now c.args.relocs.now c.walk.at c.walk.records.items c.in-Some.record c.walk.invariant read

pub walk-preserved : goal.walk-preserved
walk-preserved c =
    let b = c.args.bytes.now in
    let relocs = c.args.relocs.now in
    let read = read_from b relocs c.as_slice.result.now c.walk.records.items c.in_ok-found.found c.in-Some.record c.as_slice.ensures.value c.in-Some.is
    c.in_ok-found.ensures.sound c.in_ok-found.ensures.value c.in_ok-found.ensures.end c.in_ok-found.ensures.least in
    walk_on c.args.section c.args.offset b relocs c.walk.at _ c.walk.records.items _ c.in-Some.record c.walk.invariant (sym c.is_there.ensures ∙ c.walk-test.true)
    read.sound read.value read.least read.end refl c.in_ok-push.ensures.items

pub returns : goal.returns
returns c = record {
  exact = walk_ends c.args.section c.args.offset c.args.bytes.now c.args.relocs.now c.walk.at c.walk.records.items c.walk.invariant
      (sym c.is_there.ensures ∙ c.walk-test.false);
}
