use Rattle.std.proofs.Common.{◌∙◌, [], ap, map, arith}
use Rattle.std.specs.Prelude.{fold}
use Rattle.std.proofs.lemmas.List.{take_all}
use Rattle.lk_tables.specs.Frames.{frame_no, lists_of}
use Rattle.sec_graph.specs.FrameKeys.{number_of, numbers_of}
use Rattle.sec_graph.specs.FrameRelocs.{cie_no, cies_of, with_no}
use Rattle.sec_graph.proofs.FoundRecords.{inserted, more_cies}
use Rattle.sec_graph.proofs.frame_relocs.cies_of.Goals as goal

pub loop-i-preserved : goal.loop-i-preserved
loop-i-preserved c =
    let lists = lists_of c.args.frames.now in
    let old = c.loop-i.cies in
    let cie = c.cie_of-cie.result in
    ap (map number_of) c.in_ok-insert.ensures.keys ∙ inserted (cie.section, cie.at) old.keys
    ∙ ap (with_no (numbers_of old)) c.cie_of-cie.ensures
    ∙ more_cies lists c.args.fdes.now c.loop-i.i (frame_no 0 0) (numbers_of old) c.loop-i-test.true c.loop-i.invariant

pub returns : goal.returns
unfolding cies_of
returns c =
    c.loop-i.invariant
    ∙ ap (λ l. fold with_no [] (map (cie_no (lists_of c.args.frames.now)) l)) (take_all c.loop-i.i c.args.fdes.now (omega (arith, c.loop-i-test.false)))
