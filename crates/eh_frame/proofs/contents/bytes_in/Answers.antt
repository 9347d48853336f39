use Rattle.std.proofs.Common.{List, length, sym, ap, ◌∙◌, subst, arith}
use Rattle.std.specs.List.{All}
use Rattle.lk_tables.specs.Frames.{lists_of}
use Rattle.link_sections.specs.Views.{binding_in, files_in, laid_in, leaders_in}
use Rattle.eh_frame.specs.declared.placing.Placed.{Placed}
use Rattle.eh_frame.specs.Bytes.{IsKnown}
use Rattle.eh_frame.proofs.RecordRuns.{part_all, part_length}
use Rattle.eh_frame.proofs.SharedBytes.{bytes_made}
use Rattle.eh_frame.proofs.contents.bytes_in.Goals as goal

pub push_fdes-requires-clause-known : goal.push_fdes-requires-clause-known
push_fdes-requires-clause-known c =
    let Known : Placed → Type 0 = λ (p : Placed). IsKnown (files_in c.args.view.now) (lists_of c.args.frames.now) p.number in
    let P : List Placed → Type 0 = λ l. All Known l in
    subst P (sym c.run_of-own.ensures) (part_all Known c.args.fdes.now c.args.piece.start c.args.piece.end c.requires.known_fdes)

pub push_fdes-requires-clause-count : goal.push_fdes-requires-clause-count
push_fdes-requires-clause-count c =
    let a = c.args.piece.start in
    let e = c.args.piece.end in
    let some = c.requires.some in
    let within = c.requires.within in
    let same = c.requires.count in
    ap length c.run_of-own_uses.ensures ∙ part_length c.args.uses.now a e (omega (arith, some)) (omega (arith, within, same))
    ∙ sym (ap length c.run_of-own.ensures ∙ part_length c.args.fdes.now a e (omega (arith, some)) within)

pub returns : goal.returns
returns c =
    bytes_made (files_in c.args.view.now) (binding_in c.args.view.now) (leaders_in c.args.view.now) (laid_in c.args.view.now) (lists_of c.args.frames.now) c.args.start
    c.args.cies.now c.args.fdes.now c.args.uses.now c.args.piece.start c.args.piece.end c.run_of-own.result.now c.run_of-own_uses.result.now
    c.in_ok-out.out.items c.push_first.new.out.items c.push_fdes.new.out.items
    c.requires.some c.requires.within c.requires.count c.run_of-own.ensures c.run_of-own_uses.ensures c.in_ok-out.ensures.items c.in_ok-push_first.ensures c.in_ok-push_fdes.ensures
