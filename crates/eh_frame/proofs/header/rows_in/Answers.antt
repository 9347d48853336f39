use Rattle.std.proofs.Common.{◌++◌, List, map, sym, ap, ◌∙◌, subst}
use Rattle.std.specs.List.{All}
use Rattle.lk_tables.specs.Frames.{lists_of}
use Rattle.link_sections.specs.Views.{binding_in, files_in, laid_in, leaders_in}
use Rattle.eh_frame.specs.declared.header.Row.{Row}
use Rattle.eh_frame.specs.declared.placing.Placed.{Placed}
use Rattle.eh_frame.specs.Bytes.{IsKnown}
use Rattle.eh_frame.specs.Header.{row_of}
use Rattle.eh_frame.proofs.RecordRuns.{part_all}
use Rattle.eh_frame.proofs.header.rows_in.Goals as goal

pub push_all-requires-clause-known : goal.push_all-requires-clause-known
push_all-requires-clause-known c =
    let Known : Placed → Type 0 = λ (p : Placed). IsKnown (files_in c.args.view.now) (lists_of c.args.frames.now) p.number in
    let P : List Placed → Type 0 = λ l. All Known l in
    subst P (sym c.run_of-own.ensures) (part_all Known c.args.fdes.now c.args.piece.start c.args.piece.end c.requires.known)

pub returns : goal.returns
returns c =
    let row : Placed → Row = row_of (files_in c.args.view.now) (binding_in c.args.view.now) (leaders_in c.args.view.now) (laid_in c.args.view.now) (lists_of c.args.frames.now) c.args.starts.header c.args.starts.frames in
    c.in_ok-push_all.ensures ∙ ap (λ (l : List Row). l ++ map row c.run_of-own.result.now) c.in_ok-rows.ensures.items ∙ ap (map row) c.run_of-own.ensures
