use Rattle.std.proofs.Common.{List, flat_map, sym, ap, ◌∙◌, subst}
use Rattle.std.specs.List.{All}
use Rattle.lk_tables.specs.Frames.{lists_of}
use Rattle.link_sections.specs.Views.{binding_in, files_in, laid_in, leaders_in}
use Rattle.eh_frame.specs.declared.placing.Placed.{Placed}
use Rattle.eh_frame.specs.Bytes.{IsKnown, placed_defects}
use Rattle.eh_frame.proofs.RecordRuns.{part_all}
use Rattle.eh_frame.proofs.checking.check_run.Goals as goal

pub first_in-requires-clause-known : goal.first_in-requires-clause-known
first_in-requires-clause-known c =
    let Known : Placed → Type 0 = λ (p : Placed). IsKnown (files_in c.args.view.now) (lists_of c.args.frames.now) p.number in
    let P : List Placed → Type 0 = λ l. All Known l in
    subst P (sym c.run_of-own.ensures) (part_all Known c.args.placed.now c.args.piece.start c.args.piece.end c.requires.known)

pub returns : goal.returns
returns c = ap (flat_map (placed_defects (files_in c.args.view.now) (binding_in c.args.view.now) (leaders_in c.args.view.now) (laid_in c.args.view.now) (lists_of c.args.frames.now) c.args.start)) (sym c.run_of-own.ensures) ∙ c.in_default.ensures
