use Rattle.std.proofs.Common.{sym, subst}
use Rattle.link_sections.specs.declared.layouts.Bounds.{Bounds}
use Rattle.link_sections.specs.Views.{binding_in, files_in, laid_in, leaders_in}
use Rattle.elf_out.specs.Executable.{FrameContents, executable, file_with}
use Rattle.elf_out.specs.Standing.{FitFrames, HasHeaderRoom}
use Rattle.elf_out.specs.TablesView.{frame_contents, tables_in}
use Rattle.elf_out.proofs.Outputs.{bounds_are}
use Rattle.elf_out.proofs.Whole.{frames_stand, headers_stand, pieces_stand, sections_stand}
use Rattle.elf_out.proofs.standing.prove_file_stands.Goals as goal

pub returns-clause-sections : goal.returns-clause-sections
unfolding executable
returns-clause-sections c =
    let v = c.args.view.now in
    let frames : FrameContents = frame_contents c.args.frames.now in
    sections_stand (files_in v) (binding_in v) (leaders_in v) (laid_in v) (tables_in v)
    (file_with (files_in v) (binding_in v) (leaders_in v) (laid_in v) frames (tables_in v)) v.sound (pieces_stand v frames (tables_in v))

pub returns-clause-pieces : goal.returns-clause-pieces
unfolding executable
returns-clause-pieces c = pieces_stand c.args.view.now (frame_contents c.args.frames.now) (tables_in c.args.view.now)

pub returns-clause-frames : goal.returns-clause-frames
unfolding executable
returns-clause-frames c = λ fit.
    let v = c.args.view.now in
    let frames : FrameContents = frame_contents c.args.frames.now in
    let P : Bounds → Type 0 = λ b. FitFrames b frames in
    frames_stand v frames (tables_in v) (subst P (sym (bounds_are v)) fit)

pub returns-clause-headers : goal.returns-clause-headers
unfolding executable
returns-clause-headers c = λ room fit.
    let v = c.args.view.now in
    let frames : FrameContents = frame_contents c.args.frames.now in
    let P : Bounds → Type 0 = λ b. FitFrames b frames in
    headers_stand v frames (tables_in v) (subst P (sym (bounds_are v)) fit) (subst HasHeaderRoom (sym (bounds_are v)) room)
