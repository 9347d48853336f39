use Rattle.std.proofs.Common.{arith}
use Rattle.link_sections.specs.Views.{files_in}
use Rattle.map_file.specs.Left.{left_line}
use Rattle.map_file.proofs.Walks.{file_step}
use Rattle.map_file.proofs.left.push_left.Goals as goal

pub loop-file-preserved : goal.loop-file-preserved
loop-file-preserved c =
    let v = c.args.view.now in
    file_step (files_in v) (left_line v c.args.left) c.loop-file.file c.args.text.now.items c.loop-file.text.items c.push_left_in.new.text.items
    (omega (arith, c.loop-file-test.true, c.file_count-file-end.ensures)) c.loop-file.invariant c.in_ok-push_left_in.ensures
