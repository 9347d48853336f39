use Rattle.std.proofs.Common.{◌<◌, length, arith}
use Rattle.std.proofs.lemmas.List.{length-map}
use Rattle.lk_tables.specs.FileView.{file_view, file_views}
use Rattle.file_live.specs.Pulls.{lists_of}
use Rattle.file_live.proofs.AnyOrder.{stands_anywhere}
use Rattle.file_live.proofs.order.prove_archives_stand_anywhere.Goals as goal

pub returns : goal.returns
returns c =
    let files = file_views c.args.files.now in
    let few : length files < 16777216 = omega (arith, c.requires.files, length-map c.args.files.now file_view) in
    stands_anywhere (lists_of c.args.undefined.now) files few c.requires.symbols
