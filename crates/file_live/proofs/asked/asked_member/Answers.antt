use Rattle.std.proofs.Common.{◌∙◌, ap}
use Rattle.std.specs.Prelude.{option_to_list}
use Rattle.lk_tables.specs.FileView.{file_views}
use Rattle.file_live.specs.Pulls.{member_for}
use Rattle.file_live.proofs.Asking.{name_read}
use Rattle.file_live.proofs.asked.asked_member.Goals as goal

pub returns : goal.returns
returns c =
    let files = file_views c.args.files.now in
    let read = name_read c.args.undefined.now c.args.n c.index-undefined-n.result c.requires.name c.index-undefined-n.is in
    ap option_to_list (c.member_for.ensures ∙ ap (member_for files) (c.as_slice.ensures.value ∙ read))
