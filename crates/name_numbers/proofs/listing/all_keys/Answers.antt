use Rattle.std.proofs.Common.{length, sym}
use Rattle.std.proofs.lemmas.List.{length-map}
use Rattle.lk_tables.specs.FileView.{file_view, file_views}
use Rattle.name_numbers.proofs.Columns.{firsts_all, keys_all}
use Rattle.name_numbers.proofs.listing.all_keys.Goals as goal

pub returns-clause-keys : goal.returns-clause-keys
returns-clause-keys c = keys_all (file_views c.args.files.now) (length c.args.files.now) c.in_ok-listed.listed (sym (length-map c.args.files.now file_view)) c.in_ok-listed.ensures

pub returns-clause-firsts : goal.returns-clause-firsts
returns-clause-firsts c = firsts_all (file_views c.args.files.now) (length c.args.files.now) c.in_ok-listed.listed (sym (length-map c.args.files.now file_view)) c.in_ok-listed.ensures
