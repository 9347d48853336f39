use Rattle.std.proofs.Common.{◌<◌, ◌+◌, length, ◌∙◌, arith}
use Rattle.std.proofs.lemmas.List.{length-map}
use Rattle.lk_tables.specs.FileView.{file_view, file_views}
use Rattle.lk_tables.specs.Files.{first_section}
use Rattle.lk_tables.proofs.ByNumber.{section_rows_all}
use Rattle.lk_tables.proofs.FirstNumbers.{first_at, length_firsts}
use Rattle.lk_tables.proofs.SectionFiles.{file_of, files_step}
use Rattle.lk_tables.proofs.starts.section_files.Goals as goal

pub bounds-firsts-files : goal.bounds-firsts-files
bounds-firsts-files c =
    let files = file_views c.args.files.now in
    omega (arith, length_firsts (first_section files) c.args.firsts.now (length c.args.files.now) c.requires.firsts)

pub bounds-firsts-f : goal.bounds-firsts-f
bounds-firsts-f c =
    let files = file_views c.args.files.now in
    omega (arith, length_firsts (first_section files) c.args.firsts.now (length c.args.files.now) c.requires.firsts)

pub loop-f-preserved : goal.loop-f-preserved
loop-f-preserved c =
    let files = file_views c.args.files.now in
    let n = length c.args.files.now in
    let few : c.loop-f.f < n = omega arith in
    let lt : c.loop-f.f < length files = omega (arith, length-map c.args.files.now file_view) in
    files_step files c.loop-f.f _ _ c.loop-f.owners.items c.resize.new.self.items lt
    (first_at (first_section files) c.args.firsts.now n (c.loop-f.f + 1) c.requires.firsts (omega arith))
    c.loop-f.owners.ok.0 c.loop-f.invariant c.in_ok-resize.ensures.items

pub returns : goal.returns
returns c =
    let files = file_views c.args.files.now in
    c.loop-f.invariant ∙ section_rows_all files file_of c.loop-f.f (omega (arith, length-map c.args.files.now file_view))
