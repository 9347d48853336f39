use Rattle.std.proofs.Common.{◌≡◌, ◌<◌, ◌∙◌, ap, arith, length}
use Rattle.std.proofs.lemmas.List.{length-map}
use Rattle.lk_tables.specs.Files.{File, file_at, no_file}
use Rattle.lk_tables.specs.FileView.{file_view, file_views}
use Rattle.lk_tables.proofs.FirstNumbers.{file_read, first_more}
use Rattle.link_passes.proofs.heads.count_symbols.Goals as goal

pub loop-index-preserved : goal.loop-index-preserved
loop-index-preserved c =
    let files = file_views c.args.files.now in
    let i = c.loop-index.index in
    let lt : i < length files = omega (arith, length-map c.args.files.now file_view) in
    let view : file_view c.index-files-index.result ≡ file_at files i = file_read c.args.files.now i c.index-files-index.result (omega arith) c.index-files-index.is in
    let here : length c.symbols.result.now ≡ length (file_at files i).head.symbols = ap length c.symbols.ensures ∙ ap (λ (file : File). length file.head.symbols) view in
    let few = c.requires.few i no_file lt in
    record {
      total = omega (arith, here, first_more files i lt, c.loop-index.invariant.total);
      few = omega (arith, here, few, c.loop-index.invariant.few);
    }
