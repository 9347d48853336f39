use Rattle.std.proofs.Common.{◌≡◌, ℕ, List, [], ◌++◌, length, ap, ◌∙◌, arith}
use Rattle.std.specs.Prelude.{flat_map}
use Rattle.std.specs.List.{range_with_len}
use Rattle.std.proofs.lemmas.List.{length-map}
use Rattle.lk_tables.specs.FileView.{file_view, file_views}
use Rattle.lk_tables.specs.Files.{file_at}
use Rattle.lk_tables.proofs.FirstNumbers.{file_read}
use Rattle.name_numbers.proofs.Walks.{walk_more}
use Rattle.comdat.specs.Comdats.{comdat_views}
use Rattle.comdat.specs.Discarded.{Comdat, comdats, comdats_in}
use Rattle.comdat.proofs.groups.comdats_of.Goals as goal

pub loop-f-preserved : goal.loop-f-preserved
loop-f-preserved c =
    let lent = c.args.files.now in
    let files = file_views lent in
    let f = c.loop-f.f in
    let old = comdat_views c.loop-f.list.items in
    let give : ℕ → List Comdat = λ i. comdats_in (file_at files i) i in
    walk_more give [] old (comdat_views c.push_comdats.new.list.items) f c.loop-f.invariant
    (c.in_ok-push_comdats.ensures ∙ ap (λ x. old ++ comdats_in x f) (file_read lent f c.index-files-f.result c.loop-f-test.true c.index-files-f.is))

pub returns : goal.returns
unfolding comdats
returns c =
    let files = file_views c.args.files.now in
    let all : c.loop-f.f ≡ length files = omega (arith, length-map c.args.files.now file_view) in
    c.loop-f.invariant ∙ ap (λ n. flat_map (λ i. comdats_in (file_at files i) i) (range_with_len 0 n)) all
