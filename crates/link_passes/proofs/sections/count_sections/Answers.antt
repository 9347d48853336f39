use Rattle.std.proofs.Common.{◌≡◌, ◌<◌, ◌∙◌, ap, sym, arith, length, Bool, None}
use Rattle.std.specs.Prelude.{if◌then◌else◌, is_some, slice_index_or}
use Rattle.std.proofs.lemmas.List.{get_or_default, length-map}
use Rattle.lk_tables.specs.Files.{File, file_at, first_section, section_count}
use Rattle.lk_tables.specs.FileView.{file_view, file_views}
use Rattle.lk_tables.specs.Gathering.{with_objects}
use Rattle.lk_tables.proofs.ByNumber.{file_at_with_objects, length_with_objects}
use Rattle.lk_tables.proofs.FirstNumbers.{file_read, section_more}
use Rattle.link_passes.specs.Counts.{count_of}
use Rattle.link_passes.proofs.Totals.{few_counted}
use Rattle.link_passes.proofs.sections.count_sections.Goals as goal

pub loop-f-preserved : goal.loop-f-preserved
loop-f-preserved c =
    let files = file_views c.args.files.now in
    let objects = c.args.objects.now in
    let all = with_objects files objects in
    let f = c.loop-f.f in
    let lt : f < length files = omega (arith, length-map c.args.files.now file_view) in
    let view : file_view c.index-files-f.result ≡ file_at files f = file_read c.args.files.now f c.index-files-f.result (omega arith) c.index-files-f.is in
    let some : c.is_some.result ≡ is_some (slice_index_or objects f None) =
    c.is_some.ensures ∙ ap is_some (c.index-objects-f.is ∙ get_or_default objects f c.index-objects-f.result None (omega arith)) in
    let counted : c.count_file-total.result ≡ (if is_some (slice_index_or objects f None) then count_of (file_at files f) else 0) =
    c.count_file-total.ensures ∙ ap (λ (t : Bool). if t then count_of (file_view c.index-files-f.result) else 0) some
    ∙ ap (λ (file : File). if is_some (slice_index_or objects f None) then count_of file else 0) view in
    let here : c.count_file-total.result ≡ section_count (file_at all f) = counted ∙ sym (ap section_count (file_at_with_objects files objects f lt)) in
    let more = section_more all f (omega (arith, lt, length_with_objects files objects)) in
    let few = few_counted (is_some (slice_index_or objects f None)) (count_of (file_at files f)) (c.requires.few f (omega arith)) in
    record {
      total = omega (arith, here, more, c.loop-f.invariant.total);
      few = omega (arith, counted, few, c.loop-f.invariant.few);
    }

pub returns : goal.returns
returns c =
    let files = file_views c.args.files.now in
    let objects = c.args.objects.now in
    let end : c.loop-f.f ≡ length (with_objects files objects) = omega (arith, length-map c.args.files.now file_view, length_with_objects files objects) in
    c.loop-f.invariant.total ∙ ap (first_section (with_objects files objects)) end
