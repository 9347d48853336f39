use Rattle.std.proofs.Common.{◌≡◌, ◌<◌, ◌+◌, length, map, ap, ◌∙◌, arith}
use Rattle.std.specs.List.{range_with_len}
use Rattle.std.proofs.lemmas.List.{length-map}
use Rattle.lk_tables.specs.FileView.{file_view, file_views}
use Rattle.lk_tables.specs.Files.{file_at, first_section, section_count}
use Rattle.lk_tables.proofs.FirstNumbers.{file_read, section_more, section_within, next_start}
use Rattle.lk_tables.proofs.starts.first_sections.Goals as goal

pub overflow_cast-total : goal.overflow_cast-total
overflow_cast-total c =
    let files = file_views c.args.files.now in
    let few : c.loop-f.f < length c.args.files.now = omega arith in
    let lt : c.loop-f.f < length files = omega (arith, length-map c.args.files.now file_view) in
    let own : c.section_count.result ≡ section_count (file_at files c.loop-f.f) =
    c.section_count.ensures ∙ ap section_count (file_read c.args.files.now c.loop-f.f c.index-files-f.result few c.index-files-f.is) in
    let total = c.loop-f.invariant.total in
    let most = c.requires in
    omega (arith, section_within files c.loop-f.f lt)

pub overflow_add-total : goal.overflow_add-total
overflow_add-total c =
    let files = file_views c.args.files.now in
    let few : c.loop-f.f < length c.args.files.now = omega arith in
    let lt : c.loop-f.f < length files = omega (arith, length-map c.args.files.now file_view) in
    let own : c.section_count.result ≡ section_count (file_at files c.loop-f.f) =
    c.section_count.ensures ∙ ap section_count (file_read c.args.files.now c.loop-f.f c.index-files-f.result few c.index-files-f.is) in
    let total = c.loop-f.invariant.total in
    let most = c.requires in
    omega (arith, section_within files c.loop-f.f lt)

pub loop-f-preserved : goal.loop-f-preserved
loop-f-preserved c =
    let files = file_views c.args.files.now in
    let few : c.loop-f.f < length c.args.files.now = omega arith in
    let lt : c.loop-f.f < length files = omega (arith, length-map c.args.files.now file_view) in
    let own : c.section_count.result ≡ section_count (file_at files c.loop-f.f) =
    c.section_count.ensures ∙ ap section_count (file_read c.args.files.now c.loop-f.f c.index-files-f.result few c.index-files-f.is) in
    let total = c.loop-f.invariant.total in
    let most = c.requires in
    record {
      listed = next_start (first_section files) c.loop-f.firsts.items c.push.new.self.items c.loop-f.f c.loop-f.total c.loop-f.invariant.listed c.in_ok-push.ensures.items total;
      total = omega (arith, section_more files c.loop-f.f lt);
    }

pub returns : goal.returns
returns c =
    let files = file_views c.args.files.now in
    let all : c.loop-f.f ≡ length c.args.files.now = omega arith in
    next_start (first_section files) c.loop-f.firsts.items c.push-2.new.self.items c.loop-f.f c.loop-f.total c.loop-f.invariant.listed c.in_ok-push-2.ensures.items c.loop-f.invariant.total
    ∙ ap (λ k. map (first_section files) (range_with_len 0 (k + 1))) all
