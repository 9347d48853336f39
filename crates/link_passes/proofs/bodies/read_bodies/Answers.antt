use Rattle.std.proofs.Common.{◌≡◌, ◌∙◌, ◌<◌, ◌^◌, ℕ, List, Option, None, Ok, [], ap, sym, subst, true, arith, length, map, flat_map}
use Rattle.std.specs.Prelude.{is_some, slice_index_or}
use Rattle.std.specs.List.{range_with_len}
use Rattle.std.proofs.lemmas.List.{length-map}
use Rattle.lk_base.specs.Defects.{count_defects}
use Rattle.lk_base.specs.Firsts.{BeginsWith}
use Rattle.lk_tables.specs.declared.objects.Object.{Object}
use Rattle.lk_tables.specs.Files.{File, file_at, section_total}
use Rattle.lk_tables.specs.FileView.{file_view, file_views}
use Rattle.lk_tables.specs.Gathering.{AreBodies, with_objects}
use Rattle.lk_tables.specs.TablesView.{files_of}
use Rattle.lk_tables.proofs.SoundFiles.{sound_file}
use Rattle.work_split.specs.Shares.{EachFrom}
use Rattle.work_split.proofs.Sharing.{each_rises, whole_goes}
use Rattle.link_command.specs.Command.{lists_of}
use Rattle.link_passes.specs.Contents.{source_view, sources_of}
use Rattle.link_passes.specs.Counts.{count_of}
use Rattle.link_passes.specs.Defects.{body_defects_at, opening_defects}
use Rattle.link_passes.specs.Reading.{IsBodyAt}
use Rattle.link_passes.specs.Sources.{files_in, headed, heads_in, live_in}
use Rattle.link_passes.proofs.EachBody.{IsObjectAt, objects_from, records_are, records_sound}
use Rattle.link_passes.proofs.RecordLists.{lists_plain, lists_within}
use Rattle.link_passes.proofs.Opened.{are_bodies, each_few, how_many, how_many_live, same_defects, with_bodies}
use Rattle.link_passes.proofs.Totals.{both_parts, second_part}
use Rattle.link_passes.proofs.bodies.read_bodies.Goals as goal
use Rattle.link_passes.proofs.bodies.read_bodies.Goals.{In_ok-parts, In_ok-tables}

-- the objects of all files, as they were read
each_object : (g : _) (c : In_ok-parts g) → EachFrom (IsObjectAt (sources_of c.args.sources.now) c.args.live.now) 0 (length (sources_of c.args.sources.now)) c.in_ok-parts.parts.0.items
each_object g c =
    let ss = sources_of c.args.sources.now in
    let n : length c.args.sources.now ≡ length ss = sym (length-map c.args.sources.now source_view) in
    let live = c.args.live.now in
    let To : ℕ → Type 0 = λ k. EachFrom (IsBodyAt ss live) 0 k c.in_ok-bodies.bodies.items in
    let Of : List (Option Object) → Type 0 = λ l. EachFrom (IsObjectAt ss live) 0 (length ss) l in
    subst Of (sym c.in_ok-parts.ensures.objects) (objects_from ss live 0 (length ss) c.in_ok-bodies.bodies.items (subst To n c.in_ok-bodies.ensures.share.each))

-- no body has a defect
none_in_bodies : (g : _) (c : In_ok-parts g) → flat_map (body_defects_at (sources_of c.args.sources.now) (live_in (lists_of c.args.undefined.now) (sources_of c.args.sources.now))) (range_with_len 0 (length (sources_of c.args.sources.now))) ≡ []
none_in_bodies g c =
    let ss = sources_of c.args.sources.now in
    let n : length c.args.sources.now ≡ length ss = sym (length-map c.args.sources.now source_view) in
    sym (same_defects (lists_of c.args.undefined.now) ss c.args.live.now (length c.args.sources.now) n c.requires.live)
    ∙ whole_goes (body_defects_at ss c.args.live.now) (IsBodyAt ss c.args.live.now) (length c.args.sources.now) (Ok c.in_ok-bodies.bodies) c.in_ok-bodies.ensures.share

-- the files with these bodies are those of the definition
files_are : (g : _) (c : In_ok-tables g) → EachFrom (IsObjectAt (sources_of c.args.sources.now) c.args.live.now) 0 (length (sources_of c.args.sources.now)) c.in_ok-parts.parts.0.items
    → files_of c.in_ok-tables.tables ≡ files_in (lists_of c.args.undefined.now) (sources_of c.args.sources.now)
files_are g c each =
    c.in_ok-tables.ensures.files ∙ ap (λ (l : List File). with_objects l c.in_ok-parts.parts.0.items) (c.read_numbered.ensures.same ∙ c.requires.heads_are)
    ∙ with_bodies (sources_of c.args.sources.now) c.args.live.now c.in_ok-parts.parts.0.items each (lists_of c.args.undefined.now) c.requires.live

pub read_numbered-requires-clause-files : goal.read_numbered-requires-clause-files
unfolding heads_in
read_numbered-requires-clause-files g c κs within =
    let ss = sources_of c.args.sources.now in
    let n : length c.args.sources.now ≡ length ss = sym (length-map c.args.sources.now source_view) in
    c.requires.heads_are ∙ ap (λ k. map (headed ss) (range_with_len 0 k)) (sym n)

pub read_numbered-requires-clause-live : goal.read_numbered-requires-clause-live
read_numbered-requires-clause-live g c κs within =
    let ss = sources_of c.args.sources.now in
    let undefined = lists_of c.args.undefined.now in
    let n : length c.args.sources.now ≡ length ss = sym (length-map c.args.sources.now source_view) in
    ap length c.requires.live ∙ how_many_live undefined ss ∙ sym n

pub read_numbered-requires-clause-few : goal.read_numbered-requires-clause-few
read_numbered-requires-clause-few g c κs within =
    let ss = sources_of c.args.sources.now in
    let n : length c.args.sources.now ≡ length ss = sym (length-map c.args.sources.now source_view) in
    let few = c.args.heads.few in
    omega (arith, few, n, how_many ss, ap length c.requires.heads_are, length-map c.args.heads.files.items file_view)

pub count_sections-count-requires-clause-each : goal.count_sections-count-requires-clause-each
count_sections-count-requires-clause-each g c =
    let ss = sources_of c.args.sources.now in
    let live = c.args.live.now in
    let each = each_object g (goal.at.count_sections-count-requires-clause-each g c).In_ok-parts in
    let objects : c.as_slice.result.now ≡ c.in_ok-parts.parts.0.items = c.as_slice.ensures.value in
    let files : file_views c.files.result.now ≡ heads_in ss = c.files.ensures ∙ c.read_numbered.ensures.same ∙ c.requires.heads_are in
    omega (arith, ap length objects, ap length files, how_many ss, length-map c.files.result.now file_view, each_rises (IsObjectAt ss live) 0 (length ss) c.in_ok-parts.parts.0.items each)

pub count_sections-count-requires-clause-few : goal.count_sections-count-requires-clause-few
count_sections-count-requires-clause-few g c = λ f lt.
    let ss = sources_of c.args.sources.now in
    let live = c.args.live.now in
    let each = each_object g (goal.at.count_sections-count-requires-clause-few g c).In_ok-parts in
    let objects : c.as_slice.result.now ≡ c.in_ok-parts.parts.0.items = c.as_slice.ensures.value in
    let files : file_views c.files.result.now ≡ heads_in ss = c.files.ensures ∙ c.read_numbered.ensures.same ∙ c.requires.heads_are in
    let P : List (Option Object) → Type 0 = λ l. is_some (slice_index_or l f None) ≡ true → count_of (file_at (file_views c.files.result.now) f) < 2 ^ 28 in
    let Q : List File → Type 0 = λ l. is_some (slice_index_or c.in_ok-parts.parts.0.items f None) ≡ true → count_of (file_at l f) < 2 ^ 28 in
    let room : f < length (heads_in ss) = omega (arith, lt, ap length files, length-map c.files.result.now file_view) in
    subst P (sym objects) (subst Q (sym files) (each_few ss live c.in_ok-parts.parts.0.items each f room))

pub returns-in-Err-clause-goes : goal.returns-in-Err-clause-goes
unfolding opening_defects
returns-in-Err-clause-goes g c =
    let ss = sources_of c.args.sources.now in
    let undefined = lists_of c.args.undefined.now in
    let live = c.args.live.now in
    let each = each_object g (goal.at.returns-in-Err-clause-goes g c).In_ok-parts in
    let objects : c.as_slice.result.now ≡ c.in_ok-parts.parts.0.items = c.as_slice.ensures.value in
    let files : file_views c.files.result.now ≡ heads_in ss = c.files.ensures ∙ c.read_numbered.ensures.same ∙ c.requires.heads_are in
    let goes = none_in_bodies g (goal.at.returns-in-Err-clause-goes g c).In_ok-parts in
    let total : c.count_sections-count.result ≡ section_total (files_in undefined ss) =
    c.count_sections-count.ensures
    ∙ ap (λ (l : List File). section_total (with_objects l c.as_slice.result.now)) files
    ∙ ap (λ (l : List (Option Object)). section_total (with_objects (heads_in ss) l)) objects
    ∙ ap section_total (with_bodies ss live c.in_ok-parts.parts.0.items each undefined c.requires.live) in
    let P : ℕ → Type 0 = λ m. BeginsWith (count_defects c.args.limits.now.sections m) c.in-Err.defect in
    second_part _ (count_defects c.args.limits.now.sections (section_total (files_in undefined ss))) c.in-Err.defect goes (subst P total c.in-Err.ensures)

pub of-requires-clause-each : goal.of-requires-clause-each
of-requires-clause-each g c =
    let ss = sources_of c.args.sources.now in
    let live = c.args.live.now in
    let each = each_object g (goal.at.of-requires-clause-each g c).In_ok-parts in
    omega (arith, ap length (c.read_numbered.ensures.same ∙ c.requires.heads_are), how_many ss, each_rises (IsObjectAt ss live) 0 (length ss) c.in_ok-parts.parts.0.items each)

pub of-requires-clause-bodies : goal.of-requires-clause-bodies
of-requires-clause-bodies g c =
    let ss = sources_of c.args.sources.now in
    let live = c.args.live.now in
    let each = each_object g (goal.at.of-requires-clause-bodies g c).In_ok-parts in
    let P : List File → Type 0 = λ l. AreBodies l c.in_ok-parts.parts.0.items in
    subst P (sym (c.read_numbered.ensures.same ∙ c.requires.heads_are)) (are_bodies ss live c.in_ok-parts.parts.0.items each)

pub returns-clause-goes : goal.returns-clause-goes
unfolding opening_defects
returns-clause-goes g c =
    let ss = sources_of c.args.sources.now in
    let undefined = lists_of c.args.undefined.now in
    let live = c.args.live.now in
    let each = each_object g (goal.at.returns-clause-goes g c).In_ok-parts in
    let objects : c.as_slice.result.now ≡ c.in_ok-parts.parts.0.items = c.as_slice.ensures.value in
    let files : file_views c.files.result.now ≡ heads_in ss = c.files.ensures ∙ c.read_numbered.ensures.same ∙ c.requires.heads_are in
    let goes = none_in_bodies g (goal.at.returns-clause-goes g c).In_ok-parts in
    let total : c.count_sections-count.result ≡ section_total (files_in undefined ss) =
    c.count_sections-count.ensures
    ∙ ap (λ (l : List File). section_total (with_objects l c.as_slice.result.now)) files
    ∙ ap (λ (l : List (Option Object)). section_total (with_objects (heads_in ss) l)) objects
    ∙ ap section_total (with_bodies ss live c.in_ok-parts.parts.0.items each undefined c.requires.live) in
    both_parts _ (count_defects c.args.limits.now.sections (section_total (files_in undefined ss))) goes
    (ap (count_defects c.args.limits.now.sections) (sym total) ∙ c.in_default.ensures)

pub number_records-requires : goal.number_records-requires
number_records-requires g c =
    let ss = sources_of c.args.sources.now in
    let undefined = lists_of c.args.undefined.now in
    let n : length c.args.sources.now ≡ length ss = sym (length-map c.args.sources.now source_view) in
    let live = c.args.live.now in
    let each = each_object g (goal.at.number_records-requires g c).In_ok-parts in
    let are = files_are g (goal.at.number_records-requires g c).In_ok-tables each in
    let up = each_rises (IsBodyAt ss live) 0 (length c.args.sources.now) c.in_ok-bodies.bodies.items c.in_ok-bodies.ensures.share.each in
    let count : length c.in_ok-bodies.bodies.items ≡ length c.args.sources.now = omega (arith, up) in
    c.in_ok-parts.ensures.records
    ∙ records_are undefined ss live c.in_ok-bodies.bodies.items (length c.args.sources.now) (files_of c.in_ok-tables.tables) n c.requires.live are count c.in_ok-bodies.ensures.share.each

pub returns-clause-tables : goal.returns-clause-tables
returns-clause-tables g c =
    let each = each_object g (goal.at.returns-clause-tables g c).In_ok-parts in
    let are = files_are g (goal.at.returns-clause-tables g c).In_ok-tables each in
    are

pub returns-clause-within : goal.returns-clause-within
returns-clause-within g c =
    let ss = sources_of c.args.sources.now in
    let undefined = lists_of c.args.undefined.now in
    let n : length c.args.sources.now ≡ length ss = sym (length-map c.args.sources.now source_view) in
    let live = c.args.live.now in
    let each = each_object g (goal.at.returns-clause-within g c).In_ok-parts in
    let are = files_are g (goal.at.returns-clause-within g c).In_ok-tables each in
    let files = files_of c.in_ok-tables.tables in
    let none = records_sound undefined ss live c.in_ok-bodies.bodies.items (length c.args.sources.now) files n c.requires.live are c.in_ok-bodies.ensures.share.each in
    lists_within files (λ f lt on. (sound_file c.in_ok-tables.tables f on, none f lt on))

pub returns-clause-plain : goal.returns-clause-plain
returns-clause-plain g c =
    let ss = sources_of c.args.sources.now in
    let undefined = lists_of c.args.undefined.now in
    let n : length c.args.sources.now ≡ length ss = sym (length-map c.args.sources.now source_view) in
    let live = c.args.live.now in
    let each = each_object g (goal.at.returns-clause-plain g c).In_ok-parts in
    let are = files_are g (goal.at.returns-clause-plain g c).In_ok-tables each in
    let files = files_of c.in_ok-tables.tables in
    let none = records_sound undefined ss live c.in_ok-bodies.bodies.items (length c.args.sources.now) files n c.requires.live are c.in_ok-bodies.ensures.share.each in
    lists_plain files (λ f lt on. (sound_file c.in_ok-tables.tables f on, none f lt on))
