use Rattle.std.proofs.Common.{◌≡◌, ℕ, ◌-◌, length, get_or, sym, ap, ◌∙◌, subst, arith}
use Rattle.std.proofs.lemmas.List.{length-map}
use Rattle.lk_tables.specs.declared.section_places.SectionPlace.{SectionPlace}
use Rattle.lk_tables.specs.FileView.{file_view}
use Rattle.lk_tables.specs.Files.{first_section}
use Rattle.lk_tables.specs.Sites.{IsPlaceOf}
use Rattle.lk_tables.specs.TablesView.{files_of}
use Rattle.lk_tables.proofs.FirstNumbers.{first_read, length_firsts}
use Rattle.lk_tables.proofs.Owners.{IsOwner, place_is, place_law}
use Rattle.lk_tables.proofs.SectionFiles.{file_read, has_file}
use Rattle.lk_tables.proofs.tables.Tables.place_of.Goals as goal
use Rattle.lk_tables.proofs.tables.Tables.place_of.Goals.{After-index-file}

owner : (c : After-index-file) → IsOwner (files_of c.args.self.now) c.args.section c.index-file.result.now
owner c =
    let s = c.args.self.now in
    file_read (files_of s) s.section_files.items c.args.section c.index-file.result.now c.requires s.owners c.index-file.ensures

first_is : (c : After-index-file) (x : ℕ) → x ≡ get_or c.args.self.now.first_sections.items c.index-file.result.now x →
    x ≡ first_section (files_of c.args.self.now) c.index-file.result.now
first_is c x read =
    let s = c.args.self.now in
    let file = (owner c).file in
    first_read (first_section (files_of s)) s.first_sections.items (length s.files.items) c.index-file.result.now x s.sections
    (omega (arith, length-map s.files.items file_view)) read

pub index-file-requires : goal.index-file-requires
index-file-requires c =
    let s = c.args.self.now in
    omega (arith, has_file (files_of s) s.section_files.items c.args.section c.requires s.owners, s.section_files.ok.0)

pub index-requires : goal.index-requires
index-requires c =
    let s = c.args.self.now in
    let known = (goal.at.index-requires c).After-index-file in
    let file = (owner known).file in
    omega (arith, length_firsts (first_section (files_of s)) s.first_sections.items (length s.files.items) s.sections, length-map s.files.items file_view, s.first_sections.ok.0)

pub overflow_sub-result : goal.overflow_sub-result
overflow_sub-result c =
    let known = (goal.at.overflow_sub-result c).After-index-file in
    let from = (owner known).from in
    omega (arith, first_is known c.index.result.now c.index.ensures)

pub returns-clause-place : goal.returns-clause-place
returns-clause-place c =
    let known = (goal.at.returns-clause-place c).After-index-file in
    let P : ℕ → SectionPlace = λ first. record { file = c.index-file.result.now; index = c.args.section - first } in
    ap P (first_is known c.index.result.now c.index.ensures) ∙ sym (place_is (files_of c.args.self.now) c.args.section c.index-file.result.now (owner known))

pub returns-clause-law : goal.returns-clause-law
returns-clause-law c =
    let known = (goal.at.returns-clause-law c).After-index-file in
    let P : ℕ → Type 0 = λ first. IsPlaceOf (files_of c.args.self.now) c.args.section (record { file = c.index-file.result.now; index = c.args.section - first }) in
    subst P (sym (first_is known c.index.result.now c.index.ensures)) (place_law (files_of c.args.self.now) c.args.section c.index-file.result.now (owner known))
