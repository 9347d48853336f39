-- What the tables of a link point to lies where it must.
use Rattle.std.proofs.Common.{◌≡◌, ℕ, ◌<◌, ◌≤◌, Bool, true, false, List, [], length, sym, ap, ◌∙◌, subst, arith}
use Rattle.std.specs.Prelude.{Result, Ok, Err, IfOk, if◌then◌else◌}
use Rattle.lk_base.specs.declared.limits.Limits.{Limits}
use Rattle.lk_tables.specs.declared.tables.Tables.{Tables}
use Rattle.lk_tables.specs.Files.{File, file_at}
use Rattle.lk_tables.specs.Heads.{HeadView}
use Rattle.lk_tables.specs.Inside.{IsHeadInside}
use Rattle.lk_tables.specs.TablesView.{files_of}
use Rattle.lk_tables.proofs.SoundFiles.{inside_body, inside_head, sound_file}
use Rattle.lk_tables.proofs.SoundHead.{head_of_is}
use Rattle.link_passes.specs.Contents.{sources_of}
use Rattle.link_passes.specs.Defects.{reading_defects}
use Rattle.link_passes.specs.Reading.{IsHeaded}
use Rattle.link_passes.specs.Sources.{Source, files_in, has_body, head_in, headed, live_in, opened, source_at, with_body}
use Rattle.link_passes.specs.Tables.{AreHeadsInside, AreInside}
use Rattle.link_passes.specs.declared.sources.Source.{Source as LentSource}
use Rattle.link_passes.proofs.EachBody.{opened_at, opened_count}
use Rattle.link_passes.proofs.FileFacts.{each_whole, head_whole}

are_inside : (tables : Tables) → AreInside (files_of tables)
are_inside tables = λ f live.
    let is = sound_file tables f live in
    (inside_head (file_at (files_of tables) f) is, inside_body (file_at (files_of tables) f) is)

pub inside_on : {X E : Type 0} (r : Result (Tables × X) E) → IfOk r (λ both. AreInside (files_of both.0))
inside_on (Ok both) = are_inside both.0
inside_on (Err stop) = tt

-- the head of a file that is no archive, and the same once its body is read
head_inside : (s : Source) → s.archive ≡ false → IsHeaded s.bytes → IsHeadInside s.bytes (head_in s)
head_inside s whole sound = head_of_is s.bytes (head_in s) (sound.head ∙ ap (λ (h : HeadView). Ok h) (sym (head_whole s whole)))

still_inside : (read : Bool) (file : File) → IsHeadInside file.bytes file.head →
    IsHeadInside (if read then with_body file else file).bytes (if read then with_body file else file).head
still_inside true file inside = inside
still_inside false file inside = inside

module _ (limits : Limits) (list : List LentSource) (undefined : List (List ℕ))
    (none : reading_defects limits (sources_of list) ≡ []) (few : length (sources_of list) ≤ limits.files) where
  heads_inside : (files : List File) → files ≡ files_in undefined (sources_of list) → AreHeadsInside (sources_of list) files
  heads_inside files are = λ f lt whole.
      let ss = sources_of list in
      let room : f < length ss = omega (arith, lt, ap length are, opened_count undefined ss) in
      let P : File → Type 0 = λ file. IsHeadInside file.bytes file.head in
      let at : file_at files f ≡ opened ss (live_in undefined ss) f = ap (λ (l : List File). file_at l f) are ∙ opened_at undefined ss f room in
      let inside : P (headed ss f) = head_inside (source_at ss f) whole (each_whole limits list none few f room whole) in
      subst P (sym at) (still_inside (has_body ss (live_in undefined ss) f) (headed ss f) inside)

  pub heads_on : {X E : Type 0} (r : Result (Tables × X) E) → IfOk r (λ both. files_of both.0 ≡ files_in undefined (sources_of list)) →
      IfOk r (λ both. AreHeadsInside (sources_of list) (files_of both.0))
  heads_on (Ok both) are = heads_inside (files_of both.0) are
  heads_on (Err stop) are = tt
