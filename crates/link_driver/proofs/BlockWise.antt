-- An executable that is made window by window, and added to a file block by block.
use Rattle.std.proofs.Common.{◌≡◌, ℕ, ◌+◌, ◌-◌, ◌*◌, ◌<◌, ◌≤◌, Bool, Option, List, ◌++◌, length, take, drop, refl, sym, ap, ◌∙◌, subst, arith}
use Rattle.std.proofs.lemmas.List.{length-drop, length-take-le, take-take}
use Rattle.std.proofs.Math.Seq.{take-add}
use Rattle.elf_out.specs.Executable.{FrameContents, executable, file_length, file_with, own_tables, pieces_with}
use Rattle.elf_out.specs.Prepared.{IsPrepared, IsPreparedFor}
use Rattle.elf_out.specs.Symbols.{SymbolTables}
use Rattle.elf_out.specs.TablesView.{frame_contents, tables_in}
use Rattle.elf_out.proofs.Laying.{image_length}
use Rattle.link_sections.specs.declared.views.View.{View}
use Rattle.link_sections.specs.LaidOut.{LaidOut}
use Rattle.link_sections.specs.Views.{binding_in, files_in, laid_in, leaders_in}
use Rattle.lk_depot.specs.Files.{Files, added_if_seen}
use Rattle.lk_depot.proofs.NamedMaps.{added_if_seen_twice}
use Rattle.lk_tables.specs.Binding.{Bindings}
use Rattle.lk_tables.specs.BindingView.{binding_view}
use Rattle.lk_tables.specs.Files.{File}
use Rattle.lk_tables.specs.TablesView.{files_of}
use Rattle.link_driver.specs.declared.executable.Executable.{Executable}
use Rattle.link_driver.specs.Linked.{exe_of, laid_of}

module _ (e : Executable) where
  abbrev own : Option SymbolTables
  own = own_tables (files_of e.tables) (binding_view e.binding) e.kept.items e.strip e.leaders.items (laid_of e)

  -- how many bytes it has
  pub exe_long : length (exe_of e) ≡ e.prepared.ends.end
  unfolding executable file_with
  exe_long =
      image_length (pieces_with (files_of e.tables) (binding_view e.binding) e.leaders.items (laid_of e) (frame_contents e.frames) own) (file_length (laid_of e) own)
      ∙ sym e.ready.ends.end

  module _ (v : View) (files : files_in v ≡ files_of e.tables) (binding : binding_in v ≡ binding_view e.binding) (kept : v.kept.now ≡ e.kept.items)
      (strip : v.strip ≡ e.strip) (leaders : leaders_in v ≡ e.leaders.items) (laid : laid_in v ≡ laid_of e) where
    -- what holds of its tables holds of a view that lends them
    over_view : (P : List File → Bindings → List Bool → Bool → List (Option ℕ) → LaidOut → Type 0)
        → P (files_of e.tables) (binding_view e.binding) e.kept.items e.strip e.leaders.items (laid_of e)
        → P (files_in v) (binding_in v) v.kept.now v.strip (leaders_in v) (laid_in v)
    over_view P holds =
        let A : List File → Type 0 = λ x. P x (binding_view e.binding) e.kept.items e.strip e.leaders.items (laid_of e) in
        let B : Bindings → Type 0 = λ x. P (files_in v) x e.kept.items e.strip e.leaders.items (laid_of e) in
        let C : List Bool → Type 0 = λ x. P (files_in v) (binding_in v) x e.strip e.leaders.items (laid_of e) in
        let D : Bool → Type 0 = λ x. P (files_in v) (binding_in v) v.kept.now x e.leaders.items (laid_of e) in
        let E : List (Option ℕ) → Type 0 = λ x. P (files_in v) (binding_in v) v.kept.now v.strip x (laid_of e) in
        let F : LaidOut → Type 0 = λ x. P (files_in v) (binding_in v) v.kept.now v.strip (leaders_in v) x in
        subst F (sym laid) (subst E (sym leaders) (subst D (sym strip) (subst C (sym kept) (subst B (sym binding) (subst A (sym files) holds)))))

    pub prepared_for : IsPreparedFor v e.prepared
    prepared_for = over_view (λ fs b k s l a. IsPrepared fs b l a (own_tables fs b k s l a) e.prepared) e.ready

    pub within_file : (k size : ℕ) → 65536 * k + size ≤ length (exe_of e) → 65536 * k + size ≤ file_length (laid_in v) (tables_in v)
    within_file k size le =
        let P : List File → Bindings → List Bool → Bool → List (Option ℕ) → LaidOut → Type 0 = λ fs b n s l a. 65536 * k + size ≤ file_length a (own_tables fs b n s l a) in
        over_view P (omega (arith, le, exe_long, e.ready.ends.end))

    pub same_exe : executable (files_in v) (binding_in v) v.kept.now v.strip (leaders_in v) (laid_in v) (frame_contents e.frames) ≡ exe_of e
    same_exe =
        let x : FrameContents = frame_contents e.frames in
        over_view (λ fs b k s l a. executable fs b k s l a x ≡ exe_of e) refl

-- bytes that are added from one place of a list to another go on where the first ones end
pub added_on : (name bytes : List ℕ) (done end : ℕ) (files : Option Files) → done ≤ end
    → added_if_seen name (take (end - done) (drop done bytes)) (added_if_seen name (take done bytes) files) ≡ added_if_seen name (take end bytes) files
added_on name bytes done end files le =
    let sum : done + (end - done) ≡ end = omega (arith, le) in
    added_if_seen_twice name (take done bytes) (take (end - done) (drop done bytes)) files
    ∙ ap (λ xs. added_if_seen name xs files) (sym (take-add done (end - done) bytes) ∙ ap (λ k. take k bytes) sum)

-- so do the first of the bytes of a part
pub added_some : (name bytes : List ℕ) (done size n : ℕ) (files : Option Files) → n ≤ size
    → added_if_seen name (take n (take size (drop done bytes))) (added_if_seen name (take done bytes) files) ≡ added_if_seen name (take (done + n) bytes) files
added_some name bytes done size n files le =
    added_if_seen_twice name (take done bytes) (take n (take size (drop done bytes))) files
    ∙ ap (λ xs. added_if_seen name xs files) (ap (λ ys. take done bytes ++ ys) (take-take n size (drop done bytes) le) ∙ sym (take-add done n bytes))

-- and so do those of a part that starts at a multiple
pub block_added : (name bytes : List ℕ) (done k size n : ℕ) (files : Option Files) → done ≡ 65536 * k → n ≤ size
    → added_if_seen name (take n (take size (drop (65536 * k) bytes))) (added_if_seen name (take done bytes) files) ≡ added_if_seen name (take (done + n) bytes) files
block_added name bytes done k size n files is le =
    ap (λ m. added_if_seen name (take n (take size (drop m bytes))) (added_if_seen name (take done bytes) files)) (sym is)
    ∙ added_some name bytes done size n files le

pub window_added : (name bytes : List ℕ) (done k size : ℕ) (files : Option Files) → done ≡ 65536 * k
    → added_if_seen name (take size (drop (65536 * k) bytes)) (added_if_seen name (take done bytes) files) ≡ added_if_seen name (take (done + size) bytes) files
window_added name bytes done k size files is =
    ap (λ xs. added_if_seen name xs (added_if_seen name (take done bytes) files)) (sym (take-take size size (drop (65536 * k) bytes) (omega arith)))
    ∙ block_added name bytes done k size size files is (omega arith)

-- a part of which some first bytes were added, after what stands before it
pub part_added : (name bytes : List ℕ) (done end : ℕ) (before now after : Option Files) → done ≤ end → end ≤ length bytes
    → now ≡ added_if_seen name (take done bytes) before
    → (n : ℕ) × (n < length (take (end - done) (drop done bytes))) × (after ≡ added_if_seen name (take n (take (end - done) (drop done bytes))) now)
    → (n : ℕ) × (n < length bytes) × (after ≡ added_if_seen name (take n bytes) before)
part_added name bytes done end before now after le most was (n, shorter, is) =
    let long : length (take (end - done) (drop done bytes)) ≡ end - done =
    length-take-le (end - done) (drop done bytes) (omega (arith, length-drop done bytes, most)) in (
      done + n,
      omega (arith, long, shorter, le, most),
      is ∙ ap (added_if_seen name (take n (take (end - done) (drop done bytes)))) was
          ∙ added_some name bytes done (end - done) n before (omega (arith, long, shorter)),
    )

-- the same of a window of some blocks
pub window_cut : (name bytes : List ℕ) (done k size : ℕ) (before now after : Option Files) → done ≡ 65536 * k → done + size ≤ length bytes
    → now ≡ added_if_seen name (take done bytes) before
    → (n : ℕ) × (n < size) × (after ≡ added_if_seen name (take n (take size (drop (65536 * k) bytes))) now)
    → (n : ℕ) × (n < length bytes) × (after ≡ added_if_seen name (take n bytes) before)
window_cut name bytes done k size before now after is most was (n, shorter, cut) = (
  done + n,
  omega (arith, shorter, most),
  cut ∙ ap (added_if_seen name (take n (take size (drop (65536 * k) bytes)))) was ∙ block_added name bytes done k size n before is (omega (arith, shorter)),
)

-- a list that is added, and one of which some first bytes are, by its value
pub whole_of : (name made bytes : List ℕ) (before after : Option Files) → made ≡ bytes → after ≡ added_if_seen name made before → after ≡ added_if_seen name bytes before
whole_of name made bytes before after is added = added ∙ ap (λ xs. added_if_seen name xs before) is

pub cut_of : (name made bytes : List ℕ) (size : ℕ) (before after : Option Files) → made ≡ bytes → length made ≡ size
    → (n : ℕ) × (n < length made) × (after ≡ added_if_seen name (take n made) before)
    → (n : ℕ) × (n < size) × (after ≡ added_if_seen name (take n bytes) before)
cut_of name made bytes size before after is long (n, shorter, cut) =
    (n, omega (arith, shorter, long), cut ∙ ap (λ xs. added_if_seen name (take n xs) before) is)
