-- Each piece of the executable of a sound layout stands whole in it, and so do the bytes of each section.
use Rattle.std.proofs.Common.{◌≡◌, ℕ, ◌+◌, ◌-◌, ◌≤◌, true, inl, inr, Option, List, [], ◌∷◌, ◌++◌, length, flat_map, take, drop, slice_index_or, append_assoc, ap, ◌∙◌, arith, subst}
use Rattle.std.specs.Prelude.{if◌then◌else◌}
use Rattle.std.specs.List.{All}
use Rattle.std.proofs.lemmas.Bool.{cases_Bool, eqb-true}
use Rattle.std.proofs.lemmas.List.Elements.{All-nil, All-cons, All-head, All-tail, All-append}
use Rattle.lk_base.specs.declared.abi.TheConstants.{EHDR_SIZE, IMAGE_BASE, SHT_NOBITS}
use Rattle.lk_tables.specs.Binding.{Bindings}
use Rattle.lk_tables.specs.Files.{File}
use Rattle.link_sections.specs.declared.members.Content.{Content}
use Rattle.link_sections.specs.declared.members.Content.TheVariants.{Section, Pool, Got}
use Rattle.link_sections.specs.declared.members.Member.{Member}
use Rattle.link_sections.specs.declared.views.View.{View}
use Rattle.link_sections.specs.InputSections.{input_at}
use Rattle.link_sections.specs.LaidOut.{LaidOut}
use Rattle.link_sections.specs.Sound.{IsSectionMember, IsSound, is_section}
use Rattle.link_sections.specs.Views.{binding_in, files_in, laid_in, leaders_in}
use Rattle.elf_out.specs.Executable.{FrameContents, end_pieces, file_length, file_with, frame_pieces, headers_with, pieces_with}
use Rattle.elf_out.specs.Prepared.{headers_in}
use Rattle.elf_out.specs.Standing.{AllStand, FitFrames, FramesStand, HasHeaderRoom, HeadersStand, PiecesStand, SectionsStand, Stands, pieces_behind}
use Rattle.elf_out.specs.Symbols.{SymbolTables}
use Rattle.elf_out.proofs.EndPieces.{ends_up}
use Rattle.elf_out.proofs.MemberPieces.{laid_up, member_up}
use Rattle.elf_out.proofs.Away.{away_after, away_members}
use Rattle.elf_out.proofs.OneByOne.{GoUp, IsAway, others_stand, shows_alone, shows_more, stands, up_append, up_within}
use Rattle.elf_out.proofs.Starting.{headers_long}
use Rattle.reloc_apply.proofs.LaidFacts.{any_at, is_not}
use Rattle.reloc_apply.specs.Founds.{no_member}
use Rattle.reloc_apply.specs.Image.{Piece, piece}
use Rattle.reloc_apply.specs.Relocated.{content_pieces, has_bits, member_pieces, relocated_pieces, section_bytes}

module _ (v : View) (frames : FrameContents) (tables : Option SymbolTables) where
  abbrev behind : List Piece
  behind = pieces_behind (files_in v) (binding_in v) (leaders_in v) (laid_in v) tables

  abbrev file : List ℕ
  file = file_with (files_in v) (binding_in v) (leaders_in v) (laid_in v) frames tables

  abbrev head : Piece
  head = piece 0 (headers_in v tables)

  -- `.eh_frame_hdr`, and `.eh_frame`
  abbrev table_piece : Piece
  table_piece = piece ((laid_in v).bounds.frame_header - IMAGE_BASE) frames.header

  abbrev frame_piece : Piece
  frame_piece = piece ((laid_in v).bounds.frames - IMAGE_BASE) frames.frame

  behind_up : (from : ℕ) → All (λ m. from ≤ m.start) (laid_in v).members → from ≤ (laid_in v).bounds.file_end
      → GoUp (from - IMAGE_BASE) (file_length (laid_in v) tables) behind
  behind_up from above le =
      up_append (from - IMAGE_BASE) ((laid_in v).bounds.file_end - IMAGE_BASE) (file_length (laid_in v) tables)
      (relocated_pieces (files_in v) (binding_in v) (leaders_in v) (laid_in v)) (end_pieces (laid_in v) tables)
      (laid_up v from above le) (ends_up (laid_in v) tables)

  -- what stands after the file header
  pub pieces_stand : PiecesStand (files_in v) (binding_in v) (leaders_in v) (laid_in v) tables file
  unfolding file_with pieces_with
  pieces_stand =
      others_stand (head ∷ table_piece ∷ frame_piece ∷ []) (IMAGE_BASE + EHDR_SIZE - IMAGE_BASE) (file_length (laid_in v) tables) behind
      (behind_up (IMAGE_BASE + EHDR_SIZE) v.sound.low v.sound.headers)

  -- the file does not end before the last byte of a section
  file_long : (laid_in v).bounds.file_end - IMAGE_BASE ≤ file_length (laid_in v) tables
  file_long = up_within ((laid_in v).bounds.file_end - IMAGE_BASE) (file_length (laid_in v) tables) (end_pieces (laid_in v) tables) (ends_up (laid_in v) tables)

  -- a piece of the unwind records has no byte in common with those after it
  away_behind : (p : Piece) → (laid_in v).bounds.frame_header - IMAGE_BASE ≤ p.at → p.at + length p.bytes ≤ (laid_in v).bounds.frames_end - IMAGE_BASE → All (IsAway p) behind
  unfolding relocated_pieces
  away_behind p start end =
      let inside = v.sound.frames.inside in
      All-append (IsAway p) (relocated_pieces (files_in v) (binding_in v) (leaders_in v) (laid_in v)) (end_pieces (laid_in v) tables)
      (away_members p (laid_in v).bounds.frame_header (laid_in v).bounds.frames_end (member_pieces (files_in v) (binding_in v) (leaders_in v) (laid_in v)) (laid_in v).members
      start end (member_up v) v.sound.frames.apart)
      (away_after p ((laid_in v).bounds.file_end - IMAGE_BASE) (file_length (laid_in v) tables) (end_pieces (laid_in v) tables)
      (omega (arith, end, inside)) (ends_up (laid_in v) tables))

  module _ (fit : FitFrames (laid_in v).bounds frames) where
    table_away : IsAway table_piece frame_piece
    table_away =
        let room = v.sound.frames in
        let long = fit.header in
        let le : table_piece.at + length table_piece.bytes ≤ frame_piece.at = omega (arith, long, room.from, room.header, room.between) in
        inl le

    table_behind : All (IsAway table_piece) behind
    table_behind =
        let room = v.sound.frames in
        let long = fit.header in
        away_behind table_piece (omega arith) (omega (arith, long, room.from, room.header, room.between, room.frames))

    frame_behind : All (IsAway frame_piece) behind
    frame_behind =
        let room = v.sound.frames in
        let long = fit.frame in
        away_behind frame_piece (omega (arith, room.header, room.between)) (omega (arith, long, room.from, room.header, room.between, room.frames))

    -- both stand whole
    pub frames_stand : FramesStand (laid_in v) frames file
    unfolding file_with pieces_with
    frames_stand =
        let room = v.sound.frames in
        let size : ℕ = file_length (laid_in v) tables in
        let whole : List Piece = head ∷ table_piece ∷ frame_piece ∷ behind in
        let first = stands whole size table_piece
        (shows_more head (table_piece ∷ frame_piece ∷ behind) table_piece
        (shows_alone table_piece (frame_piece ∷ behind) (All-cons (IsAway table_piece) frame_piece behind table_away table_behind)))
        (omega (arith, fit.header, room.from, room.header, room.between, room.frames, room.inside, file_long)) in
        let second = stands whole size frame_piece
        (shows_more head (table_piece ∷ frame_piece ∷ behind) frame_piece
        (shows_more table_piece (frame_piece ∷ behind) frame_piece (shows_alone frame_piece behind frame_behind)))
        (omega (arith, fit.frame, room.from, room.header, room.between, room.frames, room.inside, file_long)) in
        All-cons (Stands file) table_piece (frame_piece ∷ []) first (All-cons (Stands file) frame_piece [] second (All-nil (Stands file)))

    -- the headers end before them, or they have no byte
    head_away : HasHeaderRoom (laid_in v).bounds → IsAway head table_piece × IsAway head frame_piece
    head_away ends =
        let room = v.sound.frames in
        let table_long = fit.header in
        let frame_long = fit.frame in
        let end = ends.headers_end in
        let long = headers_long (files_in v) (binding_in v) (leaders_in v) (laid_in v) tables in
        elim (cases_Bool (laid_in v).bounds.has_frames) [
          | inl has ↦
              let above = room.above has in
              let first : head.at + length head.bytes ≤ table_piece.at = omega (arith, long, end, above) in
              let second : head.at + length head.bytes ≤ frame_piece.at = omega (arith, long, end, above, room.header, room.between) in
              (inl first, inl second)
          | inr none ↦
              let nothing = room.none none in
              let first : table_piece.at + length table_piece.bytes ≤ head.at = omega (arith, table_long, nothing, room.from, room.header, room.between, room.frames) in
              let second : frame_piece.at + length frame_piece.bytes ≤ head.at = omega (arith, frame_long, nothing, room.from, room.header, room.between, room.frames) in
              (inr first, inr second)
        ]

    -- the headers, if there is room for them
    pub headers_stand : HasHeaderRoom (laid_in v).bounds → HeadersStand (files_in v) (binding_in v) (leaders_in v) (laid_in v) tables file
    unfolding file_with pieces_with
    headers_stand room =
        let end = room.headers_end in
        let inside = room.inside in
        let long = headers_long (files_in v) (binding_in v) (leaders_in v) (laid_in v) tables in
        let away = head_away room in
        let others = away_after head ((laid_in v).bounds.headers_end - IMAGE_BASE) (file_length (laid_in v) tables) behind (omega (arith, end, long))
        (behind_up (laid_in v).bounds.headers_end v.sound.above room.inside) in
        stands (head ∷ table_piece ∷ frame_piece ∷ behind) (file_length (laid_in v) tables) head
        (shows_alone head (table_piece ∷ frame_piece ∷ behind)
        (All-cons (IsAway head) table_piece (frame_piece ∷ behind) away.0 (All-cons (IsAway head) frame_piece behind away.1 others)))
        (omega (arith, end, long, inside, file_long))

-- all three together are all pieces of the file
pub all_stand : (files : List File) (b : Bindings) (leaders : List (Option ℕ)) (laid : LaidOut) (frames : FrameContents) (tables : Option SymbolTables) (file : List ℕ)
    → HeadersStand files b leaders laid tables file → FramesStand laid frames file → PiecesStand files b leaders laid tables file
    → AllStand files b leaders laid frames tables file
unfolding pieces_with
all_stand files b leaders laid frames tables file head records others =
    All-cons (Stands file) (piece 0 (headers_with files b leaders laid tables)) (frame_pieces laid frames ++ pieces_behind files b leaders laid tables) head
    (All-append (Stands file) (frame_pieces laid frames) (pieces_behind files b leaders laid tables) records others)

-- what holds of each piece holds of those of each member
split_all : (P : Piece → Type 0) (xs ys : List Piece) → All P (xs ++ ys) → All P xs × All P ys
split_all P [] ys all = (All-nil P, all)
split_all P (x ∷ xs) ys all =
    let rest = split_all P xs ys (All-tail P x (xs ++ ys) all) in
    (All-cons P x xs (All-head P x (xs ++ ys) all) rest.0, rest.1)

each_member : (P : Piece → Type 0) (f : Member → List Piece) (ms : List Member) (rest : List Piece) → All P (flat_map f ms ++ rest) → All (λ m. All P (f m)) ms
each_member P f [] rest all = All-nil (λ (m : Member). All P (f m))
each_member P f (m ∷ ms) rest all =
    let both = split_all P (f m) (flat_map f ms ++ rest) (subst (All P) (append_assoc (f m) (flat_map f ms) rest) all) in
    All-cons (λ (k : Member). All P (f k)) m ms both.0 (each_member P f ms rest both.1)

-- what a member is that passes
section_is : (n : ℕ) (c : Content) → is_section n c ≡ true → c ≡ Section n
section_is n (Section m) is = ap Section (eqb-true m n is)
section_is n (Pool p) is = let none : ⊥ = cc in absurd none
section_is n Got is = let none : ⊥ = cc in absurd none

module _ (files : List File) (b : Bindings) (leaders : List (Option ℕ)) (laid : LaidOut) where
  -- a section with bytes in its file is one piece
  piece_is : (m : Member) (n : ℕ) → m.content ≡ Section n → has_bits files b leaders laid n ≡ true
      → member_pieces files b leaders laid m ≡ piece (m.start - IMAGE_BASE) (section_bytes files b leaders laid n) ∷ []
  unfolding member_pieces content_pieces
  piece_is m n is bits =
      let at = m.start - IMAGE_BASE in
      ap (content_pieces files b leaders laid at) is ∙ ap (λ t. if t then piece at (section_bytes files b leaders laid n) ∷ [] else []) bits

  -- so each section stands whole where each piece does
  pub sections_stand : (tables : Option SymbolTables) (file : List ℕ) → IsSound files b leaders laid → PiecesStand files b leaders laid tables file
      → SectionsStand files b leaders laid file
  unfolding relocated_pieces
  sections_stand tables file sound all = λ n lt own bits some.
      let listed = sound.listed n lt own (is_not (input_at files b n).sh_type SHT_NOBITS bits) some in
      let any = any_at (λ (m : Member). is_section n m.content) laid.members no_member listed in
      let m : Member = slice_index_or laid.members any.0 no_member in
      let is : m.content ≡ Section n = section_is n m.content any.2 in
      let section : IsSectionMember files b leaders laid n m = sound.sections any.0 no_member any.1 n is in
      let bytes : List ℕ = section_bytes files b leaders laid n in
      let has : All (Stands file) (member_pieces files b leaders laid m) =
      each_member (Stands file) (member_pieces files b leaders laid) laid.members (end_pieces laid tables) all any.0 no_member any.1 in
      let one : All (Stands file) (piece (m.start - IMAGE_BASE) bytes ∷ []) = subst (All (Stands file)) (piece_is m n is bits) has in
      let P : ℕ → Type 0 = λ start. take (length bytes) (drop (start - IMAGE_BASE) file) ≡ bytes in
      subst P section.start (All-head (Stands file) (piece (m.start - IMAGE_BASE) bytes) [] one)
