-- Where the unwind records stand: after the rows of R, which ends with them; or nowhere.
use Rattle.std.proofs.Common.{◌≡◌, ℕ, ◌+◌, ◌%◌, ◌<◌, ◌≤◌, ◌⊎◌, nat_lt, Bool, true, false, if◌then◌else◌, List, refl, ap, sym, ◌∙◌, subst, arith, inl, inr}
use Rattle.std.proofs.lemmas.Bool.Decides.{nat_tests}
use Rattle.lk_base.specs.declared.abi.TheConstants.{IMAGE_BASE}
use Rattle.lk_base.specs.Arithmetic.{up}
use Rattle.lk_base.proofs.Multiples.{up_below, up_least, up_multiple}
use Rattle.lk_tables.specs.declared.classes.Class.TheVariants.{R}
use Rattle.link_sections.specs.declared.layouts.Bounds.{Bounds}
use Rattle.link_sections.specs.Cuts.{Cut}
use Rattle.output_sections.specs.Order.{Orders, rows_in}
use Rattle.layout.specs.Layout.{FrameSizes, frame_bounds, frames_at, has_frames, no_frames}
use Rattle.layout.specs.Spots.{HasFrames}
use Rattle.layout.specs.Walk.{cursor_at, end_along, runs}
use Rattle.layout.proofs.Chain.{AreBounds, AreFrames}

-- with an FDE
pub record AreLast (fs : FrameSizes) (rows_end : ℕ) (b : Bounds) : Type 0 where
  pub some : nat_lt 0 fs.header ≡ true
  pub has : b.has_frames ≡ true
  pub first : rows_end ≤ b.frame_header
  pub near : b.frame_header < rows_end + 4
  pub header : b.frame_header_end ≡ b.frame_header + fs.header
  pub between : b.frame_header_end ≤ b.frames
  pub next : b.frames < b.frame_header_end + 8
  pub frames : b.frames_end ≡ b.frames + fs.frame
  pub end : b.r_end ≡ b.frames_end
  pub header_aligned : b.frame_header % 4 ≡ 0
  pub frames_aligned : b.frames % 8 ≡ 0

-- without one
pub record AreNowhere (fs : FrameSizes) (rows_end : ℕ) (b : Bounds) : Type 0 where
  pub none : nat_lt 0 fs.header ≡ false
  pub has : b.has_frames ≡ false
  pub header : b.frame_header ≡ IMAGE_BASE
  pub header_end : b.frame_header_end ≡ IMAGE_BASE
  pub frames : b.frames ≡ IMAGE_BASE
  pub frames_end : b.frames_end ≡ IMAGE_BASE
  pub end : b.r_end ≡ rows_end

last_by : (fs : FrameSizes) (rows_end : ℕ) (b : Bounds) → nat_lt 0 fs.header ≡ true → AreFrames (frames_at fs (up rows_end 4)) b → AreLast fs rows_end b
last_by fs rows_end b some are =
    let header : b.frame_header ≡ up rows_end 4 = are.header in
    let frames : b.frames ≡ up (up rows_end 4 + fs.header) 8 = are.frames in
    let least : rows_end ≤ up rows_end 4 = up_least rows_end 4 (omega arith) in
    let below : up rows_end 4 < rows_end + 4 = up_below rows_end 4 (omega arith) in
    let next : up rows_end 4 + fs.header ≤ up (up rows_end 4 + fs.header) 8 = up_least (up rows_end 4 + fs.header) 8 (omega arith) in
    let near : up (up rows_end 4 + fs.header) 8 < up rows_end 4 + fs.header + 8 = up_below (up rows_end 4 + fs.header) 8 (omega arith) in
    record {
      some = some;
      has = are.has;
      first = omega (arith, header, least);
      near = omega (arith, header, below);
      header = are.header_end ∙ ap (λ x. x + fs.header) (sym header);
      between = omega (arith, are.header_end, frames, next);
      next = omega (arith, are.header_end, frames, near);
      frames = are.frames_end ∙ ap (λ x. x + fs.frame) (sym frames);
      end = are.r_end ∙ sym are.frames_end;
      header_aligned = subst (λ x. x % 4 ≡ 0) (sym header) (up_multiple rows_end 4);
      frames_aligned = subst (λ x. x % 8 ≡ 0) (sym frames) (up_multiple (up rows_end 4 + fs.header) 8);
    }

nowhere_by : (fs : FrameSizes) (rows_end : ℕ) (b : Bounds) → nat_lt 0 fs.header ≡ false → AreFrames (no_frames rows_end) b → AreNowhere fs rows_end b
nowhere_by fs rows_end b none are = record {
  none = none;
  has = are.has;
  header = are.header;
  header_end = are.header_end;
  frames = are.frames;
  frames_end = are.frames_end;
  end = are.r_end;
}

cases_by : (t : Bool) (fs : FrameSizes) (rows_end : ℕ) (b : Bounds) → nat_lt 0 fs.header ≡ t
    → AreFrames (if t then frames_at fs (up rows_end 4) else no_frames rows_end) b → AreLast fs rows_end b ⊎ AreNowhere fs rows_end b
cases_by true fs rows_end b is are = inl (last_by fs rows_end b is are)
cases_by false fs rows_end b is are = inr (nowhere_by fs rows_end b is are)

frame_cases : (fs : FrameSizes) (rows_end : ℕ) (b : Bounds) → AreFrames (frame_bounds fs rows_end) b → AreLast fs rows_end b ⊎ AreNowhere fs rows_end b
unfolding frame_bounds has_frames
frame_cases fs rows_end b are = cases_by (nat_lt 0 fs.header) fs rows_end b refl are

-- the end of the rows of R
abbrev pub rows_end : List (List Cut) → Orders → Bounds → ℕ
rows_end sizes o b = (end_along sizes (cursor_at b.headers_end) (runs (rows_in o R))).at

pub spots : (sizes : List (List Cut)) (o : Orders) (fs : FrameSizes) (b : Bounds) → AreBounds sizes o fs b
    → AreLast fs (rows_end sizes o b) b ⊎ AreNowhere fs (rows_end sizes o b) b
spots sizes o fs b is = frame_cases fs (rows_end sizes o b) b is.frames_are

-- R ends not before its rows, and not much after them
pub r_between : (sizes : List (List Cut)) (o : Orders) (fs : FrameSizes) (b : Bounds) → AreBounds sizes o fs b
    → ((end_along sizes (cursor_at b.headers_end) (runs (rows_in o R))).at ≤ b.r_end)
    × (b.r_end ≤ (end_along sizes (cursor_at b.headers_end) (runs (rows_in o R))).at + (fs.header + fs.frame + 12))
r_between sizes o fs b is = elim (spots sizes o fs b is) [
  | inl last ↦ (
    omega (arith, last.first, last.header, last.between, last.frames, last.end),
    omega (arith, last.near, last.header, last.next, last.frames, last.end),
  )
  | inr none ↦ (omega (arith, none.end), omega (arith, none.end))
]

-- they have their bytes and their alignments
pub has_them : (sizes : List (List Cut)) (o : Orders) (fs : FrameSizes) (b : Bounds) → AreBounds sizes o fs b → HasFrames fs b
has_them sizes o fs b is = elim (spots sizes o fs b is) [
  | inl last ↦ record {
    has = last.has ∙ sym last.some;
    header = last.header;
    frame = λ has. last.frames;
    none = λ has. let wrong : true ≡ false = sym last.has ∙ has in cc;
    header_aligned = last.header_aligned;
    frames_aligned = last.frames_aligned;
  }
  | inr none ↦
      let empty : fs.header ≡ 0 = no_bytes none.none in
      let header : b.frame_header ≡ IMAGE_BASE = none.header in
      let frames : b.frames ≡ IMAGE_BASE = none.frames in
      record {
        has = none.has ∙ sym none.none;
        header = omega (arith, empty, header, none.header_end);
        frame = λ has. let wrong : false ≡ true = sym none.has ∙ has in cc;
        none = λ has. none.frames_end ∙ sym frames;
        header_aligned = subst (λ x. x % 4 ≡ 0) (sym header) refl;
        frames_aligned = subst (λ x. x % 8 ≡ 0) (sym frames) refl;
      }
]
  where
    no_bytes : nat_lt 0 fs.header ≡ false → fs.header ≡ 0
    no_bytes none = grind (arith, nat_tests)
