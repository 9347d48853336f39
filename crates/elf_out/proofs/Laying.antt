-- Pieces laid over a block of a file, one after the other.
use Rattle.std.proofs.Common.{◌≡◌, ℕ, ◌+◌, ◌-◌, ◌<◌, ◌≤◌, List, [], ◌∷◌, ◌++◌, length, replicate, take, drop, slice_index, refl, ap, sym, ◌∙◌, arith}
use Rattle.std.proofs.lemmas.List.{ext_get_or, get_or-replicate, get_or-take, get_or-drop, length-replicate, length-take-le, length-drop}
use Rattle.std.proofs.lemmas.List.FromFn.{get_or-map-range_with_len, length-map-range_with_len}
use Rattle.elf_out.specs.Prepared.{IsFilledFrom}
use Rattle.reloc_apply.specs.Image.{Piece, ShowsFrom, over, byte_over, byte_at, image, piece}

pub over_append : (u i : ℕ) (ps qs : List Piece) → byte_over u (ps ++ qs) i ≡ byte_over (byte_over u ps i) qs i
over_append u i [] qs = refl
over_append u i (p ∷ ps) qs = over_append (over p u i) i ps qs

pub shows_both : (from : ℕ) (ps qs : List Piece) (a b c : List ℕ) → ShowsFrom from a b ps → ShowsFrom from b c qs → ShowsFrom from a c (ps ++ qs)
shows_both from ps qs a b c first second = (
  second.0 ∙ first.0,
  λ i lt. let within : i < length b = omega (arith, first.0) in
      second.1 i within ∙ ap (λ u. byte_over u qs (from + i)) (first.1 i lt) ∙ sym (over_append (slice_index a i) (from + i) ps qs),
)

-- the headers, the unwind records, the sections, and what follows them
pub shows_all : (from : ℕ) (head : Piece) (frames middle ends : List Piece) (o0 o1 o2 o3 o4 : List ℕ)
    → ShowsFrom from o0 o1 (head ∷ []) → ShowsFrom from o1 o2 frames → ShowsFrom from o2 o3 middle → ShowsFrom from o3 o4 ends
    → ShowsFrom from o0 o4 (head ∷ frames ++ (middle ++ ends))
shows_all from head frames middle ends o0 o1 o2 o3 o4 first second third fourth =
    shows_both from (head ∷ []) (frames ++ (middle ++ ends)) o0 o1 o4 first
    (shows_both from frames (middle ++ ends) o1 o2 o4 second (shows_both from middle ends o2 o3 o4 third fourth))

-- a byte of a file, and how long it is
pub image_byte : (ps : List Piece) (size i : ℕ) → i < size → slice_index (image ps size) i ≡ byte_at ps i
unfolding image
image_byte ps size i lt = get_or-map-range_with_len (byte_at ps) 0 size i i 0 lt (omega arith)

pub image_length : (ps : List Piece) (size : ℕ) → length (image ps size) ≡ size
unfolding image
image_length ps size = length-map-range_with_len (byte_at ps) 0 size

-- pieces over zeros make the file's bytes
pub over_zeros : (from : ℕ) (ps : List Piece) (old zeros out : List ℕ) → zeros ≡ replicate (length old) 0 → ShowsFrom from zeros out ps → IsFilledFrom from old out ps
over_zeros from ps old zeros out zeros_are shown =
    let n = length old in
    let same : length zeros ≡ n = ap length zeros_are ∙ length-replicate n 0 in (
      shown.0 ∙ same,
      λ i lt. let within : i < length zeros = omega (arith, lt, same) in
          shown.1 i within ∙ ap (λ u. byte_over u ps (from + i)) (ap (λ l. slice_index l i) zeros_are ∙ get_or-replicate n i 0 0 lt),
    )

-- and a block of these is that part of the file
pub filled : (from size : ℕ) (ps : List Piece) (old out : List ℕ) → from + length old ≤ size → IsFilledFrom from old out ps
    → out ≡ take (length old) (drop from (image ps size))
filled from size ps old out room is =
    let n = length old in
    let long : length out ≡ n = is.0 in
    let rest : length (drop from (image ps size)) ≡ size - from = length-drop from (image ps size) ∙ ap (λ k. k - from) (image_length ps size) in
    let wide : length (take n (drop from (image ps size))) ≡ n = length-take-le n (drop from (image ps size)) (omega (arith, rest)) in
    ext_get_or 0 out (take n (drop from (image ps size))) (long ∙ sym wide)
    (λ i lt. let below : i < n = omega (arith, long) in
    is.1 i below
    ∙ sym (get_or-take n (drop from (image ps size)) i 0 below ∙ get_or-drop from (image ps size) i 0
    ∙ image_byte ps size (from + i) (omega arith)))

pub part : (from size : ℕ) (ps : List Piece) (old zeros out : List ℕ) → from + length old ≤ size → zeros ≡ replicate (length old) 0
    → ShowsFrom from zeros out ps → out ≡ take (length old) (drop from (image ps size))
part from size ps old zeros out room zeros_are shown = filled from size ps old out room (over_zeros from ps old zeros out zeros_are shown)
