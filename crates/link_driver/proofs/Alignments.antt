-- The nops of an alignment are a cut of its section, and what stands after those that are kept is aligned.
use Rattle.std.proofs.Common.{◌≡◌, ℕ, zero, suc, ◌+◌, ◌-◌, ◌*◌, ◌/◌, ◌%◌, ◌<◌, ◌≤◌, ◌==◌, ◌&&◌, ◌||◌, Bool, true, false, cond, if◌then◌else◌, List, [], ◌∷◌, ◌++◌, length, map, get_or, refl, sym, ap, ap₂, ◌∙◌, subst, arith, append_assoc, append-nil, nat_lt}
use Rattle.std.specs.Prelude.{All}
use Rattle.std.specs.List.{filter, list_any, range_with_len}
use Rattle.std.proofs.lemmas.Bool.{and_from, and_parts, eq-eqb, eqb-true, false≢true, ltb-true, or_left, or_right}
use Rattle.std.proofs.lemmas.List.Elements.{All-nil, All-head, All-tail, All-cons}
use Rattle.std.proofs.lemmas.List.FromFn.{get_or-range_with_len, length-range_with_len}
use Rattle.std.proofs.lemmas.Nat.{div-add-mod', mod_below}
use native.Mathlib.Nat.{add-mod-mod, add-mod_right, mul-mod_left}
use Rattle.lk_tables.specs.declared.objects.Reloc.{Reloc}
use Rattle.lk_tables.specs.Files.{no_reloc}
use Rattle.lk_tables.specs.Relocations.{is_alignment, place_width}
use Rattle.link_sections.specs.Calls.{is_call}
use Rattle.link_sections.specs.Cuts.{AreApart, Cut, new_offset}
use Rattle.link_sections.proofs.CutSums.{by_cut}
use Rattle.layout.specs.Cutting.{boundary, kept_at, laid_cut, laid_cuts, needed}
use Rattle.layout.proofs.CutsPassed.{AreFrom, apart_from, offset_more}
use Rattle.layout.proofs.LaidCuts.{laid_are, laid_rest}
use Rattle.relax.specs.CallSizes.{cut_of, cuts_by, is_cut}
use Rattle.relax.specs.Sizes.{has_nops}
use Rattle.reloc_apply.specs.Staying.{no_cut}
use Rattle.reloc_apply.proofs.LaidFacts.{any_at}
use Rattle.link_driver.specs.Code.{IsAligned}
use Rattle.link_driver.proofs.Evens.{above_some}

-- an alignment of so many bytes at an offset
abbrev is_align_at : (offset whole : ℕ) → Cut → Bool
is_align_at offset whole c = c.at == offset && (c.whole == whole && c.is_align)

nops_taken : (size : ℕ) (r : Reloc) → has_nops r ≡ true → is_cut size r ≡ true
unfolding is_cut
nops_taken size r nops = or_left (has_nops r) (is_call r.kind && nat_lt size 8) nops

nops_here : (size : ℕ) (r : Reloc) → has_nops r ≡ true → is_align_at r.offset (place_width r) (cut_of size r) ≡ true
unfolding cut_of has_nops
nops_here size r nops =
    let align = (and_parts (is_alignment r) (nat_lt 0 (place_width r)) nops).0 in
    let wide = and_from (place_width r == place_width r) (is_alignment r) (eq-eqb (place_width r) (place_width r) refl) align in
    and_from (r.offset == r.offset) (place_width r == place_width r && is_alignment r) (eq-eqb r.offset r.offset refl) wide

nops_some : (r : Reloc) → has_nops r ≡ true → 0 < place_width r
unfolding has_nops
nops_some r nops = ltb-true 0 (place_width r) (and_parts (is_alignment r) (nat_lt 0 (place_width r)) nops).1

-- an element that stays is among those that stay
any_here : {X Y : Type 0} (q : Y → Bool) (f : X → Y) (x : X) (ys : List X) (t : Bool) → t ≡ true → q (f x) ≡ true → list_any q (map f (cond t (x ∷ ys) ys)) ≡ true
any_here q f x ys true e is = or_left (q (f x)) (list_any q (map f ys)) is
any_here q f x ys false e is = absurd (false≢true e)

any_later : {X Y : Type 0} (q : Y → Bool) (f : X → Y) (x : X) (ys : List X) (t : Bool) → list_any q (map f ys) ≡ true → list_any q (map f (cond t (x ∷ ys) ys)) ≡ true
any_later q f x ys true rest = or_right (q (f x)) (list_any q (map f ys)) rest
any_later q f x ys false rest = rest

any_kept : {X Y : Type 0} (q : Y → Bool) (f : X → Y) (p : X → Bool) (xs : List X) (k : ℕ) (d : X) → k < length xs → p (get_or xs k d) ≡ true → q (f (get_or xs k d)) ≡ true
    → list_any q (map f (filter p xs)) ≡ true
any_kept q f p [] k d lt passes is = absurd (omega (arith, lt))
any_kept q f p (x ∷ xs) zero d lt passes is = any_here q f x (filter p xs) (p x) passes is
any_kept q f p (x ∷ xs) (suc k) d lt passes is = any_later q f x (filter p xs) (p x) (any_kept q f p xs k d (omega (arith, lt)) passes is)

any_cut : (sizes : ℕ → ℕ) (relocs : List Reloc) (k : ℕ) → k < length relocs → has_nops (get_or relocs k no_reloc) ≡ true
    → list_any (is_align_at (get_or relocs k no_reloc).offset (place_width (get_or relocs k no_reloc))) (cuts_by sizes relocs) ≡ true
any_cut sizes relocs k lt nops =
    let r : Reloc = get_or relocs k no_reloc in
    let wanted : ℕ → Bool = λ j. is_cut (sizes j) (get_or relocs j no_reloc) in
    let cut : ℕ → Cut = λ j. cut_of (sizes j) (get_or relocs j no_reloc) in
    let test : Cut → Bool = is_align_at r.offset (place_width r) in
    let own : get_or (range_with_len 0 (length relocs)) k 0 ≡ k = omega (arith, get_or-range_with_len 0 (length relocs) k 0 lt) in
    any_kept test cut wanted (range_with_len 0 (length relocs)) k 0 (omega (arith, lt, length-range_with_len 0 (length relocs)))
    (ap wanted own ∙ nops_taken (sizes k) r nops) (ap (λ (j : ℕ). test (cut j)) own ∙ nops_here (sizes k) r nops)

-- also once the cuts are laid
any_laid : (q : Cut → Bool) (start : ℕ) → ((before : List Cut) (c : Cut) → q (laid_cut start before c) ≡ q c) → (before cuts : List Cut) → list_any q (laid_rest start before cuts) ≡ list_any q cuts
any_laid q start same before [] = refl
any_laid q start same before (c ∷ cs) = ap₂ (λ (s t : Bool). s || t) (same before c) (any_laid q start same (before ++ laid_cut start before c ∷ []) cs)

still_align : (offset whole start : ℕ) (before : List Cut) (c : Cut) → is_align_at offset whole (laid_cut start before c) ≡ is_align_at offset whole c
unfolding laid_cut
still_align offset whole start before c = refl

-- an alignment keeps what it needs at its address, which the cuts after it do not move
abbrev KeepsNeeded : (start : ℕ) → (cuts : List Cut) → Cut → Type 0
KeepsNeeded start cuts c = c.is_align ≡ true → c.kept ≡ needed (start + new_offset cuts c.at) c.whole

low_all : (o from : ℕ) (cuts : List Cut) → o ≤ from → AreFrom from cuts → All (λ c. o ≤ c.at) cuts
low_all o from [] le are = All-nil (λ (c : Cut). o ≤ c.at)
low_all o from (c ∷ cs) le are =
    let low = are.0 in
    All-cons (λ (x : Cut). o ≤ x.at) c cs (omega (arith, le, low)) (low_all o (c.at + c.whole) cs (omega (arith, le, low)) are.1)

offset_rest : (before cuts : List Cut) (o : ℕ) → All (λ c. o ≤ c.at) cuts → new_offset (before ++ cuts) o ≡ new_offset before o
offset_rest before [] o all = ap (λ (l : List Cut). new_offset l o) (append-nil before)
offset_rest before (c ∷ cs) o all =
    ap (λ (l : List Cut). new_offset l o) (sym (append_assoc before (c ∷ []) cs))
    ∙ offset_rest (before ++ c ∷ []) cs o (All-tail (λ (x : Cut). o ≤ x.at) c cs all)
    ∙ offset_more before c o (All-head (λ (x : Cut). o ≤ x.at) c cs all)

one_keeps : (start : ℕ) (before : List Cut) (c : Cut) (cuts : List Cut) → new_offset before (laid_cut start before c).at ≡ new_offset cuts (laid_cut start before c).at
    → KeepsNeeded start cuts (laid_cut start before c)
unfolding laid_cut kept_at
one_keeps start before c cuts same align = ap (λ t. if t then needed (start + new_offset before c.at) c.whole else c.kept) align ∙ ap (λ o. needed (start + o) c.whole) same

rest_keeps : (start from : ℕ) (before cuts : List Cut) → AreFrom from (laid_rest start before cuts) → All (KeepsNeeded start (before ++ laid_rest start before cuts)) (laid_rest start before cuts)
rest_keeps start from before [] are = All-nil (KeepsNeeded start (before ++ []))
rest_keeps start from before (c ∷ cs) are =
    let l : Cut = laid_cut start before c in
    let rest : List Cut = laid_rest start (before ++ l ∷ []) cs in
    let later : All (λ (x : Cut). l.at ≤ x.at) (l ∷ rest) = low_all l.at l.at (l ∷ rest) (omega arith) (omega arith, are.1) in
    All-cons (KeepsNeeded start (before ++ l ∷ rest)) l rest (one_keeps start before c (before ++ l ∷ rest) (sym (offset_rest before (l ∷ rest) l.at later)))
    (subst (λ (x : List Cut). All (KeepsNeeded start x) rest) (append_assoc before (l ∷ []) rest) (rest_keeps start (l.at + l.whole) (before ++ l ∷ []) cs are.1))

-- so many bytes after an address are a multiple of the boundary
reaches : (a b : ℕ) → 0 < b → (a + (b - a % b) % b) % b ≡ 0
reaches a b some =
    let whole : a / b * b + a % b ≡ a = div-add-mod' a b in
    let less : a % b < b = mod_below a b some in
    let sum : a + (b - a % b) ≡ a / b * b + b = omega (arith, whole, less) in
    add-mod-mod a (b - a % b) b ∙ ap (λ (n : ℕ). n % b) sum ∙ add-mod_right (a / b * b) b ∙ mul-mod_left (a / b) b

needed_reaches : (address whole : ℕ) → (address + needed address whole) % boundary whole ≡ 0
unfolding needed boundary
needed_reaches address whole = reaches address (boundary whole) (above_some 64 1 whole (omega arith))

pub aligned_at : (sizes : ℕ → ℕ) (relocs : List Reloc) (start k : ℕ) (cuts : List Cut) → cuts ≡ laid_cuts start (cuts_by sizes relocs) → AreApart cuts → k < length relocs
    → has_nops (get_or relocs k no_reloc) ≡ true → IsAligned start cuts (get_or relocs k no_reloc)
aligned_at sizes relocs start k cuts is apart lt nops =
    let r : Reloc = get_or relocs k no_reloc in
    let w : ℕ = place_width r in
    let plain : List Cut = cuts_by sizes relocs in
    let same : cuts ≡ laid_rest start [] plain = is ∙ laid_are start plain in
    let test : Cut → Bool = is_align_at r.offset w in
    let any : list_any test cuts ≡ true = ap (list_any test) same ∙ any_laid test start (still_align r.offset w start) [] plain ∙ any_cut sizes relocs k lt nops in
    let found = any_at test cuts no_cut any in
    let i : ℕ = found.0 in
    let low : i < length cuts = found.1 in
    let c : Cut = get_or cuts i no_cut in
    let parts = and_parts (c.at == r.offset) (c.whole == w && c.is_align) found.2 in
    let more = and_parts (c.whole == w) c.is_align parts.1 in
    let at : c.at ≡ r.offset = eqb-true c.at r.offset parts.0 in
    let whole : c.whole ≡ w = eqb-true c.whole w more.0 in
    let keep : All (KeepsNeeded start cuts) cuts =
    subst (λ (l : List Cut). All (KeepsNeeded start l) l) (sym same) (rest_keeps start 0 [] plain (subst (AreFrom 0) same (apart_from cuts apart))) in
    let kept : c.kept ≡ needed (start + new_offset cuts c.at) c.whole = keep i no_cut low more.1 in
    let most : c.kept ≤ c.whole = apart.kept i no_cut low in
    let some : 0 < w = nops_some r nops in
    let both = by_cut cuts i (c.at + c.whole) no_cut apart low (omega (arith, some, whole)) (λ next. apart.order i no_cut next) in
    let moved = both.0 in
    let end : new_offset cuts (c.at + c.whole) ≡ new_offset cuts c.at + c.kept = omega (arith, moved, most) in
    let here : new_offset cuts (r.offset + w) ≡ new_offset cuts (c.at + c.whole) = ap₂ (λ (x y : ℕ). new_offset cuts (x + y)) (sym at) (sym whole) in
    let address : ℕ = start + new_offset cuts c.at in
    let need : c.kept ≡ needed address w = kept ∙ ap (needed address) whole in
    let after : start + new_offset cuts (r.offset + w) ≡ address + needed address w = omega (arith, here, end, need) in
    record { index = i; among = low; at = at; whole = whole; is_align = more.1; after = ap (λ (n : ℕ). n % boundary w) after ∙ needed_reaches address w }
