-- The entries of a relocation section in order of offset, by their numbers.
use Rattle.std.proofs.Common.{◌≡◌, ℕ, ◌+◌, ◌*◌, ◌<◌, Bool, true, false, nat_lt, cond, List, [], ◌∷◌, length, map, get_or, refl, sym, ap, ◌∙◌, arith}
use Rattle.std.specs.List.{All, range_with_len}
use Rattle.std.proofs.lemmas.List.{get_or-map, length-map}
use Rattle.std.proofs.lemmas.List.Elements.{All-from_recursion}
use Rattle.lk_base.specs.Order.{put_in, stable_order}
use Rattle.lk_base.specs.declared.abi.TheConstants.{RELA_SIZE}
use Rattle.lk_tables.specs.declared.heads.Section.{Section}
use Rattle.lk_tables.specs.Entries.{reloc_at}
use Rattle.lk_tables.specs.Numbers.{xword_at}
use Rattle.lk_tables.specs.Relocations.{in_order, rela_count, rela_place, reloc}
use Rattle.lk_tables.specs.Sections.{section_of}
use Rattle.lk_tables.proofs.SoundBody.{all_in_order}
use Rattle.eh_frame.specs.declared.sections.Entry.{Entry}
use Rattle.eh_frame.specs.Sections.{entry_at}

abbrev pub offset_of : Entry → ℕ
offset_of e = e.offset

abbrev pub number_of : Entry → ℕ
number_of e = e.number

either : (b : List ℕ) (i j k : ℕ) (c : Bool) (xs : List Entry) (js ks : List ℕ) → xs ≡ map (entry_at b i) js →
    cond c (entry_at b i k ∷ xs) (entry_at b i j ∷ (entry_at b i k ∷ map (entry_at b i) ks)) ≡ map (entry_at b i) (cond c (k ∷ js) (j ∷ (k ∷ ks)))
either b i j k true xs js ks is = ap (λ l. entry_at b i k ∷ l) is
either b i j k false xs js ks is = refl

put_same : (b : List ℕ) (i j : ℕ) (ks : List ℕ) →
    put_in offset_of (entry_at b i j) (map (entry_at b i) ks) ≡ map (entry_at b i) (put_in (λ k. (reloc b i k).offset) j ks)
put_same b i j [] = refl
put_same b i j (k ∷ ks) =
    either b i j k (nat_lt ((reloc b i k).offset) ((reloc b i j).offset)) (put_in offset_of (entry_at b i j) (map (entry_at b i) ks))
    (put_in (λ k. (reloc b i k).offset) j ks) ks (put_same b i j ks)

order_same : (b : List ℕ) (i : ℕ) (js : List ℕ) → stable_order offset_of (map (entry_at b i) js) ≡ map (entry_at b i) (stable_order (λ k. (reloc b i k).offset) js)
unfolding stable_order
order_same b i [] = refl
order_same b i (j ∷ js) =
    ap (put_in offset_of (entry_at b i j)) (order_same b i js) ∙ put_same b i j (stable_order (λ k. (reloc b i k).offset) js)

numbers_are : (b : List ℕ) (i : ℕ) (js : List ℕ) → map number_of (map (entry_at b i) js) ≡ js
numbers_are b i [] = refl
numbers_are b i (j ∷ js) = ap (λ l. j ∷ l) (numbers_are b i js)

pub entries_are : (b : List ℕ) (i : ℕ) (sorted : List Entry) → sorted ≡ stable_order offset_of (map (entry_at b i) (range_with_len 0 (rela_count b i))) →
    map number_of sorted ≡ in_order b i
entries_are b i sorted is =
    ap (map number_of) (is ∙ order_same b i (range_with_len 0 (rela_count b i)))
    ∙ numbers_are b i (stable_order (λ k. (reloc b i k).offset) (range_with_len 0 (rela_count b i)))

-- an entry as it is read
pub entry_is : (b : List ℕ) (i j offset : ℕ) (s : Section) → s ≡ section_of b i → offset ≡ xword_at b (s.offset + RELA_SIZE * j) →
    record { offset = offset; number = j } ≡ entry_at b i j
unfolding reloc_at
entry_is b i j offset s same read =
    let made : ℕ → Entry = λ n. record { offset = n; number = j } in
    ap made (read ∙ ap (λ (t : Section). xword_at b (t.offset + RELA_SIZE * j)) same)

-- each number is that of an entry of the section
abbrev pub no_entry : Entry
no_entry = record { offset = 0; number = 0 }

pub count_is : (b : List ℕ) (i : ℕ) (sorted : List Entry) → map number_of sorted ≡ in_order b i → length sorted ≡ length (in_order b i)
count_is b i sorted is = sym (length-map sorted number_of) ∙ ap length is

-- the entry at a place is that of this place in order
at_is : (b : List ℕ) (i : ℕ) (sorted slice : List Entry) (k : ℕ) (d : Entry) → slice ≡ sorted → map number_of sorted ≡ in_order b i → k < length (in_order b i) →
    (get_or slice k d).number ≡ get_or (in_order b i) k d.number
at_is b i sorted slice k d same is lt =
    let some : k < length sorted = omega (arith, lt, count_is b i sorted is) in
    ap (λ (l : List Entry). number_of (get_or l k d)) same ∙ sym (get_or-map number_of sorted k d d.number some) ∙ ap (λ (l : List ℕ). get_or l k d.number) is

pub number_low : (b : List ℕ) (i : ℕ) (sorted slice : List Entry) (k : ℕ) (d : Entry) → slice ≡ sorted → map number_of sorted ≡ in_order b i → k < length (in_order b i) →
    (get_or slice k d).number < rela_count b i
number_low b i sorted slice k d same is lt =
    let all : All (λ j. j < rela_count b i) (in_order b i) = All-from_recursion (λ j. j < rela_count b i) (in_order b i) (all_in_order b (λ j. j < rela_count b i) i (λ j low. low)) in
    omega (arith, at_is b i sorted slice k d same is lt, all k d.number lt)

pub place_is : (b : List ℕ) (i : ℕ) (s : Section) (sorted slice : List Entry) (k n : ℕ) → s ≡ section_of b i → slice ≡ sorted → map number_of sorted ≡ in_order b i →
    k < length (in_order b i) → n ≡ (get_or slice k no_entry).number → s.offset + RELA_SIZE * n ≡ rela_place b i (get_or (in_order b i) k 0)
place_is b i s sorted slice k n own same is lt read =
    ap (λ m. s.offset + RELA_SIZE * m) (read ∙ at_is b i sorted slice k no_entry same is lt)
    ∙ ap (λ (t : Section). t.offset + RELA_SIZE * get_or (in_order b i) k 0) own
