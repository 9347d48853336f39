-- Results in order: the files that were loaded.
use Rattle.std.proofs.Common.{◌≡◌, ℕ, zero, suc, ◌+◌, ◌<◌, ◌≤◌, Bool, true, false, List, [], ◌∷◌, ◌++◌, All, IsPermutation, length, map, get_or, refl, sym, ap, ◌∙◌, subst, arith, append_assoc}
use Rattle.std.specs.Prelude.{bytes_eq, sum_by, Ok, Result}
use Rattle.std.specs.Bool.{Decides}
use Rattle.std.specs.List.{range_with_len}
use Rattle.std.specs.Global.{Vec}
use Rattle.std.proofs.lemmas.List.{ext_get_or, get_or-map, length-map, length_push, get_or_at}
use Rattle.std.proofs.lemmas.List.Elements.{All-cons, All-head, All-tail}
use Rattle.std.proofs.lemmas.List.Sorted.{All-permutation}
use Rattle.std.proofs.lemmas.List.Sums.{sum_by-cons, get_or-le-sum_by}
use Rattle.std.proofs.lemmas.Slice.Eq.{bytes_eq-Decides}
use Rattle.lk_depot.specs.Loading.{AreContents}
use Rattle.lk_depot.specs.Store.{Store}
use Rattle.lk_depot.specs.declared.stops.LoadAllStop.{LoadAllStop}
use Rattle.piped_reads.specs.declared.files.PipedFile.{PipedFile}
use Rattle.piped_reads.specs.declared.files.Took.{Took}
use Rattle.piped_reads.specs.declared.pieces.Piece.{Piece}
use Rattle.piped_reads.specs.declared.pieces.Piece.TheVariants.{Loaded, End}
use Rattle.piped_reads.specs.Loads.{AreOfLoaded, AreReadBelow, LoadsEnd, bytes_of_files, file_pieces, items_of, numbered, piece_of, took_of, weight_of}
use Rattle.piped_reads.specs.Readings.{IsPiped}

-- one more file in order
pub numbered_push : (first : ℕ) (files : List PipedFile) (file : PipedFile) → numbered first (files ++ file ∷ []) ≡ numbered first files ++ took_of (first + length files) file ∷ []
numbered_push first [] file = let same : first ≡ first + 0 = omega arith in ap (λ (k : ℕ). took_of k file ∷ []) same
numbered_push first (one ∷ files) file =
    let same : first + 1 + length files ≡ first + suc (length files) = omega arith in
    ap (λ l. took_of first one ∷ l) (numbered_push (first + 1) files file)
    ∙ ap (λ (k : ℕ). took_of first one ∷ (numbered (first + 1) files ++ took_of k file ∷ [])) same

abbrev cost : Bool → ℕ
cost true = 0
cost false = 1

-- the next result of a list that is in order
length_numbered : (first : ℕ) (files : List PipedFile) → length (numbered first files) ≡ length files
length_numbered first [] = refl
length_numbered first (file ∷ files) = ap suc (length_numbered (first + 1) files)

pub next_numbered : (yielded : List Took) (one : Took) (files more : List PipedFile) (at : ℕ) → yielded ≡ numbered 0 files → at ≡ length yielded → one.index ≡ at → more ≡ files ++ one.file ∷ []
    → yielded ++ one ∷ [] ≡ numbered 0 more
next_numbered yielded one files more at so_far count here push =
    let place : one.index ≡ 0 + length files = omega (arith, here, count, ap (λ (l : List Took). length l) so_far, length_numbered 0 files) in
    (λ i. so_far i ++ took_of (place i) one.file ∷ []) ∙ sym (numbered_push 0 files one.file) ∙ ap (numbered 0) (sym push)

-- a piece whose bytes are not those of its index
abbrev wrong : List (List ℕ) → Piece → ℕ
wrong contents (Loaded index bytes) = cost (bytes_eq bytes.items (get_or contents index []))
wrong contents (End number) = 0

right_bytes : (b : Bool) → b ≡ true → cost b ≡ 0
right_bytes true e = refl
right_bytes false e = cc

none_wrong : (front : List (List ℕ)) (buffers : List (Vec ℕ)) (first : ℕ) (contents : List (List ℕ)) → length front ≡ first → contents ≡ front ++ items_of buffers → sum_by (wrong contents) (file_pieces first buffers) ≡ 0
none_wrong front [] first contents long are = refl
none_wrong front (bytes ∷ buffers) first contents long are =
    let at : get_or contents first [] ≡ bytes.items = ap (λ (l : List (List ℕ)). get_or l first []) are ∙ get_or_at front bytes.items (items_of buffers) [] first long in
    let here : wrong contents (Loaded first bytes) ≡ 0 = right_bytes (bytes_eq bytes.items (get_or contents first [])) ((bytes_eq-Decides bytes.items (get_or contents first [])).1 (sym at)) in
    let rest = none_wrong (front ++ bytes.items ∷ []) buffers (first + 1) contents (length_push front bytes.items ∙ ap (λ (k : ℕ). k + 1) long) (are ∙ sym (append_assoc front (bytes.items ∷ []) (items_of buffers))) in
    omega (arith, sum_by-cons (wrong contents) (Loaded first bytes) (file_pieces (first + 1) buffers), here, rest)

marks_weigh : (contents : List (List ℕ)) (from count : ℕ) → sum_by (wrong contents) (map End (range_with_len from count)) ≡ 0
marks_weigh contents from zero = refl
marks_weigh contents from (suc count) =
    let rest = marks_weigh contents (from + 1) count in
    omega (arith, sum_by-cons (wrong contents) (End from) (map End (range_with_len (from + 1) count)), rest)

not_wrong : (b : Bool) (xs ys : List ℕ) → Decides b (xs ≡ ys) → cost b ≤ 0 → xs ≡ ys
not_wrong true xs ys d none = d.0 refl
not_wrong false xs ys d none = absurd (omega (arith, none))

-- each result has the bytes of its index
abbrev IsRight : List (List ℕ) → Took → Type 0
IsRight contents t = t.file.bytes.items ≡ get_or contents t.index []

all_right : (most : ℕ) (buffers : List (Vec ℕ)) (took : List Took) → AreOfLoaded most buffers took → All (IsRight (items_of buffers)) took
all_right most buffers took held = λ k d lt.
    let contents : List (List ℕ) = items_of buffers in
    let t : Took = get_or took k d in
    let a = none_wrong [] buffers 0 contents refl refl in
    let b = marks_weigh contents 0 held.marks in
    let most_of : weight_of (wrong contents) took ≤ 0 = omega (arith, held.once (wrong contents), a, b) in
    let one : wrong contents (piece_of t) ≤ 0 = omega (arith, most_of, get_or-le-sum_by (λ (u : Took). wrong contents (piece_of u)) took k d lt) in
    not_wrong (bytes_eq t.file.bytes.items (get_or contents t.index [])) t.file.bytes.items (get_or contents t.index []) (bytes_eq-Decides t.file.bytes.items (get_or contents t.index [])) one

-- files by number
in_place : (contents : List (List ℕ)) (first : ℕ) (files : List PipedFile) → All (IsRight contents) (numbered first files) → (k : ℕ) (d : PipedFile) → k < length files → (at : ℕ) → first + k ≡ at → (get_or files k d).bytes.items ≡ get_or contents at []
in_place contents first [] right k d lt at is = absurd (omega (arith, lt))
in_place contents first (file ∷ files) right zero d lt at is =
    let same : first ≡ at = omega (arith, is) in
    All-head (IsRight contents) (took_of first file) (numbered (first + 1) files) right ∙ ap (λ (j : ℕ). get_or contents j []) same
in_place contents first (file ∷ files) right (suc k) d lt at is =
    in_place contents (first + 1) files (All-tail (IsRight contents) (took_of first file) (numbered (first + 1) files) right) k d (omega (arith, lt)) at (omega (arith, is))

read_in_place : (most first : ℕ) (files : List PipedFile) → AreReadBelow most (numbered first files) → All (λ (file : PipedFile). IsPiped file × (file.by ≤ most)) files
read_in_place most first [] read = λ k d lt. absurd (omega (arith, lt))
read_in_place most first (file ∷ files) read =
    let P : Took → Type 0 = λ t. IsPiped t.file × (t.file.by ≤ most) in
    All-cons (λ (f : PipedFile). IsPiped f × (f.by ≤ most)) file files
    (All-head P (took_of first file) (numbered (first + 1) files) read)
    (read_in_place most (first + 1) files (All-tail P (took_of first file) (numbered (first + 1) files) read))

-- an element of a list that has a place
some_file : (files : List PipedFile) (k : ℕ) → k < length files → PipedFile
some_file [] k lt = absurd (omega (arith, lt))
some_file (file ∷ files) k lt = file

file_bytes : (contents : List (List ℕ)) (files : List PipedFile) → All (IsRight contents) (numbered 0 files) → (k : ℕ) → k < length files → get_or (bytes_of_files files) k [] ≡ get_or contents k []
file_bytes contents files right k lt =
    get_or-map (λ (file : PipedFile). file.bytes.items) files k (some_file files k lt) [] lt ∙ in_place contents 0 files right k (some_file files k lt) lt k (omega arith)

pub bytes_are : (most : ℕ) (buffers : List (Vec ℕ)) (took : List Took) (files : List PipedFile) → AreOfLoaded most buffers took → IsPermutation took (numbered 0 files) → length files ≡ length buffers → bytes_of_files files ≡ items_of buffers
bytes_are most buffers took files held moved long =
    let contents : List (List ℕ) = items_of buffers in
    let right : All (IsRight contents) (numbered 0 files) = All-permutation (IsRight contents) took (numbered 0 files) moved (all_right most buffers took held) in
    let as_many : length (bytes_of_files files) ≡ length contents = length-map files (λ (file : PipedFile). file.bytes.items) ∙ long ∙ sym (length-map buffers (λ (buffer : Vec ℕ). buffer.items)) in
    ext_get_or [] (bytes_of_files files) contents as_many (λ k lt. file_bytes contents files right k (omega (arith, lt, length-map files (λ (file : PipedFile). file.bytes.items))))

pub each_read : (most : ℕ) (buffers : List (Vec ℕ)) (took : List Took) (files : List PipedFile) → AreOfLoaded most buffers took → IsPermutation took (numbered 0 files) → All (λ (file : PipedFile). IsPiped file × (file.by ≤ most)) files
each_read most buffers took files held moved =
    read_in_place most 0 files (All-permutation (λ (t : Took). IsPiped t.file × (t.file.by ≤ most)) took (numbered 0 files) moved held.read)

-- all files were loaded, and there is one result for each
pub all_contents : (before after : Store) (names : List (List ℕ)) (buffers : List (Vec ℕ)) (stop : Result (Unit {0}) LoadAllStop) (done : Unit {0}) (most : ℕ) (took : List Took) (files : List PipedFile) → stop ≡ Ok done
    → LoadsEnd before after names (items_of buffers) stop → AreOfLoaded most buffers took → IsPermutation took (numbered 0 files) → length files ≡ length names
    → AreContents before.files names (bytes_of_files files) × (after.unread ≡ before.unread)
all_contents before after names buffers stop done most took files is loads held moved long =
    let ends : LoadsEnd before after names (items_of buffers) (Ok done) = subst (λ (s : Result (Unit {0}) LoadAllStop). LoadsEnd before after names (items_of buffers) s) is loads in
    let many : length buffers ≡ length names = sym (length-map buffers (λ (buffer : Vec ℕ). buffer.items)) ∙ ends.0.as_many in
    let same : bytes_of_files files ≡ items_of buffers = bytes_are most buffers took files held moved (long ∙ sym many) in
    (subst (AreContents before.files names) (sym same) ends.0, ends.1)
