-- What the limits of a link say of the sections that are merged.
use Rattle.std.proofs.Common.{◌≡◌, ℕ, zero, suc, ◌+◌, ◌*◌, ◌<◌, ◌≤◌, ◌^◌, ◌&&◌, Bool, true, false, List, [], ◌∷◌, ◌++◌, length, map, take, drop, sum, refl, sym, ap, ◌∙◌, arith}
use Rattle.std.specs.Prelude.{All, flat_map, if◌then◌else◌}
use Rattle.std.specs.List.{range_with_len, sum_by}
use Rattle.std.proofs.lemmas.Bool.{and_parts, ltb-true}
use Rattle.std.proofs.lemmas.List.{length-append, length-drop, length-take}
use Rattle.std.proofs.lemmas.List.Elements.{All-head, All-tail}
use Rattle.std.proofs.lemmas.List.Sums.{sum_by-append, sum_by-cons}
use Rattle.lk_base.specs.declared.abi.TheConstants.{ALIGN_MAX, FILE_MAX}
use Rattle.lk_tables.specs.declared.tables.Tables.{Tables}
use Rattle.lk_tables.specs.Files.{File, by_section, file_at, section_at, section_count, section_no, section_total, writes}
use Rattle.lk_tables.specs.Inside.{IsLinked}
use Rattle.lk_tables.specs.TablesView.{files_of}
use Rattle.lk_tables.proofs.BoundHas.{each_flat, one_if}
use Rattle.lk_tables.proofs.LiveFiles.{live_from}
use Rattle.lk_tables.proofs.Owners.{written_within}
use Rattle.lk_tables.proofs.SoundFiles.{inside_body, sound_file}
use Rattle.link_sections.specs.Leaders.{is_kept}
use Rattle.link_sections.specs.MergeSections.{contents, is_mergeable, pieces_in, pool_key}
use Rattle.link_sections.specs.Merging.{Site, is_merge, piece_count, pieces_at, site, site_at, site_key, site_pieces, sites, sites_in}
use Rattle.str_merge.specs.Small.{AreSmall, AreWritten, IsShort, piece_room, site_room}
use Rattle.str_merge.proofs.PieceLaws.{pieces_together, some_contents, together}
use Rattle.str_merge.proofs.SiteRows.{sites_most}

-- lists one after the other, element by element
pub flat_sum : {X Y : Type 0} (w : Y → ℕ) (f : X → List Y) (xs : List X) → sum_by w (flat_map f xs) ≡ sum_by (λ x. sum_by w (f x)) xs
flat_sum w f [] = refl
flat_sum w f (x ∷ xs) =
    omega (arith, sum_by-append w (f x) (flat_map f xs), flat_sum w f xs, sum_by-cons (λ x. sum_by w (f x)) x xs)

pub flat_long : {X Y : Type 0} (f : X → List Y) (xs : List X) → length (flat_map f xs) ≡ sum_by (λ x. length (f x)) xs
flat_long f [] = refl
flat_long f (x ∷ xs) = omega (arith, length-append (f x) (flat_map f xs), flat_long f xs, sum_by-cons (λ x. length (f x)) x xs)

-- the bytes of pieces
abbrev bytes_in : List (List ℕ) → ℕ
bytes_in pieces = sum_by (λ (p : List ℕ). length p) pieces

rooms : (pieces : List (List ℕ)) → sum_by piece_room pieces ≡ bytes_in pieces + length pieces * 1048576
rooms [] = refl
rooms (p ∷ ps) =
    let room : sum_by piece_room (p ∷ ps) ≡ (length p + 1048576) + sum_by piece_room ps = sum_by-cons piece_room p ps in
    let own : bytes_in (p ∷ ps) ≡ length p + bytes_in ps = sum_by-cons (λ (p : List ℕ). length p) p ps in
    omega (arith, room, own, rooms ps)

together_long : (lists : List (List ℕ)) → length (together lists) ≡ bytes_in lists
together_long lists = flat_long (λ (list : List ℕ). list) lists

-- the sections of a link, row by row
row_sum : (w : Site → ℕ) (g : ℕ → ℕ) (row : ℕ → List Site) (a n : ℕ) → ((k : ℕ) → a ≤ k → k < a + n → sum_by w (row k) ≤ g k) →
    sum_by w (flat_map row (range_with_len a n)) ≤ sum (map g (range_with_len a n))
row_sum w g row a zero each = omega arith
row_sum w g row a (suc n) each =
    let here = each a (omega arith) (omega arith) in
    let rest = row_sum w g row (a + 1) n (λ k low high. each k (omega arith) (omega arith)) in
    let more : sum (map g (range_with_len a (suc n))) ≡ g a + sum (map g (range_with_len (a + 1) n)) = sum_by-cons (λ (n : ℕ). n) (g a) (map g (range_with_len (a + 1) n)) in
    omega (arith, here, rest, more, sum_by-append w (row a) (flat_map row (range_with_len (a + 1) n)))

file_sum : (w : Site → ℕ) (out : ℕ → List ℕ) (row : ℕ → List Site) (a n : ℕ) → ((f : ℕ) → a ≤ f → f < a + n → sum_by w (row f) ≤ sum (out f)) →
    sum_by w (flat_map row (range_with_len a n)) ≤ sum (flat_map out (range_with_len a n))
file_sum w out row a zero each = omega arith
file_sum w out row a (suc n) each =
    let here = each a (omega arith) (omega arith) in
    let rest = file_sum w out row (a + 1) n (λ k low high. each k (omega arith) (omega arith)) in
    let more : sum (flat_map out (range_with_len a (suc n))) ≡ sum (out a) + sum (flat_map out (range_with_len (a + 1) n)) =
    sum_by-append (λ (n : ℕ). n) (out a) (flat_map out (range_with_len (a + 1) n)) in
    omega (arith, here, rest, more, sum_by-append w (row a) (flat_map row (range_with_len (a + 1) n)))

one_sum : (w : Site → ℕ) (b : Bool) (s : Site) (n : ℕ) → (b ≡ true → w s ≤ n) → sum_by w (if b then s ∷ [] else []) ≤ n
one_sum w true s n own = let le = own refl in omega (arith, le, sum_by-cons w s [])
one_sum w false s n own = omega arith

site_sum : (w : Site → ℕ) (files : List File) (kept : List Bool) (f k n : ℕ) → (is_merge files kept f k ≡ true → w (site files kept f k) ≤ n) → sum_by w (site_at files kept f k) ≤ n
unfolding site_at
site_sum w files kept f k n own = one_sum w (is_merge files kept f k) (site files kept f k) n own

sites_sum : (w : Site → ℕ) (g : ℕ → ℕ → ℕ) (files : List File) (kept : List Bool) →
    ((f k : ℕ) → f < length files → k < section_count (file_at files f) → is_merge files kept f k ≡ true → w (site files kept f k) ≤ g f k) → sum_by w (sites files kept) ≤ sum (by_section files g)
unfolding sites sites_in by_section
sites_sum w g files kept each =
    file_sum w (λ f. map (g f) (range_with_len 0 (section_count (file_at files f)))) (sites_in files kept) 0 (length files) (λ f from to.
    row_sum w (g f) (site_at files kept f) 0 (section_count (file_at files f)) (λ k low high.
    site_sum w files kept f k (g f k) (λ is. each f k (omega arith) (omega arith) is)))

sites_all : (P : Site → Type 0) (files : List File) (kept : List Bool) →
    ((f k : ℕ) → f < length files → k < section_count (file_at files f) → is_merge files kept f k ≡ true → P (site files kept f k)) → All P (sites files kept)
unfolding sites sites_in site_at
sites_all P files kept each =
    each_flat P (sites_in files kept) 0 (length files) (λ f lt.
    each_flat P (site_at files kept f) 0 (section_count (file_at files f)) (λ k low.
    one_if P (is_merge files kept f k) (site files kept f k) (λ is. each f k (omega (arith, lt)) (omega (arith, low)) is)))

-- a section that is merged
mergeable : (files : List File) (kept : List Bool) (f k : ℕ) → is_merge files kept f k ≡ true → is_mergeable (file_at files f) k ≡ true
unfolding is_merge
mergeable files kept f k is = (and_parts (is_kept kept (section_no files f k)) (is_mergeable (file_at files f) k) is).1

counted : (files : List File) (kept : List Bool) (f k : ℕ) → is_merge files kept f k ≡ true → writes (file_at files f) k ≡ true → length (pieces_in (file_at files f) k) ≤ pieces_at files f k
unfolding pieces_at
counted files kept f k is written =
    let both : (writes (file_at files f) k && is_mergeable (file_at files f) k) ≡ true =
    ap (λ b. b && is_mergeable (file_at files f) k) written ∙ mergeable files kept f k is in
    let same = ap (λ b. if b then length (pieces_in (file_at files f) k) else 0) both in
    omega (arith, same)

site_bytes : (files : List File) (kept : List Bool) (f k : ℕ) → is_merge files kept f k ≡ true → bytes_in (pieces_in (file_at files f) k) ≡ length (contents (file_at files f) k)
site_bytes files kept f k is = sym (together_long (pieces_in (file_at files f) k)) ∙ ap length (pieces_together (file_at files f) k (mergeable files kept f k is))

short_site : (tables : Tables) (kept : List Bool) (f k : ℕ) → k < section_count (file_at (files_of tables) f) → is_merge (files_of tables) kept f k ≡ true →
    IsShort (files_of tables) (site (files_of tables) kept f k)
unfolding contents
short_site tables kept f k lt is =
    let file : File = file_at (files_of tables) f in
    let s = section_at file k in
    let short : length file.bytes ≤ FILE_MAX = (sound_file tables f (live_from file k lt)).short in
    let some : 0 < length (take s.size (drop s.offset file.bytes)) = some_contents file k (mergeable (files_of tables) kept f k is) in
    let taken = length-take s.size (drop s.offset file.bytes) in
    let left = length-drop s.offset file.bytes in
    record { from = omega (arith, short, some, taken, left); len = omega (arith, short, taken, left) }

aligned_site : (tables : Tables) (kept : List Bool) (f k : ℕ) → k < section_count (file_at (files_of tables) f) → writes (file_at (files_of tables) f) k ≡ true →
    (site_key (files_of tables) (site (files_of tables) kept f k)).align ≤ 2 ^ 20
unfolding pool_key
aligned_site tables kept f k lt written =
    let file : File = file_at (files_of tables) f in
    let both = and_parts _ _ written in
    let low : 0 < k = ltb-true 0 k both.0 in
    let linked : IsLinked (length file.head.sections) (section_at file k) =
    (inside_body file (sound_file tables f (live_from file k lt))).linked k _ (written_within file k written) low both.1 in
    let most : (section_at file k).align ≤ ALIGN_MAX = linked.align.most in
    omega (arith, most)

-- the room of the pieces of sections of few bytes
rooms_most : (files : List File) (ss : List Site) → All (λ s. bytes_in (site_pieces files s) < 2 ^ 31) ss →
    sum_by (site_room files) ss ≤ length ss * 2147483648 + sum_by (λ s. length (site_pieces files s)) ss * 1048576
rooms_most files [] all = omega arith
rooms_most files (s ∷ ss) all =
    let P : Site → Type 0 = λ s. bytes_in (site_pieces files s) < 2 ^ 31 in
    let short : bytes_in (site_pieces files s) < 2 ^ 31 = All-head P s ss all in
    let own = rooms (site_pieces files s) in
    let room : sum_by (site_room files) (s ∷ ss) ≡ sum_by piece_room (site_pieces files s) + sum_by (site_room files) ss = sum_by-cons (site_room files) s ss in
    let count : sum_by (λ s. length (site_pieces files s)) (s ∷ ss) ≡ length (site_pieces files s) + sum_by (λ s. length (site_pieces files s)) ss =
    sum_by-cons (λ (s : Site). length (site_pieces files s)) s ss in
    let rest = rooms_most files ss (All-tail P s ss all) in
    omega (arith, short, own, room, count, rest)

pub small_of : (tables : Tables) (kept : List Bool) → AreWritten (files_of tables) kept → section_total (files_of tables) ≤ 2 ^ 28 → piece_count (files_of tables) < 2 ^ 31 →
    AreSmall (files_of tables) kept
unfolding piece_count
small_of tables kept written few pieces =
    let files = files_of tables in
    let all = sites files kept in
    let most = sites_most files kept in
    let count : length (flat_map (site_pieces files) all) ≡ sum_by (λ s. length (site_pieces files s)) all = flat_long (site_pieces files) all in
    let counts : sum_by (λ s. length (site_pieces files s)) all ≤ sum (by_section files (pieces_at files)) =
    sites_sum (λ s. length (site_pieces files s)) (pieces_at files) files kept (λ f k lt low is. counted files kept f k is (written f k lt low is)) in
    let shorts : All (λ s. bytes_in (site_pieces files s) < 2 ^ 31) all =
    sites_all (λ s. bytes_in (site_pieces files s) < 2 ^ 31) files kept
    (λ f k lt low is. let short = (short_site tables kept f k low is).len in omega (arith, short, site_bytes files kept f k is)) in
    let room = rooms_most files all shorts in
    record {
      sections = omega (arith, most, few);
      pieces = omega (arith, count, counts, pieces);
      bytes = omega (arith, room, most, few, counts, pieces);
      aligned = sites_all (λ s. (site_key files s).align ≤ 2 ^ 20) files kept (λ f k lt low is. aligned_site tables kept f k low (written f k lt low is));
      short = sites_all (IsShort files) files kept (λ f k lt low is. short_site tables kept f k low is);
    }
