-- Keys are numbers of symbols, and relocations name symbols of their files.
use Rattle.std.proofs.Common.{ℕ, ◌<◌, ◌^◌, ◌==◌, Bool, true, false, cond, List, [], ◌∷◌, length, get_or, ap, arith, inl, inr}
use Rattle.std.specs.Prelude.{Some, find}
use Rattle.std.specs.List.{All}
use Rattle.std.specs.Str.{bytes_eq}
use Rattle.std.proofs.lemmas.Bool.{cases_lt}
use Rattle.std.proofs.lemmas.List.{get_or_past}
use Rattle.std.proofs.lemmas.List.Elements.{All-head, All-tail}
use Rattle.lk_base.specs.declared.abi.TheConstants.{STB_LOCAL}
use Rattle.lk_tables.specs.declared.objects.Reloc.{Reloc}
use Rattle.lk_tables.specs.declared.tables.Tables.{Tables}
use Rattle.lk_tables.specs.Files.{AreFew, File, file_at, no_section, section_total, symbol_at, symbol_name, symbol_no, symbol_total}
use Rattle.lk_tables.specs.Inside.{IsBodyInside}
use Rattle.lk_tables.specs.NameNumbers.{Named, heads_alone, is_named, name_at, name_number, names, names_in, number_of, number_or}
use Rattle.lk_tables.specs.Sites.{place_of, relocs_of}
use Rattle.lk_tables.specs.TablesView.{files_of}
use Rattle.lk_tables.proofs.BoundHas.{each_flat, either, one_if}
use Rattle.lk_tables.proofs.ByNumber.{symbol_total_alone}
use Rattle.lk_tables.proofs.FirstNumbers.{first_within}
use Rattle.lk_tables.proofs.LiveFiles.{live_from}
use Rattle.lk_tables.proofs.Owners.{place_of_number}
use Rattle.lk_tables.proofs.SoundFiles.{inside_body, sound_file}
use Rattle.link_sections.specs.GotEntries.{key_of}

abbrev IsLow : (n : ℕ) → Named → Type 0
IsLow n name = name.at < n

names_low : (files : List File) → All (IsLow (symbol_total files)) (names files)
unfolding names names_in name_at
names_low files =
    each_flat (IsLow (symbol_total files)) (names_in files) 0 (length files) (λ f lt.
    each_flat (IsLow (symbol_total files)) (name_at files f) 0 (length (file_at files f).head.symbols) (λ i below.
    one_if (IsLow (symbol_total files)) (is_named (symbol_at (file_at files f) i)) (record { text = symbol_name (file_at files f) i; at = symbol_no files f i })
    (λ is. omega (arith, below, first_within files f (omega (arith, lt))))))

found_low : (p : Named → Bool) (n : ℕ) (list : List Named) → 0 < n → All (IsLow n) list → number_or (find p list) < n
found_low p n [] some all = some
found_low p n (x ∷ xs) some all = go (p x) (All-head (IsLow n) x xs all) (found_low p n xs some (All-tail (IsLow n) x xs all))
  where
    go : (b : Bool) → x.at < n → number_or (find p xs) < n → number_or (cond b (Some x) (find p xs)) < n
    go true own rest = own
    go false own rest = rest

-- the number of a symbol's name is that of a symbol
number_low : (files : List File) (f i : ℕ) → 0 < symbol_total files → name_number files f i < symbol_total files
unfolding name_number number_of
number_low files f i some =
    either (λ n. n < symbol_total files) (is_named (symbol_at (file_at files f) i)) (number_of (names files) (symbol_name (file_at files f) i)) 0
    (found_low (λ n. bytes_eq n.text (symbol_name (file_at files f) i)) (symbol_total files) (names files) some (names_low files)) some

pub key_low : (files : List File) (f i : ℕ) → AreFew files → f < length files → i < length (file_at files f).head.symbols → key_of files f i < 2 ^ 31
unfolding key_of
key_low files f i few lt below =
    let total = few.symbol_count in
    let own = first_within files f lt in
    let alone = symbol_total_alone files in
    let name = number_low (heads_alone files) f i (omega (arith, below, own, alone)) in
    either (λ n. n < 2 ^ 31) ((symbol_at (file_at files f) i).binding == STB_LOCAL) (symbol_no files f i) (name_number (heads_alone files) f i)
    (omega (arith, total, own, below)) (omega (arith, total, alone, name))

pub symbol_within : (tables : Tables) (n k : ℕ) (d : Reloc) → n < section_total (files_of tables) → k < length (relocs_of (files_of tables) n) →
    (get_or (relocs_of (files_of tables) n) k d).symbol < length (file_at (files_of tables) (place_of (files_of tables) n).file).head.symbols
symbol_within tables n k d lt less =
    let files = files_of tables in
    let f = (place_of files n).file in
    let i = (place_of files n).index in
    let file : File = file_at files f in
    let law = place_of_number files n lt in
    let inside : IsBodyInside file.bytes file.head file.object = inside_body file (sound_file tables f (live_from (file_at files f) i law.index)) in
    elim (cases_lt i (length file.object.relocs)) [
      | inl low ↦ (inside.relocs i [] low no_section k d less).symbol
      | inr past ↦ absurd (omega (arith, less, ap length (get_or_past file.object.relocs i [] past)))
    ]
