-- A call of two bytes has no register: its second instruction leaves the address of the next one in x0.
use Rattle.std.proofs.Common.{◌≡◌, ℕ, ◌+◌, ◌*◌, ◌/◌, ◌%◌, ◌^◌, ◌<◌, ◌≤◌, ◌==◌, ◌&&◌, ◌||◌, Bool, true, false, if◌then◌else◌, Option, List, length, take, drop, slice_index, refl, sym, ap, ◌∙◌, arith}
use Rattle.std.specs.Prelude.{nat_le}
use Rattle.std.proofs.lemmas.Bool.{and_parts, eqb-true, leb-true}
use Rattle.std.proofs.lemmas.List.{get_or-drop, get_or-take, length-drop, length-take-le}
use Rattle.byteorder.specs.Endian.{little_number}
use Rattle.lk_tables.specs.declared.tables.Tables.{Tables}
use Rattle.lk_tables.specs.Binding.{Bindings}
use Rattle.lk_tables.specs.Files.{File, section_total}
use Rattle.lk_tables.specs.Sites.{relocs_of}
use Rattle.lk_tables.specs.TablesView.{files_of}
use Rattle.link_sections.specs.declared.pools.Pool.{Pool}
use Rattle.link_sections.specs.Calls.{call_size, is_call}
use Rattle.link_sections.specs.Cuts.{Cut}
use Rattle.link_sections.specs.LaidOut.{LaidOut, cuts_at, start_at}
use Rattle.link_sections.specs.Leaders.{leads}
use Rattle.link_sections.specs.PoolViews.{Merged}
use Rattle.output_sections.specs.declared.rows.Row.{Row}
use Rattle.relax.specs.declared.calls.Call.{Call}
use Rattle.relax.specs.CallSizes.{all_calls, bytes_at, call_no, file_of, first_call, has_rvc, least_of, place_in, rd_at, reloc_of, size_in}
use Rattle.relax.specs.Jumps.{size_at}
use Rattle.relax.proofs.PointSteps.{first_most}
use Rattle.rv_code.specs.Instructions.{rd_of}
use Rattle.rv_code.specs.Places.{number_of}
use Rattle.link_driver.proofs.Given.{IsGiven, the_members, the_rows}
use Rattle.link_driver.proofs.SectionLists.{cuts_are, has_call, i_low, rows_are_sound}
use Rattle.link_driver.proofs.Shortened.{numbered_call, one_call, safe_fits, short_call}

none_by : (file : File) (at : ℕ) → least_of file at ≤ 2 → rd_at file.bytes (at + 4) ≡ 0
unfolding least_of
none_by file at most = by (has_rvc file && rd_at file.bytes (at + 4) == 0) refl most
  where
    by : (t : Bool) → (has_rvc file && rd_at file.bytes (at + 4) == 0) ≡ t → (if t then 2 else 4) ≤ 2 → rd_at file.bytes (at + 4) ≡ 0
    by true is most = eqb-true (rd_at file.bytes (at + 4)) 0 (and_parts (has_rvc file) (rd_at file.bytes (at + 4) == 0) is).1
    by false is most = absurd (omega (arith, most))

least_most : (least size : ℕ) → (nat_le least size && (size == 2 || (size == 4 || size == 8))) ≡ true → least ≤ size
least_most least size is = leb-true least size (and_parts (nat_le least size) (size == 2 || (size == 4 || size == 8)) is).0

module _ (tables : Tables) (b : Bindings) (pools : List Pool) (merged : List (Option Merged)) (words : ℕ) (leaders : List (Option ℕ)) (laid : LaidOut) (sizes : List (List Cut)) (z : List ℕ)
    (given : IsGiven tables b pools merged words leaders laid sizes z) where
  abbrev files : List File
  files = files_of tables

  abbrev ms : List Row
  ms = the_members tables b pools merged words leaders laid sizes z

  abbrev rows : List (List Call)
  rows = the_rows tables b pools merged words leaders laid sizes z

  pub short_register : (n k : ℕ) → n < section_total files → leads leaders n ≡ true → k < length (relocs_of files n) → is_call (reloc_of files n k).kind ≡ true
      → call_size (cuts_at laid n) (reloc_of files n k).offset ≡ 2 → rd_at (file_of files n).bytes (bytes_at files n k + 4) ≡ 0
  short_register n k n_low n_leads k_low call two =
      let sz : ℕ → ℕ = size_in rows z (place_in ms n) in
      let cuts = cuts_are tables b pools merged words leaders laid sizes z given n n_low n_leads in
      let o = (reloc_of files n k).offset in
      let size_same = ap (λ l. call_size l o) cuts in
      let short = short_call sz (relocs_of files n) (start_at laid n) o (omega (arith, two, size_same)) in
      let numbers = one_call tables n short.reloc k n_low short.low k_low short.call call short.at in
      let sized : sz k ≡ 2 = ap sz (sym numbers) ∙ short.size_is ∙ sym size_same ∙ two in
      let has = has_call tables b pools merged words leaders laid sizes z given n n_low n_leads k (omega (arith, sized)) in
      let c : Call = has.call in
      let sound = rows_are_sound tables b pools merged words leaders laid sizes z given in
      let i_is = i_low tables b pools merged words leaders laid sizes z given n n_low n_leads in
      let q : ℕ = first_call rows (place_in ms n) + has.place in
      let low = has.low in
      let rows_count = sound.count in
      let first = first_most rows (place_in ms n) (omega (arith, i_is, rows_count)) in
      let q_low : q < length (all_calls rows) = omega (arith, first, low) in
      let no_one : Call = record { from = 0; offset = 0; reloc = 0; to = 0; target = 0; least = 4 } in
      let numbered : call_no rows q ≡ c = numbered_call rows (place_in ms n) has.place no_one (omega (arith, i_is, rows_count)) low ∙ has.at_is no_one in
      let fits = safe_fits ms rows z q given.safe q_low in
      let most = least_most (call_no rows q).least (size_at z q) fits.0 in
      let least = ap (λ (x : Call). x.least) numbered in
      let own = has.lands.least in
      let size = has.size in
      none_by (file_of files n) (bytes_at files n k) (omega (arith, most, least, own, size, sized))

-- the register of a second instruction that lies in a file
byte_of : (bytes : List ℕ) (from size o i : ℕ) → o + 8 ≤ size → i < 4 → slice_index (take 4 (drop 4 (drop o (take size (drop from bytes))))) i ≡ slice_index bytes (from + o + 4 + i)
byte_of bytes from size o i within lt =
    let e : from + (o + (4 + i)) ≡ from + o + 4 + i = omega arith in
    get_or-take 4 (drop 4 (drop o (take size (drop from bytes)))) i 0 lt
    ∙ get_or-drop 4 (drop o (take size (drop from bytes))) i 0
    ∙ get_or-drop o (take size (drop from bytes)) (4 + i) 0
    ∙ get_or-take size (drop from bytes) (o + (4 + i)) 0 (omega (arith, within, lt))
    ∙ get_or-drop from bytes (o + (4 + i)) 0
    ∙ ap (λ k. slice_index bytes k) e

of_four : (a b c d : ℕ) → a / 128 + 2 * (b % 16) ≡ 0 → (a + 256 * (b + 256 * (c + 256 * (d + 256 * 0)))) / 2 ^ 7 % 2 ^ 5 ≡ 0
of_four a b c d none = omega (arith, none)

pub word_register : (bytes : List ℕ) (from size o : ℕ) → o + 8 ≤ size → size ≤ length (take size (drop from bytes)) → rd_at bytes (from + o + 4) ≡ 0
    → rd_of (number_of (take 4 (drop 4 (drop o (take size (drop from bytes)))))) ≡ 0
word_register bytes from size o within long none =
    let contents : List ℕ = take size (drop from bytes) in
    let word : List ℕ = take 4 (drop 4 (drop o contents)) in
    let wide : length word ≡ 4 = length-take-le 4 (drop 4 (drop o contents)) (omega (arith, within, long, length-drop 4 (drop o contents), length-drop o contents)) in
    let first = byte_of bytes from size o 0 within (omega arith) in
    let second = byte_of bytes from size o 1 within (omega arith) in
    let e : from + o + 4 + 0 ≡ from + o + 4 = omega arith in
    let at = ap (λ k. slice_index bytes k) e in
    ap (λ k. rd_of (little_number k word)) wide
    ∙ of_four (slice_index word 0) (slice_index word 1) (slice_index word 2) (slice_index word 3)
    (ap (λ x. x / 128 + 2 * (slice_index word 1 % 16)) (first ∙ at) ∙ ap (λ x. slice_index bytes (from + o + 4) / 128 + 2 * (x % 16)) second ∙ none)
