-- The words of the linker's table, entry by entry, laid over a block.
use Rattle.std.proofs.Common.{◌≡◌, inl, inr, ℕ, zero, suc, ◌+◌, ◌*◌, ◌-◌, ◌<◌, ◌≤◌, List, [], ◌∷◌, ◌++◌, length, flat_map, get_or, slice_index, refl, sym, ap, ◌∙◌, arith, subst, min, Option}
use Rattle.std.specs.Int.{to_le_bytes, w64}
use Rattle.std.specs.List.{sum_by}
use Rattle.std.specs.List.Sorted.{IsNonDecreasingBy}
use Rattle.std.proofs.lemmas.Bool.{cases_lt}
use Rattle.std.specs.Prelude.{if◌then◌else◌}
use Rattle.std.proofs.lemmas.List.{get_or_past, length-append}
use Rattle.std.proofs.lemmas.List.Sorted.{IsNonDecreasingBy-from_all_adjacent}
use Rattle.std.proofs.lemmas.List.Sums.{sum_by-cons}
use Rattle.lk_tables.specs.declared.bounds.Bound.{Bound}
use Rattle.lk_tables.specs.Binding.{Bindings}
use Rattle.lk_tables.specs.Files.{File, no_file}
use Rattle.lk_tables.specs.Targets.{bound}
use Rattle.link_sections.specs.declared.got.GotEntry.{GotEntry}
use Rattle.link_sections.specs.declared.got.GotUse.{GotUse}
use Rattle.link_sections.specs.declared.got.GotUse.TheVariants.{Address, ThreadOffset, GeneralDynamic}
use Rattle.link_sections.specs.Addresses.{address_of, symbol_address}
use Rattle.link_sections.specs.GotEntries.{AreNumbered, word_count}
use Rattle.link_sections.specs.GotEntries as got
use Rattle.link_sections.specs.LaidOut.{LaidOut}
use Rattle.reloc_apply.specs.Image.{Piece, byte_over, over, piece}
use Rattle.reloc_apply.specs.Relocated.{entry_words, table_bytes, words_of}
use Rattle.reloc_apply.specs.Standing.{no_entry, word_pieces}
use Rattle.reloc_apply.proofs.PieceWalks.{AreAway, IsBeside, piece_away}
use Rattle.reloc_apply.proofs.Placing.{past, under}
use Rattle.reloc_apply.proofs.StayingSteps.{over_more}

abbrev pub word_bytes : List ℕ → List ℕ
word_bytes ws = flat_map (to_le_bytes w64) ws

word_size : (w : ℕ) → length (to_le_bytes w64 w) ≡ 8
word_size w = refl

pub bytes_size : (ws : List ℕ) → length (word_bytes ws) ≡ 8 * length ws
bytes_size [] = refl
bytes_size (w ∷ ws) = length-append (to_le_bytes w64 w) (word_bytes ws) ∙ omega (arith, word_size w, bytes_size ws)

-- words one after the other are one piece
pub words_over : (at : ℕ) (ws : List ℕ) (u q : ℕ) → byte_over u (word_pieces at ws) q ≡ over (piece at (word_bytes ws)) u q
words_over at [] u q = elim (cases_lt q at) [
  | inl low ↦ sym (under at q (at + 0) (slice_index [] (q - at)) u low)
  | inr high ↦ sym (past at q (at + 0) (slice_index [] (q - at)) u (omega (arith, high)))
]
words_over at (w ∷ ws) u q =
    words_over (at + 8) ws (over (piece at (to_le_bytes w64 w)) u q) q
    ∙ ap (λ n. over (piece (at + n) (word_bytes ws)) (over (piece at (to_le_bytes w64 w)) u q) q) (sym (word_size w))
    ∙ over_more (to_le_bytes w64 w) (word_bytes ws) at u q

pub words_away : (from len at : ℕ) (ws : List ℕ) → IsBeside from len at (at + 8 * length ws) → AreAway from len (word_pieces at ws)
words_away from len at ws beside = λ u q le lt.
    words_over at ws u q
    ∙ piece_away from len at (word_bytes ws) (λ p low high. elim (beside p low high) [
      | inl before ↦ inl before
      | inr after ↦ inr (omega (arith, after, bytes_size ws))
    ]) u q le lt

words_append : (at : ℕ) (xs ys : List ℕ) → word_pieces at (xs ++ ys) ≡ word_pieces at xs ++ word_pieces (at + 8 * length xs) ys
words_append at [] ys = let e : at ≡ at + 8 * 0 = omega arith in ap (λ a. word_pieces a ys) e
words_append at (x ∷ xs) ys =
    let e : at + 8 + 8 * length xs ≡ at + 8 * suc (length xs) = omega arith in
    ap (λ l. piece at (to_le_bytes w64 x) ∷ l)
    (words_append (at + 8) xs ys ∙ ap (λ a. word_pieces (at + 8) xs ++ word_pieces a ys) e)

-- entries whose words are numbered from a number on
abbrev Chain : (from : ℕ) → List GotEntry → Type 0
Chain from [] = Unit {0}
Chain from (e ∷ es) = (e.word ≡ from) × Chain (from + got.words_of e.usage) es

chain_from : (from : ℕ) (es : List GotEntry) → (0 < length es → (get_or es 0 no_entry).word ≡ from) →
    ((i : ℕ) → i + 1 < length es → (get_or es (i + 1) no_entry).word ≡ (get_or es i no_entry).word + got.words_of (get_or es i no_entry).usage) → Chain from es
chain_from from [] first next = tt
chain_from from (e ∷ es) first next =
    let own : e.word ≡ from = first (omega arith) in
    let P : ℕ → ℕ → Type 0 = λ i n. (get_or (e ∷ es) n no_entry).word ≡ (get_or (e ∷ es) i no_entry).word + got.words_of (get_or (e ∷ es) i no_entry).usage in
    let one : 0 + 1 ≡ suc 0 = omega arith in (
      own,
      chain_from (from + got.words_of e.usage) es
          (λ some. subst (P 0) one (next 0 (omega (arith, some))) ∙ ap (λ n. n + got.words_of e.usage) own)
          (λ i lt. let more : suc i + 1 ≡ suc (i + 1) = omega arith in subst (P (suc i)) more (next (suc i) (omega (arith, lt)))),
    )

chain_is : (es : List GotEntry) → AreNumbered es → Chain 0 es
chain_is es are = chain_from 0 es (are.first no_entry) (λ i lt. are.next i no_entry lt)

abbrev counts : GotEntry → ℕ
counts e = got.words_of e.usage

chain_word : (from : ℕ) (es : List GotEntry) (k : ℕ) → Chain from es → k < length es → (get_or es k no_entry).word ≤ from + sum_by counts es
chain_word from [] k chain lt = absurd (omega (arith, lt))
chain_word from (e ∷ es) zero chain lt = let own = chain.0 in omega (arith, own)
chain_word from (e ∷ es) (suc k) chain lt =
    let rest = chain_word (from + counts e) es k chain.1 (omega (arith, lt)) in
    omega (arith, rest, sum_by-cons counts e es)

-- no entry starts past the words of all
pub word_within : (es : List GotEntry) (k : ℕ) → AreNumbered es → k < length es → (get_or es k no_entry).word ≤ word_count es
unfolding word_count
word_within es k are lt = let below = chain_word 0 es k (chain_is es are) lt in omega (arith, below)

pub words_rise : (es : List GotEntry) → AreNumbered es → IsNonDecreasingBy (λ (e : GotEntry). e.word) es
words_rise es are = IsNonDecreasingBy-from_all_adjacent (λ (e : GotEntry). e.word) es (λ k d lt. let next = are.next k d lt in omega (arith, next))

pub ends_rise : (es : List GotEntry) (most : ℕ) → AreNumbered es → IsNonDecreasingBy (λ (e : GotEntry). min (e.word + 2) most) es
ends_rise es most are =
    IsNonDecreasingBy-from_all_adjacent (λ (e : GotEntry). min (e.word + 2) most) es (λ k d lt. let next = are.next k d lt in omega (arith, next))

-- an entry that ends before the block, and one that starts after it
pub ends_first : (from len at word : ℕ) → 8 * (word + 2) ≤ from - at → IsBeside from len (at + 8 * word) (at + 8 * (word + 2))
ends_first from len at word end = λ q le lt. inr (omega (arith, end, le))

pub begins_last : (from len at word : ℕ) → from + len - at ≤ 8 * word → IsBeside from len (at + 8 * word) (at + 8 * (word + 2))
begins_last from len at word begin = λ q le lt. inl (omega (arith, begin, lt))

module _ (files : List File) (b : Bindings) (leaders : List (Option ℕ)) (laid : LaidOut) where
  abbrev words : GotEntry → List ℕ
  words e = words_of files b leaders laid e

  count_by : (usage : GotUse) (o : Bound) (address thread : ℕ) → length (entry_words usage o address thread) ≡ got.words_of usage
  count_by Address o address thread = refl
  count_by ThreadOffset o address thread = refl
  count_by GeneralDynamic o address thread = refl

  -- its words by what it is for
  pub words_by : (e : GotEntry) (usage : GotUse) → e.usage ≡ usage →
      words_of files b leaders laid e ≡ entry_words usage (bound files b e.file e.symbol) (symbol_address files b leaders laid e.file e.symbol) laid.bounds.tls_start
  unfolding words_of
  words_by e usage is = ap (λ u. entry_words u (bound files b e.file e.symbol) (symbol_address files b leaders laid e.file e.symbol) laid.bounds.tls_start) is

  -- a file past the last one takes no part
  pub address_past : (f i : ℕ) → length files ≤ f → 0 ≡ symbol_address files b leaders laid f i
  unfolding symbol_address
  address_past f i le =
      sym (ap (λ (file : File). if file.live then address_of files b leaders laid (bound files b f i) else 0) (get_or_past files f no_file le))

  pub words_count : (e : GotEntry) → length (words_of files b leaders laid e) ≡ got.words_of e.usage
  unfolding words_of
  words_count e = count_by e.usage (bound files b e.file e.symbol) (symbol_address files b leaders laid e.file e.symbol) laid.bounds.tls_start

  few_by : (usage : GotUse) → got.words_of usage ≤ 2
  few_by Address = omega arith
  few_by ThreadOffset = omega arith
  few_by GeneralDynamic = omega arith

  pub words_few : (e : GotEntry) → length (words_of files b leaders laid e) ≤ 2
  words_few e = omega (arith, words_count e, few_by e.usage)

  all_count : (es : List GotEntry) → length (flat_map words es) ≡ sum_by counts es
  all_count [] = refl
  all_count (e ∷ es) = length-append (words e) (flat_map words es) ∙ omega (arith, words_count e, all_count es, sum_by-cons counts e es)

  pub table_size : length (table_bytes files b leaders laid) ≡ 8 * word_count laid.table
  unfolding table_bytes word_count
  table_size = bytes_size (flat_map words laid.table) ∙ ap (λ n. 8 * n) (all_count laid.table)

  -- what an entry has in the file, if the table stands at an offset
  abbrev pub entry_pieces : (at : ℕ) → GotEntry → List Piece
  entry_pieces at e = word_pieces (at + 8 * e.word) (words_of files b leaders laid e)

  pub entry_away : (from len at : ℕ) (e : GotEntry) → IsBeside from len (at + 8 * e.word) (at + 8 * (e.word + 2)) → AreAway from len (entry_pieces at e)
  entry_away from len at e beside =
      words_away from len (at + 8 * e.word) (words_of files b leaders laid e) (λ q le lt. elim (beside q le lt) [
        | inl low ↦ inl low
        | inr high ↦ inr (omega (arith, high, words_few e))
      ])

  entries_are : (at from : ℕ) (es : List GotEntry) → Chain from es → flat_map (entry_pieces at) es ≡ word_pieces (at + 8 * from) (flat_map words es)
  entries_are at from [] chain = refl
  entries_are at from (e ∷ es) chain =
      let own = chain.0 in
      let next : at + 8 * (from + counts e) ≡ at + 8 * from + 8 * length (words e) = omega (arith, words_count e) in
      ap (λ l. entry_pieces at e ++ l) (entries_are at (from + counts e) es chain.1)
      ∙ ap (λ n. word_pieces (at + 8 * n) (words e) ++ word_pieces (at + 8 * (from + counts e)) (flat_map words es)) own
      ∙ ap (λ a. word_pieces (at + 8 * from) (words e) ++ word_pieces a (flat_map words es)) next
      ∙ sym (words_append (at + 8 * from) (words e) (flat_map words es))

  -- all entries are the whole table
  pub table_over : (at u q : ℕ) → AreNumbered laid.table →
      byte_over u (flat_map (entry_pieces at) laid.table) q ≡ over (piece at (table_bytes files b leaders laid)) u q
  unfolding table_bytes
  table_over at u q are =
      let e : at + 8 * 0 ≡ at = omega arith in
      ap (λ ps. byte_over u ps q) (entries_are at 0 laid.table (chain_is laid.table are))
      ∙ ap (λ a. byte_over u (word_pieces a (flat_map words laid.table)) q) e
      ∙ words_over at (flat_map words laid.table) u q
