-- What was found by words, in terms of names.
use Rattle.std.proofs.Common.{◌≡◌, ℕ, ◌<◌, ◌≤◌, ◌&&◌, ◌==◌, not, max, Bool, true, false, if◌then◌else◌, List, [], ◌∷◌, length, map, replicate, All, refl, sym, ap, ◌∙◌, subst, ⊎_elim, arith}
use Rattle.std.specs.List.{range_with_len}
use Rattle.std.specs.Str.{bytes_eq}
use Rattle.std.proofs.lemmas.List.{map-append, get_or-replicate, length-replicate, get_or_past}
use Rattle.std.proofs.lemmas.List.Elements.{All-weaker}
use Rattle.std.proofs.lemmas.Bool.{cond-true, cases_lt, and_parts, or_left, or_right, not_from_false}
use Rattle.claim_core.specs.declared.events.Event.{Event}
use Rattle.claim_core.specs.Events.{event, none_of, after, AllInRow}
use Rattle.lk_base.specs.declared.abi.TheConstants.{STB_LOCAL}
use Rattle.lk_tables.specs.declared.heads.Symbol.{Symbol}
use Rattle.lk_tables.specs.declared.commons.BoundCommon.{BoundCommon}
use Rattle.lk_tables.specs.Symbols.{is_common, is_undef}
use Rattle.lk_tables.specs.Files.{File, by_symbol, common_no, file_at, is_visible, symbol_at, symbol_name, symbol_total}
use Rattle.lk_tables.specs.Binding.{Offer, Demand, Bindings, is_offer, is_discarded, class_of, offer_at, offers_in, offers, demand_at, demands_in, demands, greatest_size, greatest_align, bound_rank, rank_bound, live_rank, bound_common_at, bound_commons_in, offered_bindings}
use Rattle.lk_tables.specs.NameNumbers.{is_named, name_number}
use Rattle.lk_tables.specs.Ranks.{no_rank, rank_of}
use Rattle.lk_tables.proofs.BoundHas.{one_if}
use Rattle.lk_tables.proofs.ByNumber.{by_symbol_same}
use Rattle.sym_resolve.specs.declared.rooms.Room.{Room}
use Rattle.sym_resolve.specs.Asks.{ask, no_room, room_at, ask_at, asks, after_asks, rooms_asked, common_by, common_from}
use Rattle.sym_resolve.specs.Claims.{claim_at, claims, rank_at, rank_by}
use Rattle.sym_resolve.specs.Symbols.{in_file}
use Rattle.name_numbers.proofs.Walks.{same_map}
use Rattle.sym_resolve.proofs.Walks.{Splits, through_symbols, same_symbols, same_in_file, all_symbols, live_within}
use Rattle.name_numbers.proofs.LeastClaims.{Tells, claims_fit, least_claimed}
use Rattle.name_numbers.proofs.NameWords.{IsName, word_of, word_named, word_below, words_apart, is_name_of_symbol}
use Rattle.sym_resolve.proofs.GreatestAsks.{HasRoom, after_greatest}
use Rattle.sym_resolve.proofs.Claiming.{bound_common}

pub maps_split : {X Y : Type 0} (f : X → Y) → Splits (map f)
maps_split f = record { none = refl; both = λ xs ys. map-append f xs ys }

map_if : {X Y : Type 0} (g v : X → Y) (b : Bool) (x : X) → (b ≡ true → g x ≡ v x) → map g (if b then x ∷ [] else []) ≡ map v (if b then x ∷ [] else [])
map_if g v true x same = ap (λ y. y ∷ []) (same refl)
map_if g v false x same = refl

offer_named : (files : List File) (gone : List Bool) (f : ℕ) (s : Symbol) → (is_offer s && not (is_discarded files gone f s.place)) ≡ true → is_named s ≡ true
offer_named files gone f s is =
    let offers = and_parts (is_offer s) (not (is_discarded files gone f s.place)) is in
    let seen = and_parts (is_visible s) (not (is_undef s.place)) offers.0 in
    or_left (is_visible s) (is_common s.place) seen.0

common_named : (s : Symbol) → is_common s.place ≡ true → is_named s ≡ true
common_named s is = or_right (is_visible s) (is_common s.place) is

align_some_next : (b : Bool) (align later : ℕ) → 1 ≤ later → 1 ≤ (if b then max align later else later)
align_some_next true align later le = omega arith
align_some_next false align later le = le

align_some : (text : List ℕ) (ds : List Demand) → 1 ≤ greatest_align text ds
unfolding greatest_align
align_some text [] = omega arith
align_some text (d ∷ ds) = align_some_next (bytes_eq d.name text) d.align (greatest_align text ds) (align_some text ds)

else_same : {X : Type 0} (b : Bool) (z x y : X) → (b ≡ false → x ≡ y) → (if b then z else x) ≡ (if b then z else y)
else_same true z x y same = refl
else_same false z x y same = same refl

then_same : {X : Type 0} (b : Bool) (z x y : X) → (b ≡ true → x ≡ y) → (if b then x else z) ≡ (if b then y else z)
then_same true z x y same = same refl
then_same false z x y same = refl

abbrev pub made_of : List Bool → List ℕ → ℕ → List (List BoundCommon) → Bindings
made_of gone ranks entry commons = record { discarded = gone; ranks = ranks; entry = entry; commons = commons }

module _ (files : List File) where
  pub asks_are : asks files ≡ map (λ d. ask (word_of files d.name) d.size d.align) (demands files)
  unfolding asks ask_at demands demands_in demand_at
  asks_are =
      same_symbols files (ask_at files) (λ f i. map (λ (d : Demand). ask (word_of files d.name) d.size d.align) (demand_at files f i))
      (λ f i live lt. map_if (λ (d : Demand). ask (name_number files f i) d.size d.align) (λ (d : Demand). ask (word_of files d.name) d.size d.align) _ _
      (λ is. ap (λ k. ask k (symbol_at (file_at files f) i).size (max 1 (symbol_at (file_at files f) i).value)) (word_named files f i (common_named (symbol_at (file_at files f) i) is))))
      ∙ sym (through_symbols (map (λ (d : Demand). ask (word_of files d.name) d.size d.align)) (maps_split (λ (d : Demand). ask (word_of files d.name) d.size d.align)) files (demand_at files))

  demands_named : All (λ d. IsName files d.name) (demands files)
  unfolding demands demands_in demand_at
  demands_named =
      all_symbols (λ (d : Demand). IsName files d.name) files (demand_at files)
      (λ f i live lt. one_if (λ (d : Demand). IsName files d.name) _ _ (λ is. is_name_of_symbol files f i (live_within files f live) lt (common_named (symbol_at (file_at files f) i) is)))

  -- the rooms have the greatest that is asked for each name
  room_greatest : (text : List ℕ) → IsName files text → HasRoom (rooms_asked files) (word_of files text) (greatest_size text (demands files)) (greatest_align text (demands files))
  unfolding rooms_asked
  room_greatest text name =
      let W = word_of files in
      let ds = demands files in
      let count = symbol_total files in
      let lt : W text < count = word_below files text name in
      let start : room_at (replicate count no_room) (W text) ≡ no_room = get_or-replicate count (W text) no_room no_room lt in
      let tells = All-weaker (λ (d : Demand). IsName files d.name) (λ (d : Demand). Tells W text d.name) (λ d also. words_apart files d.name text also name) ds demands_named in
      let whole : after_asks (replicate count no_room) (asks files) ≡ after_asks (replicate count no_room) (map (λ d. ask (W d.name) d.size d.align) ds) = ap (after_asks (replicate count no_room)) asks_are in
      let has = after_greatest W text ds (replicate count no_room) 0 1 (omega (arith, length-replicate {A = Room} count no_room)) tells (omega arith)
      (record { size_is = ap (λ (r : Room). r.size) start; align_is = ap (λ (r : Room). r.align) start }) in
      let at : room_at (after_asks (replicate count no_room) (asks files)) (W text) ≡ room_at (after_asks (replicate count no_room) (map (λ d. ask (W d.name) d.size d.align) ds)) (W text) = ap (λ l. room_at l (W text)) whole in
      record {
        size_is = ap (λ (r : Room). r.size) at ∙ has.size_is ∙ (let e : max 0 (greatest_size text ds) ≡ greatest_size text ds = omega arith in e);
        align_is = ap (λ (r : Room). r.align) at ∙ has.align_is ∙ (let some = align_some text ds in let e : max 1 (greatest_align text ds) ≡ greatest_align text ds = omega arith in e);
      }

  -- if nothing is asked for, no table is needed
  pub no_rooms : demands files ≡ [] → (word : ℕ) → room_at (rooms_asked files) word ≡ no_room
  unfolding rooms_asked
  no_rooms none word =
      let start = replicate (symbol_total files) no_room in
      ap (λ l. room_at (after_asks start l) word) (asks_are ∙ ap (map (λ (d : Demand). ask (word_of files d.name) d.size d.align)) none)
      ∙ ⊎_elim
      (λ (lt : word < symbol_total files). get_or-replicate (symbol_total files) word no_room no_room lt)
      (λ (past : symbol_total files ≤ word). get_or_past start word no_room (omega (arith, length-replicate {A = Room} (symbol_total files) no_room)))
      (cases_lt word (symbol_total files))

-- the row that the workers claimed
pub claimed_row : (files : List File) (gone : List Bool) (row : List ℕ) (words : ℕ) (es : List Event) → row ≡ after (none_of words) es → words ≡ symbol_total files → es ≡ claims files gone → row ≡ after (none_of (symbol_total files)) (claims files gone)
claimed_row files gone row words es is count same = is ∙ ap (λ k. after (none_of k) es) count ∙ ap (after (none_of (symbol_total files))) same

module _ (files : List File) (gone : List Bool) where
  -- each claim is an offer's, on the word of its name
  pub claims_are : claims files gone ≡ map (λ o. event (word_of files o.name) o.rank) (offers files gone)
  unfolding claims claim_at offers offers_in offer_at
  claims_are =
      same_symbols files (claim_at files gone) (λ f i. map (λ (o : Offer). event (word_of files o.name) o.rank) (offer_at files gone f i))
      (λ f i live lt. map_if (λ (o : Offer). event (name_number files f i) o.rank) (λ (o : Offer). event (word_of files o.name) o.rank) _ _
      (λ is. ap (λ k. event k (rank_of (class_of (symbol_at (file_at files f) i)) f i)) (word_named files f i (offer_named files gone f (symbol_at (file_at files f) i) is))))
      ∙ sym (through_symbols (map (λ (o : Offer). event (word_of files o.name) o.rank)) (maps_split (λ (o : Offer). event (word_of files o.name) o.rank)) files (offer_at files gone))

  pub offers_named : All (λ o. IsName files o.name) (offers files gone)
  unfolding offers offers_in offer_at
  offers_named =
      all_symbols (λ (o : Offer). IsName files o.name) files (offer_at files gone)
      (λ f i live lt. one_if (λ (o : Offer). IsName files o.name) _ _ (λ is. is_name_of_symbol files f i (live_within files f live) lt (offer_named files gone f (symbol_at (file_at files f) i) is)))

  -- each claim's word is one of the row's
  pub claims_in_row : AllInRow (symbol_total files) (claims files gone)
  claims_in_row =
      let Q : List Event → Type 0 = AllInRow (symbol_total files) in
      subst Q (sym claims_are) (claims_fit files (offers files gone) offers_named)

  module _ (row : List ℕ) (is : row ≡ after (none_of (symbol_total files)) (claims files gone)) where
    -- the row has what each name is bound to
    pub row_bound : (text : List ℕ) → IsName files text → rank_at row (word_of files text) ≡ bound_rank files gone text
    unfolding bound_rank
    row_bound text name = least_claimed files (offers files gone) offers_named row (is ∙ ap (after (none_of (symbol_total files))) claims_are) text name

    -- each symbol's rank
    rank_live : (f i : ℕ) → (file_at files f).live ≡ true → i < length (file_at files f).head.symbols → (if (symbol_at (file_at files f) i).binding == STB_LOCAL then no_rank else rank_at row (name_number files f i)) ≡ rank_bound files gone f i
    unfolding rank_bound
    rank_live f i live lt =
        let s = symbol_at (file_at files f) i in
        else_same (s.binding == STB_LOCAL) no_rank (rank_at row (name_number files f i)) (bound_rank files gone (symbol_name (file_at files f) i))
        (λ seen.
        let counts : is_named s ≡ true = or_left (is_visible s) (is_common s.place) (not_from_false (s.binding == STB_LOCAL) seen) in
        ap (rank_at row) (word_named files f i counts) ∙ row_bound (symbol_name (file_at files f) i) (is_name_of_symbol files f i (live_within files f live) lt counts))

    rank_same : (f i : ℕ) → f < length files → i < length (file_at files f).head.symbols → rank_by files row f i ≡ live_rank files gone f i
    unfolding rank_by live_rank
    rank_same f i within lt = then_same (file_at files f).live no_rank _ _ (λ live. rank_live f i live lt)

    rank_there : (f i : ℕ) → (file_at files f).live ≡ true → i < length (file_at files f).head.symbols → rank_by files row f i ≡ rank_bound files gone f i
    unfolding rank_by
    rank_there f i live lt = cond-true (file_at files f).live _ no_rank live ∙ rank_live f i live lt

    common_same : (f i : ℕ) → (file_at files f).live ≡ true → i < length (file_at files f).head.symbols → common_by files row f i ≡ bound_common_at files gone f i
    unfolding common_by common_from bound_common_at
    common_same f i live lt =
        let s = symbol_at (file_at files f) i in
        let name = symbol_name (file_at files f) i in
        let rooms = rooms_asked files in
        let word = name_number files f i in
        let no = common_no files f i in
        let mine = bound_common f i no (room_at rooms word).size (room_at rooms word).align in
        let theirs = bound_common f i no (greatest_size name (demands files)) (greatest_align name (demands files)) in
        ap (λ k. if is_common s.place && k == rank_of 1 f i then mine ∷ [] else []) (rank_there f i live lt)
        ∙ then_same (is_common s.place && rank_bound files gone f i == rank_of 1 f i) [] (mine ∷ []) (theirs ∷ [])
        (λ both.
        let parts = and_parts (is_common s.place) (rank_bound files gone f i == rank_of 1 f i) both in
        let counts = common_named s parts.0 in
        let own : room_at rooms word ≡ room_at rooms (word_of files name) = ap (room_at rooms) (word_named files f i counts) in
        let has = room_greatest files name (is_name_of_symbol files f i (live_within files f live) lt counts) in
        ap (λ (r : Room). bound_common f i no r.size r.align ∷ []) own
        ∙ ap (λ k. bound_common f i no k (room_at rooms (word_of files name)).align ∷ []) has.size_is
        ∙ ap (λ k. bound_common f i no (greatest_size name (demands files)) k ∷ []) has.align_is)

    commons_same : (f : ℕ) → in_file files (common_by files row) f ≡ bound_commons_in files gone f
    unfolding bound_commons_in
    commons_same f = same_in_file files (common_by files row) (bound_common_at files gone) f (common_same f)

    -- the table is that of the names
    pub tables_are : (d : List Bool) (ranks : List ℕ) (commons : List (List BoundCommon)) (rank : ℕ) (entry : List ℕ) → d ≡ gone → ranks ≡ by_symbol files (rank_by files row)
        → commons ≡ map (in_file files (common_by files row)) (range_with_len 0 (length files)) → rank ≡ bound_rank files gone entry → made_of d ranks rank commons ≡ offered_bindings files gone entry
    unfolding offered_bindings
    tables_are d ranks commons rank entry left filled listed bound =
        ap (λ k. made_of k ranks rank commons) left
        ∙ ap (λ l. made_of gone l rank commons) (filled ∙ by_symbol_same files (rank_by files row) (live_rank files gone) rank_same)
        ∙ ap (λ k. made_of gone (by_symbol files (live_rank files gone)) k commons) bound
        ∙ ap (made_of gone (by_symbol files (live_rank files gone)) (bound_rank files gone entry))
        (listed ∙ same_map (in_file files (common_by files row)) (bound_commons_in files gone) 0 (length files) commons_same)
