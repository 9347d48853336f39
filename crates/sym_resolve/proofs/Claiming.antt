-- What loops over symbols collect: claims, ranks, asks and bound COMMON symbols.
use Rattle.std.proofs.Common.{◌≡◌, ℕ, ◌+◌, ◌&&◌, ◌==◌, not, max, Bool, true, false, if◌then◌else◌, List, [], ◌∷◌, ◌++◌, map, refl, sym, ap, ◌∙◌, arith}
use Rattle.std.specs.Prelude.{flat_map}
use Rattle.std.specs.List.{range_with_len}
use Rattle.std.proofs.lemmas.List.{map_push}
use Rattle.std.proofs.lemmas.List.FromFn.{map-range_with_len_more}
use Rattle.std.proofs.lemmas.Bool.{cond-true, cond-false, and_from, and_right, and_left}
use Rattle.claim_core.specs.declared.events.Event.{Event}
use Rattle.claim_core.specs.Events.{event}
use Rattle.lk_tables.specs.declared.commons.BoundCommon.{BoundCommon}
use Rattle.lk_tables.specs.declared.heads.Symbol.{Symbol}
use Rattle.lk_tables.specs.Symbols.{is_common}
use Rattle.lk_tables.specs.Files.{File, common_no, file_at, symbol_at, symbol_name}
use Rattle.lk_tables.specs.Binding.{Offer, Demand, is_offer, is_discarded, class_of, offer_at, demand_at}
use Rattle.lk_tables.specs.NameNumbers.{name_number}
use Rattle.lk_tables.specs.Ranks.{rank_of}
use Rattle.sym_resolve.specs.declared.rooms.Room.{Room}
use Rattle.sym_resolve.specs.Asks.{AreRooms, Ask, ask, room_at, ask_at, widened, after_asks, common_by, common_from}
use Rattle.sym_resolve.specs.Claims.{claim_at, rank_by}
use Rattle.sym_resolve.specs.Symbols.{in_file}
use Rattle.name_numbers.proofs.Walks.{walk_more, walk_skip, walk_push}
use Rattle.sym_resolve.proofs.Walks.{same_in_file}

abbrev pub offered_at : List File → List Bool → ℕ → Symbol → Bool
offered_at files gone f s = is_offer s && not (is_discarded files gone f s.place)

claim_one : (files : List File) (gone : List Bool) (f i w r : ℕ) → offered_at files gone f (symbol_at (file_at files f) i) ≡ true → w ≡ name_number files f i → r ≡ rank_of (class_of (symbol_at (file_at files f) i)) f i → claim_at files gone f i ≡ event w r ∷ []
unfolding claim_at offer_at
claim_one files gone f i w r is named ranked =
    let s = symbol_at (file_at files f) i in
    let o : Offer = record { name = symbol_name (file_at files f) i; rank = rank_of (class_of s) f i } in
    ap (map (λ (x : Offer). event (name_number files f i) x.rank)) (cond-true (offered_at files gone f s) (o ∷ []) [] is)
    ∙ ap (λ v. event v (rank_of (class_of s) f i) ∷ []) (sym named) ∙ ap (λ k. event w k ∷ []) (sym ranked)

claim_none : (files : List File) (gone : List Bool) (f i : ℕ) → offered_at files gone f (symbol_at (file_at files f) i) ≡ false → claim_at files gone f i ≡ []
unfolding claim_at offer_at
claim_none files gone f i is =
    let s = symbol_at (file_at files f) i in
    let o : Offer = record { name = symbol_name (file_at files f) i; rank = rank_of (class_of s) f i } in
    ap (map (λ (x : Offer). event (name_number files f i) x.rank)) (cond-false (offered_at files gone f s) (o ∷ []) [] is)

pub claim_next : (files : List File) (gone : List Bool) (f i w r : ℕ) (base old new : List Event) → offered_at files gone f (symbol_at (file_at files f) i) ≡ true → w ≡ name_number files f i → r ≡ rank_of (class_of (symbol_at (file_at files f) i)) f i → new ≡ old ++ event w r ∷ [] → old ≡ base ++ flat_map (claim_at files gone f) (range_with_len 0 i) → new ≡ base ++ flat_map (claim_at files gone f) (range_with_len 0 (i + 1))
claim_next files gone f i w r base old new is named ranked push before =
    walk_push (claim_at files gone f) base old new (event w r) i before push (claim_one files gone f i w r is named ranked)

pub claim_skip : (files : List File) (gone : List Bool) (f i : ℕ) (base old : List Event) → offered_at files gone f (symbol_at (file_at files f) i) ≡ false → old ≡ base ++ flat_map (claim_at files gone f) (range_with_len 0 i) → old ≡ base ++ flat_map (claim_at files gone f) (range_with_len 0 (i + 1))
claim_skip files gone f i base old is before = walk_skip (claim_at files gone f) base old i before (claim_none files gone f i is)

-- what the COMMON symbols ask for, one part after the other
after_asks-append : (rooms : List Room) (xs ys : List Ask) → after_asks rooms (xs ++ ys) ≡ after_asks (after_asks rooms xs) ys
after_asks-append rooms [] ys = refl
after_asks-append rooms (x ∷ xs) ys = after_asks-append (widened rooms x) xs ys

pub asks_more : (g : ℕ → List Ask) (start old new : List Room) (i : ℕ) → old ≡ after_asks start (flat_map g (range_with_len 0 i)) → new ≡ after_asks old (g i) → new ≡ after_asks start (flat_map g (range_with_len 0 (i + 1)))
asks_more g start old new i before step =
    step ∙ ap (λ l. after_asks l (g i)) before ∙ sym (after_asks-append start (flat_map g (range_with_len 0 i)) (g i))
    ∙ ap (after_asks start) (walk_more g [] (flat_map g (range_with_len 0 i)) (flat_map g (range_with_len 0 i) ++ g i) i refl refl)

pub ask_one : (files : List File) (f i w size align : ℕ) → is_common (symbol_at (file_at files f) i).place ≡ true → w ≡ name_number files f i → size ≡ (symbol_at (file_at files f) i).size → align ≡ max 1 (symbol_at (file_at files f) i).value → ask_at files f i ≡ ask w size align ∷ []
unfolding ask_at demand_at
ask_one files f i w size align is named sized aligned =
    let s = symbol_at (file_at files f) i in
    let d : Demand = record { name = symbol_name (file_at files f) i; size = s.size; align = max 1 s.value } in
    ap (map (λ (x : Demand). ask (name_number files f i) x.size x.align)) (cond-true (is_common s.place) (d ∷ []) [] is)
    ∙ ap (λ v. ask v s.size (max 1 s.value) ∷ []) (sym named) ∙ ap (λ k. ask w k (max 1 s.value) ∷ []) (sym sized) ∙ ap (λ k. ask w size k ∷ []) (sym aligned)

pub demand_none : (files : List File) (f i : ℕ) → is_common (symbol_at (file_at files f) i).place ≡ false → demand_at files f i ≡ []
unfolding demand_at
demand_none files f i is =
    let s = symbol_at (file_at files f) i in
    let d : Demand = record { name = symbol_name (file_at files f) i; size = s.size; align = max 1 s.value } in
    cond-false (is_common s.place) (d ∷ []) [] is

pub ask_none : (files : List File) (f i : ℕ) → is_common (symbol_at (file_at files f) i).place ≡ false → ask_at files f i ≡ []
unfolding ask_at
ask_none files f i is = ap (map (λ (x : Demand). ask (name_number files f i) x.size x.align)) (demand_none files f i is)

-- a COMMON symbol, bound or not
abbrev pub is_bound_by : List File → List ℕ → (f i : ℕ) → Bool
is_bound_by files row f i = rank_by files row f i == rank_of 1 f i

abbrev pub bound_common : (file symbol section size align : ℕ) → BoundCommon
bound_common file symbol section size align = record { file = file; symbol = symbol; section = section; size = size; align = align }

pub common_one : (files : List File) (row : List ℕ) (rooms : List Room) (f i section : ℕ) (own : Room) → is_common (symbol_at (file_at files f) i).place ≡ true → is_bound_by files row f i ≡ true → section ≡ common_no files f i → own ≡ room_at rooms (name_number files f i) → common_from files row rooms f i ≡ bound_common f i section own.size own.align ∷ []
unfolding common_from
common_one files row rooms f i section own common is at same =
    let test = and_from (is_common (symbol_at (file_at files f) i).place) (is_bound_by files row f i) common is in
    cond-true (is_common (symbol_at (file_at files f) i).place && is_bound_by files row f i)
    (bound_common f i (common_no files f i) (room_at rooms (name_number files f i)).size (room_at rooms (name_number files f i)).align ∷ []) [] test
    ∙ ap (λ (r : Room). bound_common f i (common_no files f i) r.size r.align ∷ []) (sym same) ∙ ap (λ k. bound_common f i k own.size own.align ∷ []) (sym at)

pub common_other : (files : List File) (row : List ℕ) (rooms : List Room) (f i : ℕ) → is_bound_by files row f i ≡ false → common_from files row rooms f i ≡ []
unfolding common_from
common_other files row rooms f i is =
    cond-false (is_common (symbol_at (file_at files f) i).place && is_bound_by files row f i)
    (bound_common f i (common_no files f i) (room_at rooms (name_number files f i)).size (room_at rooms (name_number files f i)).align ∷ []) []
    (and_right (is_common (symbol_at (file_at files f) i).place) (is_bound_by files row f i) is)

pub common_none : (files : List File) (row : List ℕ) (rooms : List Room) (f i : ℕ) → is_common (symbol_at (file_at files f) i).place ≡ false → common_from files row rooms f i ≡ []
unfolding common_from
common_none files row rooms f i is =
    cond-false (is_common (symbol_at (file_at files f) i).place && is_bound_by files row f i)
    (bound_common f i (common_no files f i) (room_at rooms (name_number files f i)).size (room_at rooms (name_number files f i)).align ∷ []) []
    (and_left (is_common (symbol_at (file_at files f) i).place) (is_bound_by files row f i) is)

-- the same rooms of words give the same lists
pub rooms_same : (files : List File) (row : List ℕ) (rooms : List Room) (f : ℕ) → AreRooms files rooms → in_file files (common_from files row rooms) f ≡ in_file files (common_by files row) f
unfolding common_by common_from
rooms_same files row rooms f are =
    same_in_file files (common_from files row rooms) (common_by files row) f (λ i live lt.
    ap (λ (r : Room). if is_common (symbol_at (file_at files f) i).place && is_bound_by files row f i then bound_common f i (common_no files f i) r.size r.align ∷ [] else []) (are (name_number files f i)))

-- one list more
pub list_more : {X Y : Type 0} (view : X → Y) (g : ℕ → Y) (old new : List X) (x : X) (f : ℕ) → map view old ≡ map g (range_with_len 0 f) → new ≡ old ++ x ∷ [] → view x ≡ g f → map view new ≡ map g (range_with_len 0 (f + 1))
list_more view g old new x f before push is =
    ap (map view) push ∙ map_push view old x ∙ ap (λ xs. xs ++ view x ∷ []) before ∙ ap (λ y. map g (range_with_len 0 f) ++ y ∷ []) is
    ∙ sym (map-range_with_len_more g 0 f f (omega arith))
