-- What no file offers is bound to the linker's own symbols: the ranks that are put in, and the binding that they give.
use Rattle.std.proofs.Common.{◌≡◌, ℕ, zero, suc, ◌+◌, ◌<◌, ◌&&◌, ◌==◌, not, Bool, true, false, if◌then◌else◌, List, [], ◌∷◌, ◌++◌, length, map, set, refl, sym, ap, ◌∙◌, subst, append_assoc, arith}
use Rattle.std.specs.Prelude.{flat_map}
use Rattle.std.specs.List.{range_with_len}
use Rattle.std.proofs.Math.Seq.{set-append_seam}
use Rattle.std.proofs.lemmas.Bool.{cond-true, cond-false}
use Rattle.std.proofs.lemmas.List.{length-append}
use Rattle.std.proofs.lemmas.List.FromFn.{length-map-range_with_len}
use Rattle.lk_base.specs.declared.abi.TheConstants.{STB_LOCAL}
use Rattle.lk_tables.specs.Binding.{Bindings, live_rank, offered_bindings, rank_bound}
use Rattle.lk_tables.specs.BindingView.{with_entry, with_rank}
use Rattle.lk_tables.specs.BoundNames.{linked_rank, or_linker, rank_of_linker, with_linker}
use Rattle.lk_tables.specs.Files.{File, by_symbol, file_at, first_symbol, symbol_at, symbol_name, symbol_no}
use Rattle.lk_tables.specs.LinkerSymbols.{linker_no}
use Rattle.lk_tables.specs.Ranks.{no_rank}
use Rattle.lk_tables.specs.Targets.{rank_at}
use Rattle.lk_tables.proofs.BoundHas.{offered_is}
use Rattle.lk_tables.proofs.ByNumber.{by_symbol_same, symbol_row}
use Rattle.lk_tables.proofs.FirstNumbers.{first_more}
use Rattle.name_numbers.proofs.Walks.{walk_push, walk_skip}
use Rattle.sym_resolve.specs.declared.linker.Linked.{Linked}
use Rattle.sym_resolve.specs.declared.unbound.Unbound.{Unbound}
use Rattle.sym_resolve.specs.Symbols.{in_file, over_symbols}
use Rattle.sym_resolve.specs.Unbound.{after_linked, all_unbound, is_unbound_at, linked_of, unbound_at}
use Rattle.sym_resolve.proofs.Meaning.{made_of, maps_split}
use Rattle.sym_resolve.proofs.Walks.{same_symbols, through_symbols}

-- the list of unbound symbols, one symbol more
abbrev unbound : (file symbol number : ℕ) → Unbound
unbound file symbol number = record { file = file; symbol = symbol; number = number }

pub unbound_next : (files : List File) (b : Bindings) (f i n : ℕ) (base old new : List Unbound) → is_unbound_at files b f i ≡ true → n ≡ symbol_no files f i →
    new ≡ old ++ unbound f i n ∷ [] → old ≡ base ++ flat_map (unbound_at files b f) (range_with_len 0 i) →
    new ≡ base ++ flat_map (unbound_at files b f) (range_with_len 0 (i + 1))
unfolding unbound_at
unbound_next files b f i n base old new is numbered push before =
    walk_push (unbound_at files b f) base old new (unbound f i n) i before push
    (cond-true (is_unbound_at files b f i) (unbound f i (symbol_no files f i) ∷ []) [] is ∙ ap (λ k. unbound f i k ∷ []) (sym numbered))

pub unbound_skip : (files : List File) (b : Bindings) (f i : ℕ) (base old : List Unbound) → is_unbound_at files b f i ≡ false →
    old ≡ base ++ flat_map (unbound_at files b f) (range_with_len 0 i) → old ≡ base ++ flat_map (unbound_at files b f) (range_with_len 0 (i + 1))
unfolding unbound_at
unbound_skip files b f i base old is before =
    walk_skip (unbound_at files b f) base old i before (cond-false (is_unbound_at files b f i) (unbound f i (symbol_no files f i) ∷ []) [] is)

-- ranks that are put into a list by their numbers
abbrev puts : List ℕ → List Linked → List ℕ
puts ranks [] = ranks
puts ranks (l ∷ ls) = puts (set ranks l.number l.rank) ls

abbrev link : (number rank : ℕ) → Linked
link number rank = record { number = number; rank = rank }

after_puts : (b : Bindings) (ls : List Linked) → after_linked b ls ≡ made_of b.discarded (puts b.ranks ls) b.entry b.commons
after_puts b [] = refl
after_puts b (l ∷ ls) = after_puts (with_rank b l.number l.rank) ls

puts-append : (ranks : List ℕ) (xs ys : List Linked) → puts ranks (xs ++ ys) ≡ puts (puts ranks xs) ys
puts-append ranks [] ys = refl
puts-append ranks (x ∷ xs) ys = puts-append (set ranks x.number x.rank) xs ys

put_one : (b : Bool) (s a v g : ℕ) (pre tail : List ℕ) (rest : List Linked) → length pre ≡ s + a →
    puts (pre ++ g ∷ tail) ((if b then link (s + a) v ∷ [] else []) ++ rest) ≡ puts (pre ++ (if b then v else g) ∷ tail) rest
put_one true s a v g pre tail rest long =
    ap (λ l. puts l rest) (ap (λ k. set (pre ++ g ∷ tail) k v) (sym long) ∙ set-append_seam pre g tail v)
put_one false s a v g pre tail rest long = refl

-- into the row of a file, which begins at s
put_row : (p : ℕ → Bool) (v g : ℕ → ℕ) (s a n : ℕ) (pre post : List ℕ) → length pre ≡ s + a →
    puts (pre ++ (map g (range_with_len a n) ++ post)) (flat_map (λ i. if p i then link (s + i) (v i) ∷ [] else []) (range_with_len a n))
    ≡ pre ++ (map (λ i. if p i then v i else g i) (range_with_len a n) ++ post)
put_row p v g s a zero pre post long = refl
put_row p v g s a (suc n) pre post long =
    let tail = map g (range_with_len (a + 1) n) ++ post in
    let rest = flat_map (λ i. if p i then link (s + i) (v i) ∷ [] else []) (range_with_len (a + 1) n) in
    let x = if p a then v a else g a in
    put_one (p a) s a (v a) (g a) pre tail rest long
    ∙ ap (λ l. puts l rest) (sym (append_assoc pre (x ∷ []) tail))
    ∙ put_row p v g s (a + 1) n (pre ++ x ∷ []) post (omega (arith, long, length-append pre (x ∷ [])))
    ∙ append_assoc pre (x ∷ []) (map (λ i. if p i then v i else g i) (range_with_len (a + 1) n) ++ post)

put_file : (live : Bool) (p : ℕ → Bool) (v g : ℕ → ℕ) (s n : ℕ) (pre post : List ℕ) → length pre ≡ s →
    puts (pre ++ (map g (range_with_len 0 n) ++ post)) (if live then flat_map (λ i. if p i then link (s + i) (v i) ∷ [] else []) (range_with_len 0 n) else [])
    ≡ pre ++ (map (λ i. if live then (if p i then v i else g i) else g i) (range_with_len 0 n) ++ post)
put_file true p v g s n pre post long = put_row p v g s 0 n pre post (omega arith)
put_file false p v g s n pre post long = refl

module _ (files : List File) (p : ℕ → ℕ → Bool) (v g : ℕ → ℕ → ℕ) where
  abbrev put_at : (f i : ℕ) → ℕ
  put_at f i = if (file_at files f).live then (if p f i then v f i else g f i) else g f i

  abbrev link_at : (f i : ℕ) → List Linked
  link_at f i = if p f i then link (symbol_no files f i) (v f i) ∷ [] else []

  put_files : (f n : ℕ) (pre : List ℕ) → f + n ≡ length files → length pre ≡ first_symbol files f →
      puts (pre ++ flat_map (symbol_row files g) (range_with_len f n)) (flat_map (in_file files link_at) (range_with_len f n))
      ≡ pre ++ flat_map (symbol_row files put_at) (range_with_len f n)
  put_files f zero pre all long = refl
  put_files f (suc n) pre all long =
      let count = length (file_at files f).head.symbols in
      let rows = flat_map (symbol_row files g) (range_with_len (f + 1) n) in
      let links = flat_map (in_file files link_at) (range_with_len (f + 1) n) in
      let own = symbol_row files put_at f in
      let lt : f < length files = omega (arith, all) in
      let next : length (pre ++ own) ≡ first_symbol files (f + 1) = omega (arith, long, first_more files f lt, length-append pre own, length-map-range_with_len (put_at f) 0 count) in
      puts-append (pre ++ (symbol_row files g f ++ rows)) (in_file files link_at f) links
      ∙ ap (λ l. puts l links) (put_file (file_at files f).live (p f) (v f) (g f) (first_symbol files f) count pre rows long ∙ sym (append_assoc pre own rows))
      ∙ put_files (f + 1) n (pre ++ own) (omega (arith, all)) next
      ∙ append_assoc pre own (flat_map (symbol_row files put_at) (range_with_len (f + 1) n))

  all_put : puts (by_symbol files g) (over_symbols files link_at) ≡ by_symbol files put_at
  unfolding by_symbol
  all_put = put_files 0 (length files) [] (omega arith) refl

same_if : (live local : Bool) (r v g x none : ℕ) → r ≡ g → g ≡ (if live then (if local then none else x) else none) →
    (if live then (if not local && r == none then v else g) else g) ≡ (if live then (if local then none else (if r == none then v else r)) else none)
same_if true true r v g x none e is = is
same_if true false r v g x none e is = ap (λ k. if r == none then v else k) (sym e)
same_if false local r v g x none e is = is

map_if : (f : Unbound → Linked) (b : Bool) (u : Unbound) → map f (if b then u ∷ [] else []) ≡ (if b then f u ∷ [] else [])
map_if f true u = refl
map_if f false u = refl

links_are : (files : List File) (b : Bindings) →
    map (linked_of files b) (all_unbound files b) ≡ over_symbols files (link_at files (is_unbound_at files b) (λ f i. rank_of_linker (linker_no files b (symbol_name (file_at files f) i))) (λ f i. no_rank))
unfolding all_unbound unbound_at
links_are files b =
    through_symbols (map (linked_of files b)) (maps_split (linked_of files b)) files (unbound_at files b)
    ∙ same_symbols files (λ f i. map (linked_of files b) (unbound_at files b f i)) (link_at files (is_unbound_at files b) (λ f i. rank_of_linker (linker_no files b (symbol_name (file_at files f) i))) (λ f i. no_rank))
    (λ f i live lt. map_if (linked_of files b) (is_unbound_at files b f i) (unbound f i (symbol_no files f i)))

-- so the ranks of all symbols are what the linker's symbols make of the offered ones
linked_ranks : (files : List File) (gone : List Bool) (entry : List ℕ) →
    puts (offered_bindings files gone entry).ranks (map (linked_of files (offered_bindings files gone entry)) (all_unbound files (offered_bindings files gone entry)))
    ≡ by_symbol files (linked_rank files (offered_bindings files gone entry))
unfolding offered_bindings linked_rank or_linker live_rank rank_bound
linked_ranks files gone entry =
    let b = offered_bindings files gone entry in
    let v : ℕ → ℕ → ℕ = λ f i. rank_of_linker (linker_no files b (symbol_name (file_at files f) i)) in
    ap (puts b.ranks) (links_are files b)
    ∙ all_put files (is_unbound_at files b) v (live_rank files gone)
    ∙ by_symbol_same files (put_at files (is_unbound_at files b) v (live_rank files gone)) (linked_rank files b)
    (λ f i lt below. same_if (file_at files f).live ((symbol_at (file_at files f) i).binding == STB_LOCAL) (rank_at b (symbol_no files f i)) (v f i) (live_rank files gone f i) _ no_rank
    (offered_is files gone entry f i lt below) refl)

pub linked_binding : (files : List File) (b : Bindings) (entry : List ℕ) (rank : ℕ) (ls : List Linked) → b ≡ offered_bindings files b.discarded entry →
    rank ≡ or_linker files b entry b.entry → ls ≡ map (linked_of files b) (all_unbound files b) → after_linked (with_entry b rank) ls ≡ with_linker files b entry
unfolding with_linker
linked_binding files b entry rank ls is ranked listed =
    let P : Bindings → Type 0 = λ n. puts n.ranks (map (linked_of files n) (all_unbound files n)) ≡ by_symbol files (linked_rank files n) in
    let ranks : puts b.ranks ls ≡ by_symbol files (linked_rank files b) = ap (puts b.ranks) listed ∙ subst P (sym is) (linked_ranks files b.discarded entry) in
    after_puts (with_entry b rank) ls
    ∙ ap (λ l. made_of b.discarded l rank b.commons) ranks
    ∙ ap (λ k. made_of b.discarded (by_symbol files (linked_rank files b)) k b.commons) ranked
