-- What the COMMON symbols of a name ask for: the greatest demand is one of theirs, and none is above it.
use Rattle.std.proofs.Common.{◌≡◌, ℕ, zero, suc, ◌<◌, ◌≤◌, ◌⊎◌, max, Bool, true, false, if◌then◌else◌, List, [], ◌∷◌, All, Contains, refl, sym, ap, ◌∙◌, subst, inl, inr, ⊎_elim, arith}
use Rattle.std.specs.Str.{bytes_eq}
use Rattle.std.proofs.lemmas.List.Elements.{All-contains}
use Rattle.std.proofs.lemmas.Bool.{cond-true, cases_lt}
use Rattle.std.proofs.lemmas.Slice.Eq.{bytes_eq-Decides}
use Rattle.lk_tables.specs.declared.heads.Symbol.{Symbol}
use Rattle.lk_tables.specs.Symbols.{is_common}
use Rattle.lk_tables.specs.Files.{File, file_at, symbol_at, symbol_name}
use Rattle.lk_tables.specs.Binding.{Demand, demand_at, demands_in, demands, greatest_size, greatest_align}
use Rattle.lk_tables.proofs.BoundHas.{one_if}
use Rattle.sym_resolve.specs.Law.{IsCommonIn, IsMostAsked, size_asked, align_asked}
use Rattle.sym_resolve.proofs.Walks.{all_symbols, in_symbols}

abbrev pub demand : (name : List ℕ) (size align : ℕ) → Demand
demand name size align = record { name = name; size = size; align = align }

abbrev demand_by : List ℕ → Symbol → Demand
demand_by name s = demand name s.size (max 1 s.value)

-- each COMMON symbol's demand is one of all
pub demand_there : (files : List File) (f i : ℕ) → IsCommonIn files f i → Contains (demands files) (demand_by (symbol_name (file_at files f) i) (symbol_at (file_at files f) i))
unfolding demands demands_in demand_at
demand_there files f i c =
    let s = symbol_at (file_at files f) i in
    let d = demand_by (symbol_name (file_at files f) i) s in
    let one : demand_at files f i ≡ d ∷ [] = cond-true (is_common s.place) (d ∷ []) [] c.common in
    let P : List Demand → Type 0 = λ l. Contains l d in
    in_symbols files (demand_at files) f i d c.live c.within (subst P (sym one) (0, omega arith, refl))

-- the greatest that a name's demands ask for, one of two numbers of each; what nobody asks for is the start
abbrev pub most_of : (Demand → ℕ) → ℕ → List ℕ → List Demand → ℕ
most_of of start name [] = start
most_of of start name (d ∷ ds) = if bytes_eq d.name name then max (of d) (most_of of start name ds) else most_of of start name ds

pub size_most : (name : List ℕ) (ds : List Demand) → most_of (λ d. d.size) 0 name ds ≡ greatest_size name ds
unfolding greatest_size
size_most name [] = refl
size_most name (d ∷ ds) = ap (λ k. if bytes_eq d.name name then max d.size k else k) (size_most name ds)

pub align_most : (name : List ℕ) (ds : List Demand) → most_of (λ d. d.align) 1 name ds ≡ greatest_align name ds
unfolding greatest_align
align_most name [] = refl
align_most name (d ∷ ds) = ap (λ k. if bytes_eq d.name name then max d.align k else k) (align_most name ds)

max_own : (own later : ℕ) (b : Bool) → b ≡ true → own ≤ (if b then max own later else later)
max_own own later true is = omega arith
max_own own later false is = absurd cc

max_later : (own later low : ℕ) (b : Bool) → low ≤ later → low ≤ (if b then max own later else later)
max_later own later low true le = omega arith
max_later own later low false le = le

-- no demand of the name is above it
most_above : (of : Demand → ℕ) (start : ℕ) (name : List ℕ) (ds : List Demand) (d : Demand) → Contains ds d → d.name ≡ name → of d ≤ most_of of start name ds
most_above of start name [] d (k, lt, is) same = absurd (omega arith)
most_above of start name (e ∷ ds) d (zero, lt, is) same =
    let t = bytes_eq-Decides e.name name in
    let own = max_own (of e) (most_of of start name ds) (bytes_eq e.name name) (t.1 (ap (λ (x : Demand). x.name) is ∙ same)) in
    let P : Demand → Type 0 = λ x. of x ≤ most_of of start name (e ∷ ds) in
    subst P is own
most_above of start name (e ∷ ds) d (suc k, lt, is) same = max_later (of e) (most_of of start name ds) (of d) (bytes_eq e.name name) (most_above of start name ds d (k, omega arith, is) same)

-- a demand of the name that asks for so much
record IsReached (of : Demand → ℕ) (name : List ℕ) (ds : List Demand) (most : ℕ) : Type 0 where
  by : Demand
  has : Contains ds by
  same : by.name ≡ name
  is : of by ≡ most

reached_later : (of : Demand → ℕ) (name : List ℕ) (d : Demand) (ds : List Demand) (most : ℕ) → IsReached of name ds most → IsReached of name (d ∷ ds) most
reached_later of name d ds most r = let k : ℕ = r.has.0 in record { by = r.by; has = (suc k, omega (arith, r.has.1), r.has.2); same = r.same; is = r.is }

reached_next : (of : Demand → ℕ) (start : ℕ) (name : List ℕ) (d : Demand) (ds : List Demand) (later : ℕ) (b : Bool) → (b ≡ true → d.name ≡ name) → (later ≡ start) ⊎ IsReached of name ds later
    → ((if b then max (of d) later else later) ≡ start) ⊎ IsReached of name (d ∷ ds) (if b then max (of d) later else later)
reached_next of start name d ds later false is before = ⊎_elim (λ (none : later ≡ start). inl none) (λ (r : IsReached of name ds later). inr (reached_later of name d ds later r)) before
reached_next of start name d ds later true is before = ⊎_elim
    (λ (lt : of d < later).
    let e : later ≡ max (of d) later = omega arith in
    ⊎_elim (λ (none : later ≡ start). inl (omega arith))
    (λ (r : IsReached of name ds later). let P : ℕ → Type 0 = λ k. IsReached of name (d ∷ ds) k in inr (subst P e (reached_later of name d ds later r)))
    before)
    (λ (ge : later ≤ of d). inr (record { by = d; has = (0, omega arith, refl); same = is refl; is = omega arith }))
    (cases_lt (of d) later)

most_reached : (of : Demand → ℕ) (start : ℕ) (name : List ℕ) (ds : List Demand) → (most_of of start name ds ≡ start) ⊎ IsReached of name ds (most_of of start name ds)
most_reached of start name [] = inl refl
most_reached of start name (d ∷ ds) =
    let t = bytes_eq-Decides d.name name in
    reached_next of start name d ds (most_of of start name ds) (bytes_eq d.name name) t.0 (most_reached of start name ds)

-- a demand is that of a COMMON symbol
record IsAsked (files : List File) (asked : Symbol → ℕ) (of : Demand → ℕ) (d : Demand) : Type 0 where
  file : ℕ
  symbol : ℕ
  common : IsCommonIn files file symbol
  named : symbol_name (file_at files file) symbol ≡ d.name
  asks : asked (symbol_at (file_at files file) symbol) ≡ of d

module _ (files : List File) (asked : Symbol → ℕ) (of : Demand → ℕ) (start : ℕ) (agree : (name : List ℕ) (s : Symbol) → asked s ≡ of (demand_by name s)) where
  each_asked : All (IsAsked files asked of) (demands files)
  unfolding demands demands_in demand_at
  each_asked =
      all_symbols (IsAsked files asked of) files (demand_at files)
      (λ f i live lt. one_if (IsAsked files asked of) _ _
      (λ is. record { file = f; symbol = i; common = record { live = live; within = lt; common = is }; named = refl; asks = agree (symbol_name (file_at files f) i) (symbol_at (file_at files f) i) }))

  none_above : (name : List ℕ) (f i : ℕ) → IsCommonIn files f i → symbol_name (file_at files f) i ≡ name → asked (symbol_at (file_at files f) i) ≤ most_of of start name (demands files)
  none_above name f i c same =
      let own = symbol_name (file_at files f) i in
      let s = symbol_at (file_at files f) i in
      let le = most_above of start name (demands files) (demand_by own s) (demand_there files f i c) same in
      omega (arith, agree own s)

  -- if one asks for the start at least, the greatest demand is a COMMON symbol's
  pub is_most : (name : List ℕ) (f i : ℕ) → IsCommonIn files f i → symbol_name (file_at files f) i ≡ name → start ≤ asked (symbol_at (file_at files f) i) → IsMostAsked files name asked (most_of of start name (demands files))
  is_most name f i c same some = ⊎_elim
      (λ (none : most_of of start name (demands files) ≡ start).
      let le = none_above name f i c same in
      record { file = f; symbol = i; common = c; named = same; reached = omega arith; greatest = none_above name })
      (λ (r : IsReached of name (demands files) (most_of of start name (demands files))).
      let a = All-contains (IsAsked files asked of) (demands files) r.by each_asked r.has in
      record { file = a.file; symbol = a.symbol; common = a.common; named = a.named ∙ r.same; reached = a.asks ∙ r.is; greatest = none_above name })
      (most_reached of start name (demands files))

pub size_is_most : (files : List File) (f i : ℕ) → IsCommonIn files f i → IsMostAsked files (symbol_name (file_at files f) i) size_asked (greatest_size (symbol_name (file_at files f) i) (demands files))
size_is_most files f i c =
    let name = symbol_name (file_at files f) i in
    let P : ℕ → Type 0 = IsMostAsked files name size_asked in
    subst P (size_most name (demands files)) (is_most files size_asked (λ d. d.size) 0 (λ n s. refl) name f i c refl (omega arith))

pub align_is_most : (files : List File) (f i : ℕ) → IsCommonIn files f i → IsMostAsked files (symbol_name (file_at files f) i) align_asked (greatest_align (symbol_name (file_at files f) i) (demands files))
align_is_most files f i c =
    let name = symbol_name (file_at files f) i in
    let P : ℕ → Type 0 = IsMostAsked files name align_asked in
    subst P (align_most name (demands files)) (is_most files align_asked (λ d. d.align) 1 (λ n s. refl) name f i c refl (omega arith))
