-- What the workers find of the calls of their pieces, joined, is what is known of all.
use Rattle.std.proofs.Common.{◌≡◌, ℕ, zero, suc, ◌+◌, ◌-◌, ◌<◌, ◌≤◌, ◌||◌, Bool, true, false, List, [], ◌∷◌, ◌++◌, length, map, get_or, refl, sym, ap, ◌∙◌, subst, arith, inl, inr}
use Rattle.std.specs.Prelude.{if◌then◌else◌, flat_map, All}
use Rattle.std.specs.List.{list_any, range_with_len}
use Rattle.std.proofs.lemmas.Bool.{cases_eq, cases_lt, false≢true, or_parts}
use Rattle.std.proofs.lemmas.Grind.{flat_map-append}
use Rattle.std.proofs.lemmas.List.{append-nil, get_or-map, length-map}
use Rattle.std.proofs.lemmas.List.Elements.{All-append, All-cons, All-nil}
use Rattle.std.proofs.lemmas.List.FromFn.{get_or-map-range_with_len, length-map-range_with_len}
use Rattle.lk_base.proofs.Ranges.{two_parts}
use Rattle.work_split.proofs.RunsBeside.{GoesBeside}
use Rattle.output_sections.specs.declared.rows.Row.{Row}
use Rattle.relax.specs.declared.bands.Banded.{Banded}
use Rattle.relax.specs.declared.bands.Open.{Open}
use Rattle.relax.specs.declared.calls.Call.{Call}
use Rattle.relax.specs.declared.jumps.Jump.{Jump}
use Rattle.relax.specs.Bands.{AreBands, HasBands, IsBanded, IsJoin, IsOpenOf, first_size, is_open, jump_no, open_row, size_row}
use Rattle.relax.specs.CallSizes.{all_calls}
use Rattle.relax.specs.Jumps.{IsJump, jump_at, no_jump, size_at}
use Rattle.relax.specs.Points.{AreSoundRows, IsLowJump, jump_of, jumps_in}
use Rattle.relax.proofs.BandSteps.{raised_first}
use Rattle.relax.proofs.SafeSizes.{count_is, jump_is, jumps_are}

abbrev sizes_of : Banded → List ℕ
sizes_of x = x.sizes.items

abbrev opens_of : Banded → List Open
opens_of x = x.opens.items

none_of : {Y : Type 0} (g : ℕ → List Y) (a : ℕ) → [] ≡ flat_map g (range_with_len a (a - a))
none_of g a = let e : a - a ≡ 0 = omega arith in sym (ap (λ n. flat_map g (range_with_len a n)) e)

both_of : {Y : Type 0} (f : Banded → List Y) (g : ℕ → List Y) (a m b : ℕ) (xs ys : List Banded) → a ≤ m → m ≤ b → flat_map f xs ≡ flat_map g (range_with_len a (m - a))
    → flat_map f ys ≡ flat_map g (range_with_len m (b - m)) → flat_map f (xs ++ ys) ≡ flat_map g (range_with_len a (b - a))
both_of f g a m b xs ys low high one two =
    flat_map-append f xs ys ∙ ap (λ l. l ++ flat_map f ys) one ∙ ap (λ l. flat_map g (range_with_len a (m - a)) ++ l) two ∙ sym (two_parts g a m b low high)

-- one element a number is a map
single_of : (f : ℕ → ℕ) (ks : List ℕ) → flat_map (λ k. f k ∷ []) ks ≡ map f ks
single_of f [] = refl
single_of f (k ∷ ks) = ap (λ l. f k ∷ l) (single_of f ks)

module _ (ms : List Row) (rows : List (List Call)) where
  low_both : (a m b : ℕ) → a ≤ m → m ≤ b → ((k : ℕ) → a + k < m → IsLowJump (jump_no ms rows (a + k))) → ((k : ℕ) → m + k < b → IsLowJump (jump_no ms rows (m + k)))
      → (k : ℕ) → a + k < b → IsLowJump (jump_no ms rows (a + k))
  low_both a m b low high one two k lt = elim (cases_lt (a + k) m) [
    | inl before ↦ one k before
    | inr after ↦
        let i = (a + k) - m in
        let e : m + i ≡ a + k = omega (arith, after) in
        subst (λ n. IsLowJump (jump_no ms rows n)) e (two i (omega (arith, e, lt)))
  ]

  pub bands_beside : GoesBeside {X = Banded} (AreBands ms rows)
  bands_beside = record {
    none = λ a. record { sizes = none_of (size_row ms rows) a; opens = none_of (open_row ms rows) a; low = λ k lt. absurd (omega (arith, lt)) };
    both = λ a m b xs ys low high one two. record {
      sizes = both_of sizes_of (size_row ms rows) a m b xs ys low high one.sizes two.sizes;
      opens = both_of opens_of (open_row ms rows) a m b xs ys low high one.opens two.opens;
      low = low_both a m b low high one.low two.low;
    };
  }

  pub bands_one : (a b : ℕ) (x : Banded) → HasBands ms rows a b x → AreBands ms rows a b (x ∷ [])
  bands_one a b x is = record { sizes = append-nil x.sizes.items ∙ is.sizes; opens = append-nil x.opens.items ∙ is.opens; low = is.low }

  pub bands_joined : (a b : ℕ) (parts : List Banded) (whole : Banded) → AreBands ms rows a b parts → IsJoin parts whole → HasBands ms rows a b whole
  bands_joined a b parts whole are is = record { sizes = is.sizes ∙ are.sizes; opens = is.opens ∙ are.opens; low = are.low }

  -- each open call of a run, and that none is left out
  one_row : (P : Open → Type 0) (k : ℕ) (b : Bool) → P (record { call = k; jump = jump_no ms rows k }) → All P (if b then record { call = k; jump = jump_no ms rows k } ∷ [] else [])
  one_row P k true own = All-cons P (record { call = k; jump = jump_no ms rows k }) [] own (All-nil P)
  one_row P k false own = All-nil P

  each_open : (P : Open → Type 0) (a n : ℕ) → ((k : ℕ) → k < a + n → P (record { call = k; jump = jump_no ms rows k })) → All P (flat_map (open_row ms rows) (range_with_len a n))
  each_open P a zero own = All-nil P
  each_open P a (suc n) own =
      All-append P (open_row ms rows a) (flat_map (open_row ms rows) (range_with_len (a + 1) n)) (one_row P a (is_open (jump_no ms rows a)) (own a (omega arith)))
      (each_open P (a + 1) n (λ k lt. own k (omega (arith, lt))))

  any_parts : (p : ℕ → Bool) (k : ℕ) (b : Bool) (rest : List Open) → list_any (λ (o : Open). p o.call) ((if b then record { call = k; jump = jump_no ms rows k } ∷ [] else []) ++ rest) ≡ false →
      (b ≡ true → p k ≡ false) × (list_any (λ (o : Open). p o.call) rest ≡ false)
  any_parts p k true rest none = let parts = or_parts (p k) (list_any (λ (o : Open). p o.call) rest) none in (λ e. parts.0, parts.1)
  any_parts p k false rest none = (λ e. absurd (false≢true e), none)

  no_other : (p : ℕ → Bool) (a n k : ℕ) → list_any (λ (o : Open). p o.call) (flat_map (open_row ms rows) (range_with_len a n)) ≡ false → a ≤ k → k < a + n → is_open (jump_no ms rows k) ≡ true → p k ≡ false
  no_other p a zero k none low lt is = absurd (omega (arith, low, lt))
  no_other p a (suc n) k none low lt is =
      let parts = any_parts p a (is_open (jump_no ms rows a)) (flat_map (open_row ms rows) (range_with_len (a + 1) n)) none in
      elim (cases_eq k a) [
        | inl here ↦ ap p here ∙ parts.0 (ap (λ m. is_open (jump_no ms rows m)) (sym here) ∙ is)
        | inr other ↦ no_other p (a + 1) n k parts.1 (omega (arith, low, other)) (omega (arith, lt)) is
      ]

  module _ (sound : AreSoundRows ms rows) (x : Banded) (has : HasBands ms rows 0 (length (all_calls rows)) x) where
    abbrev count : ℕ
    count = length (all_calls rows)

    abbrev jumps : List Jump
    jumps = jumps_in ms rows

    whole : count - 0 ≡ count
    whole = omega arith

    all_low : All IsLowJump jumps
    all_low k d lt =
        let less : k < count = omega (arith, lt, count_is ms rows sound) in
        let e : 0 + k ≡ k = omega arith in
        let own : IsLowJump (jump_no ms rows k) = subst (λ n. IsLowJump (jump_no ms rows n)) e (has.low k (omega (arith, less))) in
        subst IsLowJump (sym (jump_is ms rows sound k less) ∙ at_any k d lt) own
      where
        at_any : (k : ℕ) (d : Jump) → k < length jumps → jump_at jumps k ≡ get_or jumps k d
        at_any k d lt = any_default jumps k no_jump d lt
          where
            any_default : (xs : List Jump) (k : ℕ) (d e : Jump) → k < length xs → get_or xs k d ≡ get_or xs k e
            any_default [] k d e lt = absurd (omega (arith, lt))
            any_default (x ∷ xs) zero d e lt = refl
            any_default (x ∷ xs) (suc k) d e lt = any_default xs k d e (omega (arith, lt))

    are : (k : ℕ) → k < length jumps → IsJump (length jumps) (jump_at jumps k)
    are k lt = jumps_are ms rows sound all_low k no_jump lt

    sizes_are : x.sizes.items ≡ map (λ k. first_size (jump_no ms rows k)) (range_with_len 0 count)
    sizes_are = has.sizes ∙ ap (λ n. flat_map (size_row ms rows) (range_with_len 0 n)) whole ∙ single_of (λ k. first_size (jump_no ms rows k)) (range_with_len 0 count)

    opens_are : x.opens.items ≡ flat_map (open_row ms rows) (range_with_len 0 count)
    opens_are = has.opens ∙ ap (λ n. flat_map (open_row ms rows) (range_with_len 0 n)) whole

    abbrev IsOwn : Open → Type 0
    IsOwn o = (o.call < length jumps) × (o.jump ≡ jump_at jumps o.call)

    all_own : All IsOwn x.opens.items
    all_own =
        subst (All IsOwn) (sym opens_are)
        (each_open IsOwn 0 count (λ k lt.
        let less : k < count = omega (arith, lt) in
        (omega (arith, less, count_is ms rows sound), sym (jump_is ms rows sound k less))))

    size_own : (k : ℕ) → k < length jumps → size_at x.sizes.items k ≡ first_size (jump_at jumps k)
    size_own k lt =
        let less : k < count = omega (arith, lt, count_is ms rows sound) in
        ap (λ z. size_at z k) sizes_are ∙ get_or-map-range_with_len (λ n. first_size (jump_no ms rows n)) 0 count k k 8 less (omega arith)
        ∙ ap first_size (sym (jump_is ms rows sound k less))

    pub length_sizes : length x.sizes.items ≡ length (jumps_in ms rows)
    length_sizes = ap length sizes_are ∙ length-map-range_with_len (λ k. first_size (jump_no ms rows k)) 0 count ∙ sym (count_is ms rows sound)

    pub is_banded : IsBanded (jumps_in ms rows) x.opens.items x.sizes.items
    is_banded = record {
      are = are;
      each = all_own;
      all = λ p none k lt is.
          let less : k < count = omega (arith, lt, count_is ms rows sound) in
          no_other p 0 count k (ap (list_any (λ (o : Open). p o.call)) (sym opens_are) ∙ none) (omega arith) (omega (arith, less)) (ap is_open (sym (jump_is ms rows sound k less)) ∙ is);
      raised = raised_first jumps are x.sizes.items length_sizes size_own;
    }

    pub all_opens : All (IsOpenOf (length x.sizes.items)) x.opens.items
    all_opens k d lt =
        let own = all_own k d lt in
        let less = own.0 in
        record {
          call = omega (arith, less, length_sizes);
          jump = subst (λ n. IsJump n (get_or x.opens.items k d).jump) (sym length_sizes) (subst (IsJump (length jumps)) (sym own.1) (are (get_or x.opens.items k d).call less));
        }
