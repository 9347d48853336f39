-- The tests of the definition of leaders decide what they name: equal targets and keys, matching targets, fitting items, congruences.
use Rattle.std.proofs.Common.{◌≡◌, ◌⊎◌, ℕ, ◌<◌, ◌==◌, ◌&&◌, ◌||◌, ltb, ℤ, Bool, true, false, true≢false, Option, Some, List, [], ◌∷◌, length, Contains, Decides, refl, sym, ap, ◌∙◌, subst, inl, inr, ⊎_elim, bytes_eq, int_eq, arith}
use Rattle.std.specs.Bool.{beq}
use Rattle.std.specs.Cmp.{booleans_Decides}
use Rattle.std.specs.Cmp.Lexicographic.{pointwise}
use Rattle.std.specs.List.{list_all, list_any, range_with_len}
use Rattle.std.proofs.lemmas.Bool.Decides.{Decides-and, Decides-eqb, Decides-int_eq, Decides-like, Decides-ltb, Decides-or}
use Rattle.std.proofs.lemmas.Bool.{and_from, and_parts}
use Rattle.std.proofs.lemmas.Slice.Eq.{bytes_eq-Decides, slice_eq-Decides}
use Rattle.lk_base.proofs.Membership.{any_from, from_range, head_or_tail, in_range, in_tail}
use Rattle.link_sections.specs.declared.targets.Target.{Target}
use Rattle.link_sections.specs.declared.targets.Target.TheVariants.{Section}
use Rattle.link_sections.specs.FoldItems.{FoldFrame, FoldItem}
use Rattle.link_sections.proofs.SameTargets.{one_section, target_Decides, target_told}
use Rattle.icf_part.specs.Folding.{ArePaired, Fits, IsCongruence, Key, Matches, Pair, Site, item_at, key_of, pair, target_at}
use Rattle.icf_part.specs.Leaders.{are_bytes_of, fits, has_pair, is_congruence, matches, same_frame, same_key, same_site, same_target}

-- equal keys
site_from : (s t : Site) → s.offset ≡ t.offset → s.kind ≡ t.kind → s.addend ≡ t.addend → s.is_section_symbol ≡ t.is_section_symbol → s ≡ t
site_from s t offset kind addend symbol =
    let make : ℕ → ℕ → ℤ → Bool → Site = λ o k a b. record { offset = o; kind = k; addend = a; is_section_symbol = b } in
    ap (λ o. make o s.kind s.addend s.is_section_symbol) offset
    ∙ ap (λ k. make t.offset k s.addend s.is_section_symbol) kind
    ∙ ap (λ a. make t.offset t.kind a s.is_section_symbol) addend
    ∙ ap (make t.offset t.kind t.addend) symbol

site_Decides : (s t : Site) → Decides (same_site s t) (s ≡ t)
site_Decides s t =
    Decides-like (same_site s t)
    (λ p. site_from s t p.0 p.1.0 p.1.1.0 p.1.1.1)
    (λ e. (ap (λ (x : Site). x.offset) e, (ap (λ (x : Site). x.kind) e, (ap (λ (x : Site). x.addend) e, ap (λ (x : Site). x.is_section_symbol) e))))
    (Decides-and (s.offset == t.offset) (s.kind == t.kind && (int_eq s.addend t.addend && beq s.is_section_symbol t.is_section_symbol)) (Decides-eqb s.offset t.offset)
    (Decides-and (s.kind == t.kind) (int_eq s.addend t.addend && beq s.is_section_symbol t.is_section_symbol) (Decides-eqb s.kind t.kind)
    (Decides-and (int_eq s.addend t.addend) (beq s.is_section_symbol t.is_section_symbol) (Decides-int_eq s.addend t.addend) (booleans_Decides s.is_section_symbol t.is_section_symbol))))

all_six : {A B C D E F : Type 0} (a b c d e f : Bool) → Decides a A → Decides b B → Decides c C → Decides d D → Decides e E → Decides f F →
    Decides (a && (b && (c && (d && (e && f))))) (A × (B × (C × (D × (E × F)))))
all_six a b c d e f da db dc dd de df =
    Decides-and a (b && (c && (d && (e && f)))) da (Decides-and b (c && (d && (e && f))) db (Decides-and c (d && (e && f)) dc (Decides-and d (e && f) dd (Decides-and e f de df))))

pub frame_from : (f g : FoldFrame) → f.bytes ≡ g.bytes → f.cie ≡ g.cie → f.offset ≡ g.offset → f.rest ≡ g.rest → f.others ≡ g.others → f.shared ≡ g.shared → f ≡ g
frame_from f g bytes cie offset rest others shared =
    let make : List ℕ → List ℕ → ℕ → ℤ → ℕ → ℕ → FoldFrame = λ b c o r n m. record { bytes = b; cie = c; offset = o; rest = r; others = n; shared = m } in
    ap (λ b. make b f.cie f.offset f.rest f.others f.shared) bytes
    ∙ ap (λ c. make g.bytes c f.offset f.rest f.others f.shared) cie
    ∙ ap (λ o. make g.bytes g.cie o f.rest f.others f.shared) offset
    ∙ ap (λ r. make g.bytes g.cie g.offset r f.others f.shared) rest
    ∙ ap (λ n. make g.bytes g.cie g.offset g.rest n f.shared) others
    ∙ ap (make g.bytes g.cie g.offset g.rest g.others) shared

frame_Decides : (f g : FoldFrame) → Decides (same_frame f g) (f ≡ g)
frame_Decides f g =
    Decides-like (same_frame f g)
    (λ p. frame_from f g p.0 p.1.0 p.1.1.0 p.1.1.1.0 p.1.1.1.1.0 p.1.1.1.1.1)
    (λ e. (ap (λ (x : FoldFrame). x.bytes) e, (ap (λ (x : FoldFrame). x.cie) e, (ap (λ (x : FoldFrame). x.offset) e, (ap (λ (x : FoldFrame). x.rest) e, (ap (λ (x : FoldFrame). x.others) e, ap (λ (x : FoldFrame). x.shared) e))))))
    (all_six (bytes_eq f.bytes g.bytes) (bytes_eq f.cie g.cie) (f.offset == g.offset) (int_eq f.rest g.rest) (f.others == g.others) (f.shared == g.shared)
    (bytes_eq-Decides f.bytes g.bytes) (bytes_eq-Decides f.cie g.cie) (Decides-eqb f.offset g.offset) (Decides-int_eq f.rest g.rest) (Decides-eqb f.others g.others) (Decides-eqb f.shared g.shared))

-- what a key has beside its header
record Rest : Type 0 where
  own : ℕ
  frames : List FoldFrame
  sites : List Site

abbrev rest_of : Key → Rest
rest_of k = record { own = k.own; frames = k.frames; sites = k.sites }

rest_from : (x y : Rest) → x.own ≡ y.own → x.frames ≡ y.frames → x.sites ≡ y.sites → x ≡ y
rest_from x y own frames sites =
    let make : ℕ → List FoldFrame → List Site → Rest = λ n f s. record { own = n; frames = f; sites = s } in
    ap (λ n. make n x.frames x.sites) own ∙ ap (λ f. make y.own f x.sites) frames ∙ ap (make y.own y.frames) sites

header_from : (i j : Key) → i.bytes ≡ j.bytes → i.flags ≡ j.flags → i.sh_type ≡ j.sh_type → i.align ≡ j.align → i.output ≡ j.output → rest_of i ≡ rest_of j → i ≡ j
header_from i j bytes flags kind align output rest =
    let make : List ℕ → ℕ → ℕ → ℕ → List ℕ → Rest → Key = λ b f t n o r.
    record { bytes = b; flags = f; sh_type = t; align = n; output = o; own = r.own; frames = r.frames; sites = r.sites } in
    ap (λ b. make b i.flags i.sh_type i.align i.output (rest_of i)) bytes
    ∙ ap (λ f. make j.bytes f i.sh_type i.align i.output (rest_of i)) flags
    ∙ ap (λ t. make j.bytes j.flags t i.align i.output (rest_of i)) kind
    ∙ ap (λ n. make j.bytes j.flags j.sh_type n i.output (rest_of i)) align
    ∙ ap (λ o. make j.bytes j.flags j.sh_type j.align o (rest_of i)) output
    ∙ ap (make j.bytes j.flags j.sh_type j.align j.output) rest

pub key_from : (i j : Key) → i.bytes ≡ j.bytes → i.flags ≡ j.flags → i.sh_type ≡ j.sh_type → i.align ≡ j.align → i.output ≡ j.output →
    i.own ≡ j.own → i.frames ≡ j.frames → i.sites ≡ j.sites → i ≡ j
key_from i j bytes flags kind align output own frames sites = header_from i j bytes flags kind align output (rest_from (rest_of i) (rest_of j) own frames sites)

abbrev same_rest : Key → Key → Bool
same_rest i j = i.own == j.own && (pointwise same_frame i.frames j.frames && pointwise same_site i.sites j.sites)

rest_Decides : (i j : Key) → Decides (same_rest i j) ((i.own ≡ j.own) × ((i.frames ≡ j.frames) × (i.sites ≡ j.sites)))
rest_Decides i j =
    Decides-and (i.own == j.own) (pointwise same_frame i.frames j.frames && pointwise same_site i.sites j.sites) (Decides-eqb i.own j.own)
    (Decides-and (pointwise same_frame i.frames j.frames) (pointwise same_site i.sites j.sites)
    (slice_eq-Decides frame_Decides i.frames j.frames (pointwise same_frame i.frames j.frames) refl)
    (slice_eq-Decides site_Decides i.sites j.sites (pointwise same_site i.sites j.sites) refl))

pub key_Decides : (i j : Key) → Decides (same_key i j) (i ≡ j)
key_Decides i j =
    Decides-like (same_key i j)
    (λ p. key_from i j p.0 p.1.0 p.1.1.0 p.1.1.1.0 p.1.1.1.1.0 p.1.1.1.1.1.0 p.1.1.1.1.1.1.0 p.1.1.1.1.1.1.1)
    (λ e. (
      ap (λ (k : Key). k.bytes) e,
      (
        ap (λ (k : Key). k.flags) e,
        (
          ap (λ (k : Key). k.sh_type) e,
          (
            ap (λ (k : Key). k.align) e,
            (
              ap (λ (k : Key). k.output) e,
              (ap (λ (k : Key). k.own) e, (ap (λ (k : Key). k.frames) e, ap (λ (k : Key). k.sites) e)),
            ),
          ),
        ),
      ),
    ))
    (all_six (bytes_eq i.bytes j.bytes) (i.flags == j.flags) (i.sh_type == j.sh_type) (i.align == j.align) (bytes_eq i.output j.output) (same_rest i j)
    (bytes_eq-Decides i.bytes j.bytes) (Decides-eqb i.flags j.flags) (Decides-eqb i.sh_type j.sh_type) (Decides-eqb i.align j.align) (bytes_eq-Decides i.output j.output)
    (rest_Decides i j))

-- what passes a test of a list, and a list whose elements all pass
pub record Passes {X : Type 0} (p : X → Bool) (xs : List X) : Type 0 where
  pub x : X
  pub listed : Contains xs x
  pub passes : p x ≡ true

either_true : (a b : Bool) → (a || b) ≡ true → (a ≡ true) ⊎ (b ≡ true)
either_true true b e = inl refl
either_true false b e = inr e

pub any_tells : {X : Type 0} (p : X → Bool) (xs : List X) → list_any p xs ≡ true → Passes p xs
any_tells p [] e = absurd (true≢false (sym e))
any_tells p (x ∷ xs) e = ⊎_elim
    (λ (here : p x ≡ true). record { x = x; listed = (0, omega arith, refl); passes = here })
    (λ (later : list_any p xs ≡ true). let rest = any_tells p xs later in record { x = rest.x; listed = in_tail x rest.x xs rest.listed; passes = rest.passes })
    (either_true (p x) (list_any p xs) e)

pub all_tell : {X : Type 0} (p : X → Bool) (xs : List X) → list_all p xs ≡ true → (x : X) → Contains xs x → p x ≡ true
all_tell p [] e x (k, lt, is) = absurd (omega (arith, lt))
all_tell p (y ∷ xs) e x has =
    let both = and_parts (p y) (list_all p xs) e in
    ⊎_elim
    (λ (here : y ≡ x). ap p (sym here) ∙ both.0)
    (λ (later : Contains xs x). all_tell p xs both.1 x later)
    (head_or_tail y x xs has)

pub all_pass : {X : Type 0} (p : X → Bool) (xs : List X) → ((x : X) → Contains xs x → p x ≡ true) → list_all p xs ≡ true
all_pass p [] each = refl
all_pass p (y ∷ xs) each =
    and_from (p y) (list_all p xs) (each y (0, omega arith, refl)) (all_pass p xs (λ x has. each x (in_tail y x xs has)))

-- sections of a pair
record AreBytesOf (s t : ℕ) (x y : Option Target) : Type 0 where
  offset : ℕ
  rest : ℤ
  one : x ≡ Some (Section s offset rest)
  two : y ≡ Some (Section t offset rest)

bytes_told : (s t : ℕ) (x y : Option Target) → are_bytes_of s t x y ≡ true → AreBytesOf s t x y
bytes_told s t (Some (Section m o r)) y e =
    let both = and_parts (m == s) (same_target y (Some (Section t o r))) e in
    record {
      offset = o;
      rest = r;
      one = one_section m o r s o r ((Decides-eqb m s).0 both.0) refl refl;
      two = target_told y (Some (Section t o r)) both.1;
    }
bytes_told s t x y e = absurd (true≢false (sym e))

bytes_are : (s t o : ℕ) (r : ℤ) (x y : Option Target) → x ≡ Some (Section s o r) → y ≡ Some (Section t o r) → are_bytes_of s t x y ≡ true
bytes_are s t o r x y one two =
    let here = and_from (s == s) (same_target y (Some (Section t o r))) ((Decides-eqb s s).1 refl) ((target_Decides y (Some (Section t o r))).1 two) in
    ap (λ v. are_bytes_of s t v y) one ∙ here

-- a list has a pair
pair_test : (p : Pair) (a b : ℕ) → Decides (p.one == a && p.two == b) ((p.one ≡ a) × (p.two ≡ b))
pair_test p a b = Decides-and (p.one == a) (p.two == b) (Decides-eqb p.one a) (Decides-eqb p.two b)

pair_from : (p : Pair) (a b : ℕ) → p.one ≡ a → p.two ≡ b → p ≡ pair a b
pair_from p a b one two = ap (λ k. pair k p.two) one ∙ ap (pair a) two

pub has_pair_Decides : (pairs : List Pair) (a b : ℕ) → Decides (has_pair pairs a b) (Contains pairs (pair a b))
has_pair_Decides pairs a b = (
  λ e.
      let found = any_tells (λ (p : Pair). p.one == a && p.two == b) pairs e in
      let same = (pair_test found.x a b).0 found.passes in
      let P : Pair → Type 0 = λ p. Contains pairs p in
      subst P (pair_from found.x a b same.0 same.1) found.listed,
  λ has. any_from (λ (p : Pair). p.one == a && p.two == b) pairs (pair a b) has ((pair_test (pair a b) a b).1 (refl, refl)),
)

module _ (items : List FoldItem) (pairs : List Pair) where
  paired : (t u : Option Target) → Decides (list_any (λ (p : Pair). are_bytes_of (item_at items p.one).section (item_at items p.two).section t u) pairs) (ArePaired items pairs t u)
  paired t u = (
    λ e.
        let found = any_tells (λ (p : Pair). are_bytes_of (item_at items p.one).section (item_at items p.two).section t u) pairs e in
        let told = bytes_told (item_at items found.x.one).section (item_at items found.x.two).section t u found.passes in
        record { a = found.x.one; b = found.x.two; offset = told.offset; rest = told.rest; listed = found.listed; one = told.one; two = told.two },
    λ (p : ArePaired items pairs t u).
        any_from (λ (q : Pair). are_bytes_of (item_at items q.one).section (item_at items q.two).section t u) pairs (pair p.a p.b) p.listed
        (bytes_are (item_at items p.a).section (item_at items p.b).section p.offset p.rest t u p.one p.two),
  )

  pub matches_Decides : (t u : Option Target) → Decides (matches items pairs t u) (Matches items pairs t u)
  matches_Decides t u =
      Decides-or (same_target t u) (list_any (λ (p : Pair). are_bytes_of (item_at items p.one).section (item_at items p.two).section t u) pairs) (target_Decides t u) (paired t u)

  -- all targets of two items match
  abbrev targets_match : (a b n : ℕ) → Bool
  targets_match a b n = list_all (λ k. matches items pairs (target_at (item_at items a) k) (target_at (item_at items b) k)) (range_with_len 0 n)

  targets_Decide : (a b n : ℕ) → Decides (targets_match a b n) ((k : ℕ) → k < n → Matches items pairs (target_at (item_at items a) k) (target_at (item_at items b) k))
  targets_Decide a b n =
      let test : ℕ → Bool = λ k. matches items pairs (target_at (item_at items a) k) (target_at (item_at items b) k) in (
        λ e k lt. (matches_Decides (target_at (item_at items a) k) (target_at (item_at items b) k)).0 (all_tell test (range_with_len 0 n) e k (in_range n k lt)),
        λ each. all_pass test (range_with_len 0 n) (λ k has. (matches_Decides (target_at (item_at items a) k) (target_at (item_at items b) k)).1 (each k (from_range n k has))),
      )

  pub fits_Decides : (a b : ℕ) → Decides (fits items pairs (pair a b)) (Fits items pairs a b)
  fits_Decides a b =
      let n = length items in
      let i = item_at items a in
      let j = item_at items b in
      let keys = same_key (key_of i) (key_of j) in
      let targets = targets_match a b (length i.relocs) in
      Decides-like (fits items pairs (pair a b))
      (λ p. record { one = p.0; two = p.1.0; key = p.1.1.0; targets = p.1.1.1 })
      (λ (f : Fits items pairs a b). (f.one, (f.two, (f.key, f.targets))))
      (Decides-and (ltb a n) (ltb b n && (keys && targets)) (Decides-ltb a n)
      (Decides-and (ltb b n) (keys && targets) (Decides-ltb b n)
      (Decides-and keys targets (key_Decides (key_of i) (key_of j)) (targets_Decide a b (length i.relocs)))))

  pub congruence_Decides : Decides (is_congruence items pairs) (IsCongruence items pairs)
  congruence_Decides = (
    λ e. record { fits = λ a b has. (fits_Decides a b).0 (all_tell (fits items pairs) pairs e (pair a b) has) },
    λ (c : IsCongruence items pairs). all_pass (fits items pairs) pairs (λ (p : Pair) has. (fits_Decides p.one p.two).1 (c.fits p.one p.two has)),
  )
