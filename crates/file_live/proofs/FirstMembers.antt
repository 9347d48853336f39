-- The member whose offer of a name is the first: all that offer it are members, and none of them comes before.
use Rattle.std.proofs.Common.{◌≡◌, ℕ, ◌^◌, ◌<◌, ◌≤◌, ◌⊎◌, ◌==◌, min, Bool, true, false, if◌then◌else◌, List, [], ◌∷◌, length, All, refl, sym, ap, ◌∙◌, subst, inl, inr, ⊎_elim, arith}
use Rattle.std.specs.Str.{bytes_eq}
use Rattle.std.proofs.lemmas.List.Elements.{All-nil, All-cons, All-head, All-tail, All-contains}
use Rattle.std.proofs.lemmas.Bool.{cases_lt, cond-true, and_parts, and_from, eqb-true, eq-eqb}
use Rattle.lk_tables.specs.Files.{File, file_at, symbol_at, symbol_name}
use Rattle.lk_tables.specs.Binding.{Offer, is_offer, class_of, least_rank}
use Rattle.lk_tables.specs.Ranks.{no_rank, rank_of, class_of_rank, file_of}
use Rattle.lk_tables.proofs.BoundHas.{class_few, one_if}
use Rattle.lk_tables.proofs.RankParts.{file_back}
use Rattle.name_numbers.proofs.Walks.{all_range, in_range, in_if}
use Rattle.file_live.specs.declared.claims.TheConstants.{MEMBER_CLASS}
use Rattle.file_live.specs.Live.{early_class, early_rank, early_offer_at, early_offers_in, early_offers, early, is_of_member}
use Rattle.file_live.proofs.Claimed.{offer_of}

-- files and symbols whose numbers ranks have room for
pub record IsFew (files : List File) : Type 0 where
  pub count : length files < 2 ^ 24
  pub symbols : (f : ℕ) → f < length files → length (file_at files f).head.symbols < 2 ^ 31

pub record IsFirstMember (files : List File) (name : List ℕ) (g : ℕ) : Type 0 where
  pub lt : g < length files
  pub member : (file_at files g).member ≡ true
  pub symbol : ℕ
  pub inside : symbol < length (file_at files g).head.symbols
  pub offer : is_offer (symbol_at (file_at files g) symbol) ≡ true
  pub named : bytes_eq (symbol_name (file_at files g) symbol) name ≡ true
  pub first : (f i : ℕ) → f < length files → i < length (file_at files f).head.symbols → is_offer (symbol_at (file_at files f) i) ≡ true →
      bytes_eq (symbol_name (file_at files f) i) name ≡ true → ((file_at files f).member ≡ true) × (g ≤ f)

-- the least rank on offer for a name is none, or one that is offered for it, and no greater than each of those
named_step : (P : ℕ → Type 0) (b : Bool) (rank later : ℕ) → (b ≡ true → P rank) → P later → P (if b then min rank later else later)
named_step P true rank later here there = ⊎_elim
    (λ (lt : rank < later). let e : rank ≡ min rank later = omega arith in subst P e (here refl))
    (λ (ge : later ≤ rank). let e : later ≡ min rank later = omega arith in subst P e there)
    (cases_lt rank later)
named_step P false rank later here there = there

least_named : (P : ℕ → Type 0) (text : List ℕ) (os : List Offer) → P no_rank → All (λ o. bytes_eq o.name text ≡ true → P o.rank) os → P (least_rank text os)
unfolding least_rank
least_named P text [] none each = none
least_named P text (o ∷ os) none each =
    let Q : Offer → Type 0 = λ x. bytes_eq x.name text ≡ true → P x.rank in
    named_step P (bytes_eq o.name text) o.rank (least_rank text os) (All-head Q o os each) (least_named P text os none (All-tail Q o os each))

under_head : (b : Bool) (m rank later : ℕ) → m ≤ (if b then min rank later else later) → b ≡ true → m ≤ rank
under_head true m rank later le is = omega arith
under_head false m rank later le is = absurd cc

under_tail : (b : Bool) (m rank later : ℕ) → m ≤ (if b then min rank later else later) → m ≤ later
under_tail true m rank later le = omega arith
under_tail false m rank later le = le

least_under : (text : List ℕ) (os : List Offer) (m : ℕ) → m ≤ least_rank text os → All (λ o. bytes_eq o.name text ≡ true → m ≤ o.rank) os
unfolding least_rank
least_under text [] m le = All-nil (λ (o : Offer). bytes_eq o.name text ≡ true → m ≤ o.rank)
least_under text (o ∷ os) m le =
    All-cons (λ (x : Offer). bytes_eq x.name text ≡ true → m ≤ x.rank) o os
    (under_head (bytes_eq o.name text) m o.rank (least_rank text os) le)
    (least_under text os m (under_tail (bytes_eq o.name text) m o.rank (least_rank text os) le))

least_low : (text : List ℕ) (os : List Offer) → All (λ o. bytes_eq o.name text ≡ true → least_rank text os ≤ o.rank) os
least_low text os = least_under text os (least_rank text os) (omega arith)

record IsOffered (files : List File) (name : List ℕ) (rank : ℕ) : Type 0 where
  pub file : ℕ
  pub symbol : ℕ
  pub lt : file < length files
  pub inside : symbol < length (file_at files file).head.symbols
  pub offer : is_offer (symbol_at (file_at files file) symbol) ≡ true
  pub named : bytes_eq (symbol_name (file_at files file) symbol) name ≡ true
  pub is : rank ≡ early_rank files file symbol

early_one : (files : List File) (name : List ℕ) → (early files name ≡ no_rank) ⊎ IsOffered files name (early files name)
unfolding early early_offers early_offers_in early_offer_at
early_one files name =
    let P : ℕ → Type 0 = λ r. (r ≡ no_rank) ⊎ IsOffered files name r in
    let Q : Offer → Type 0 = λ o. bytes_eq o.name name ≡ true → P o.rank in
    let each : All Q (early_offers files) =
    all_range Q (early_offers_in files) 0 (length files) (λ f low high.
    all_range Q (early_offer_at files f) 0 (length (file_at files f).head.symbols) (λ i low2 high2.
    one_if Q (is_offer (symbol_at (file_at files f) i)) (offer_of (symbol_name (file_at files f) i) (early_rank files f i)) (λ ok named.
    inr (record { file = f; symbol = i; lt = omega arith; inside = omega arith; offer = ok; named = named; is = refl })))) in
    least_named P name (early_offers files) (inl refl) each

early_low : (files : List File) (name : List ℕ) (f i : ℕ) → f < length files → i < length (file_at files f).head.symbols →
    is_offer (symbol_at (file_at files f) i) ≡ true → bytes_eq (symbol_name (file_at files f) i) name ≡ true → early files name ≤ early_rank files f i
unfolding early early_offers early_offers_in early_offer_at
early_low files name f i lt inside offer named =
    let o : Offer = offer_of (symbol_name (file_at files f) i) (early_rank files f i) in
    let P : Offer → Type 0 = λ x. bytes_eq x.name name ≡ true → least_rank name (early_offers files) ≤ x.rank in
    let holds : bytes_eq (symbol_name (file_at files f) i) name ≡ true → least_rank name (early_offers files) ≤ early_rank files f i =
    All-contains P (early_offers files) o (least_low name (early_offers files))
    (in_range (early_offers_in files) 0 (length files) f o (omega arith) (omega arith)
    (in_range (early_offer_at files f) 0 (length (file_at files f).head.symbols) i o (omega arith) (omega arith)
    (in_if (is_offer (symbol_at (file_at files f) i)) o offer))) in
    holds named

class_back : (class f i : ℕ) → f < 2 ^ 24 → i < 2 ^ 31 → class_of_rank (rank_of class f i) ≡ class
class_back class f i lt small = omega arith

-- what comes after a member is one, and stands no earlier
class_after : (f i class2 f2 i2 : ℕ) → f2 < 2 ^ 24 → i2 < 2 ^ 31 → rank_of 3 f i ≤ rank_of class2 f2 i2 → 3 ≤ class2
class_after f i class2 f2 i2 lt small le = omega arith

file_after : (f i f2 i2 : ℕ) → i2 < 2 ^ 31 → rank_of 3 f i ≤ rank_of 3 f2 i2 → f ≤ f2
file_after f i f2 i2 small le = omega arith

class_member : (b : Bool) (class : ℕ) → class ≤ 2 → 3 ≤ (if b then MEMBER_CLASS else class) → b ≡ true
class_member true class few le = refl
class_member false class few le = absurd (omega arith)

unfoldable class_at : List File → (f i : ℕ) → ℕ
class_at files f i = early_class (file_at files f) (symbol_at (file_at files f) i)

class_is : (files : List File) (f i : ℕ) → (file_at files f).member ≡ true → class_at files f i ≡ 3
unfolding class_at
class_is files f i member = cond-true (file_at files f).member MEMBER_CLASS (class_of (symbol_at (file_at files f) i)) member

member_is : (files : List File) (f i : ℕ) → 3 ≤ class_at files f i → (file_at files f).member ≡ true
unfolding class_at
member_is files f i le = class_member (file_at files f).member (class_of (symbol_at (file_at files f) i)) (class_few (symbol_at (file_at files f) i)) le

rank_at : (files : List File) (f i : ℕ) → early_rank files f i ≡ rank_of (class_at files f i) f i
unfolding class_at
rank_at files f i = refl

first_at : (files : List File) (name : List ℕ) → IsFew files → (a : IsOffered files name (early files name)) → class_of_rank (early files name) ≡ MEMBER_CLASS →
    IsFirstMember files name a.file
first_at files name few a class =
    let lt = a.lt in
    let small : a.symbol < 2 ^ 31 = let inside = a.inside in omega (arith, few.symbols a.file a.lt) in
    let is : early files name ≡ rank_of (class_at files a.file a.symbol) a.file a.symbol = a.is ∙ rank_at files a.file a.symbol in
    let own : class_at files a.file a.symbol ≡ 3 =
    sym (class_back (class_at files a.file a.symbol) a.file a.symbol (omega (arith, few.count)) small) ∙ ap class_of_rank (sym is) ∙ class in
    let least : early files name ≡ rank_of 3 a.file a.symbol = is ∙ ap (λ c. rank_of c a.file a.symbol) own in
    record {
      lt = a.lt;
      member = member_is files a.file a.symbol (omega (arith, own));
      symbol = a.symbol;
      inside = a.inside;
      offer = a.offer;
      named = a.named;
      first = λ f i lt2 inside offer named.
          let little : i < 2 ^ 31 = omega (arith, few.symbols f lt2) in
          let here : early_rank files f i ≡ rank_of (class_at files f i) f i = rank_at files f i in
          let P : ℕ → Type 0 = λ r. r ≤ rank_of (class_at files f i) f i in
          let Q : ℕ → Type 0 = λ r. early files name ≤ r in
          let le : rank_of 3 a.file a.symbol ≤ rank_of (class_at files f i) f i = subst P least (subst Q here (early_low files name f i lt2 inside offer named)) in
          let member = member_is files f i (class_after a.file a.symbol (class_at files f i) f i (omega (arith, few.count)) little le) in
          let R : ℕ → Type 0 = λ c. rank_of 3 a.file a.symbol ≤ rank_of c f i in
          (member, file_after a.file a.symbol f i little (subst R (class_is files f i member) le));
    }

pub first_of : (files : List File) (name : List ℕ) (g : ℕ) → IsFew files → is_of_member g (early files name) ≡ true → IsFirstMember files name g
first_of files name g few is =
    let rank = early files name in
    let both = and_parts (class_of_rank rank == MEMBER_CLASS) (file_of rank == g) is in
    let class : class_of_rank rank ≡ MEMBER_CLASS = eqb-true (class_of_rank rank) MEMBER_CLASS both.0 in
    let file : file_of rank ≡ g = eqb-true (file_of rank) g both.1 in
    ⊎_elim
    (λ (none : early files name ≡ no_rank). absurd (omega (arith, sym class ∙ ap class_of_rank none)))
    (λ (a : IsOffered files name (early files name)).
    let lt = a.lt in
    let small : a.symbol < 2 ^ 31 = let inside = a.inside in omega (arith, few.symbols a.file a.lt) in
    let own : a.file ≡ g = sym (file_back (class_at files a.file a.symbol) a.file a.symbol (omega (arith, few.count)) small)
    ∙ ap file_of (sym (a.is ∙ rank_at files a.file a.symbol)) ∙ file in
    let P : ℕ → Type 0 = λ k. IsFirstMember files name k in
    subst P own (first_at files name few a class))
    (early_one files name)

pub of_first : (files : List File) (name : List ℕ) (g : ℕ) → IsFew files → IsFirstMember files name g → is_of_member g (early files name) ≡ true
of_first files name g few p =
    let rank = early files name in
    let within = p.lt in
    let short : p.symbol < 2 ^ 31 = let inside = p.inside in omega (arith, few.symbols g p.lt) in
    let Q : ℕ → Type 0 = λ r. early files name ≤ r in
    let most : early files name ≤ rank_of 3 g p.symbol =
    subst Q (rank_at files g p.symbol ∙ ap (λ c. rank_of c g p.symbol) (class_is files g p.symbol p.member)) (early_low files name g p.symbol p.lt p.inside p.offer p.named) in
    ⊎_elim
    (λ (none : early files name ≡ no_rank). absurd (omega (arith, most, none, few.count)))
    (λ (a : IsOffered files name (early files name)).
    let lt = a.lt in
    let small : a.symbol < 2 ^ 31 = let inside = a.inside in omega (arith, few.symbols a.file a.lt) in
    let later = p.first a.file a.symbol a.lt a.inside a.offer a.named in
    let least : early files name ≡ rank_of 3 a.file a.symbol =
    a.is ∙ rank_at files a.file a.symbol ∙ ap (λ c. rank_of c a.file a.symbol) (class_is files a.file a.symbol later.0) in
    let P : ℕ → Type 0 = λ r. r ≤ rank_of 3 g p.symbol in
    let sooner = file_after a.file a.symbol g p.symbol short (subst P least most) in
    let own : a.file ≡ g = omega (arith, later.1) in
    and_from (class_of_rank rank == MEMBER_CLASS) (file_of rank == g)
    (eq-eqb (class_of_rank rank) MEMBER_CLASS (ap class_of_rank least ∙ class_back 3 a.file a.symbol (omega (arith, few.count)) small))
    (eq-eqb (file_of rank) g (ap file_of least ∙ file_back 3 a.file a.symbol (omega (arith, few.count)) small ∙ own)))
    (early_one files name)
