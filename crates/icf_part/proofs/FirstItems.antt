-- Labels by their first items.
use Rattle.std.proofs.Common.{◌≡◌, ◌≢◌, ℕ, ◌+◌, ◌<◌, ◌≤◌, List, length, map, get_or, set, sym, ap, ◌∙◌, ⊎_elim, arith}
use Rattle.std.proofs.lemmas.Bool.{cases_eq}
use Rattle.std.proofs.lemmas.List.{get_or-map, get_or-set_other, get_or-set_same, length-map}
use Rattle.icf_part.specs.Numbered.{AreFirstBy, AreFirstItems}

pub first_none : (labels firsts : List ℕ) → AreFirstBy labels (length labels) firsts
first_none labels firsts = record { within = λ a low lt. absurd (omega arith); least = λ a low lt. absurd (omega arith); own = λ a low lt. absurd (omega arith) }

pub first_more : (labels firsts : List ℕ) (j : ℕ) → j < length labels → get_or labels j 0 < length firsts → AreFirstBy labels (j + 1) firsts → AreFirstBy labels j (set firsts (get_or labels j 0) j)
first_more labels firsts j lj inside is =
    let read : ℕ → ℕ = λ a. get_or (set firsts (get_or labels j 0) j) (get_or labels a 0) 0 in
    let here : (a : ℕ) → get_or labels a 0 ≡ get_or labels j 0 → read a ≡ j =
    λ a e. ap (λ k. get_or (set firsts (get_or labels j 0) j) k 0) e ∙ get_or-set_same firsts (get_or labels j 0) j 0 inside in
    let there : (a : ℕ) → get_or labels a 0 ≢ get_or labels j 0 → read a ≡ get_or firsts (get_or labels a 0) 0 =
    λ a other. get_or-set_other firsts (get_or labels j 0) (get_or labels a 0) j 0 other in
    let later : (a : ℕ) → j ≤ a → get_or labels a 0 ≢ get_or labels j 0 → j + 1 ≤ a =
    λ a low other. ⊎_elim (λ (e : a ≡ j). absurd (other (ap (λ k. get_or labels k 0) e))) (λ (n : a ≢ j). omega (arith, low, n)) (cases_eq a j) in
    record {
      within = λ a low lt. ⊎_elim
          (λ (e : get_or labels a 0 ≡ get_or labels j 0). omega (arith, here a e, lj))
          (λ (o : get_or labels a 0 ≢ get_or labels j 0). omega (arith, there a o, is.within a (later a low o) lt))
          (cases_eq (get_or labels a 0) (get_or labels j 0));
      least = λ a low lt. ⊎_elim
          (λ (e : get_or labels a 0 ≡ get_or labels j 0). omega (arith, here a e, low))
          (λ (o : get_or labels a 0 ≢ get_or labels j 0). omega (arith, there a o, is.least a (later a low o) lt))
          (cases_eq (get_or labels a 0) (get_or labels j 0));
      own = λ a low lt. ⊎_elim
          (λ (e : get_or labels a 0 ≡ get_or labels j 0). ap (λ k. get_or labels k 0) (here a e) ∙ sym e)
          (λ (o : get_or labels a 0 ≢ get_or labels j 0). ap (λ k. get_or labels k 0) (there a o) ∙ is.own a (later a low o) lt)
          (cases_eq (get_or labels a 0) (get_or labels j 0));
    }

pub first_all : (labels firsts last : List ℕ) → AreFirstBy labels 0 firsts → last ≡ map (λ l. get_or firsts l 0) labels → AreFirstItems (length labels) labels last
first_all labels firsts last is made =
    let f : ℕ → ℕ = λ l. get_or firsts l 0 in
    let n = length labels in
    let wide : length last ≡ n = ap length made ∙ length-map labels f in
    let at : (a : ℕ) → a < n → get_or last a 0 ≡ f (get_or labels a 0) = λ a la. ap (λ l. get_or l a 0) made ∙ get_or-map f labels a 0 0 la in
    let in_n : (a : ℕ) → a < n → get_or last a 0 < n = λ a la. omega (arith, at a la, is.within a (omega arith) la) in
    let label : (a : ℕ) → a < n → get_or labels (get_or last a 0) 0 ≡ get_or labels a 0 = λ a la. ap (λ k. get_or labels k 0) (at a la) ∙ is.own a (omega arith) la in
    let tell : (a b : ℕ) → a < n → b < n → get_or last a 0 ≡ get_or last b 0 → get_or labels a 0 ≡ get_or labels b 0 =
    λ a b la lb e. sym (label a la) ∙ ap (λ k. get_or labels k 0) e ∙ label b lb in
    let join : (a b : ℕ) → a < n → b < n → get_or labels a 0 ≡ get_or labels b 0 → get_or last a 0 ≡ get_or last b 0 =
    λ a b la lb e. at a la ∙ ap f e ∙ sym (at b lb) in
    record {
      firsts = record {
        wide = wide;
        within = in_n;
        own = λ a la. join (get_or last a 0) a (in_n a la) la (label a la);
        least = λ a b la lb e. omega (arith, join a b la lb (tell a b la lb (sym e)), at b lb, is.least b (omega arith) lb);
      };
      same = join;
      tells = tell;
    }
