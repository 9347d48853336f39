-- Classes from the first ones to the last: what congruences pair stays together, and what stays together at the end is one.
use Rattle.std.proofs.Common.{⊎_elim, ◌≡◌, ℕ, ◌<◌, ◌≤◌, List, [], length, map, flat_map, get_or, drop, Contains, refl, sym, ap, ◌∙◌, inr, arith}
use Rattle.std.specs.List.Sorted.{IsStrictlyIncreasing}
use Rattle.std.proofs.lemmas.List.{get_or-map, length-map}
use Rattle.link_sections.specs.FoldItems.{FoldItem, sections_of}
use Rattle.name_numbers.specs.Texts.{text_at, text_numbers}
use Rattle.icf_part.specs.Folding.{AreFolded, AreLeaders, HoldsAll, IsCongruence, Key, Pair, classes, item_at, key_of, no_item, no_reloc, pair, site_of}
use Rattle.icf_part.specs.Counts.{key_count, leader_count}
use Rattle.icf_part.specs.Leaders.{same_key}
use Rattle.icf_part.specs.Numbered.{AreCarried, AreEnds, AreFirsts, IsNumbering, IsRefined, IsRefining, IsStable, Joins, key}
use Rattle.icf_part.specs.Signatures.{all_places, bytes_of, end_classes, key_words, output_of, places, reloc_places, rest_at, rest_words, rest_words_of, site_words}
use Rattle.icf_part.proofs.Counting.{leads_fewer, news_lead}
use Rattle.icf_part.proofs.Deciding.{key_Decides, key_from}
use Rattle.icf_part.proofs.Framed.{frames_apart}
use Rattle.icf_part.proofs.NumberedRows.{numbers_same, numbers_tell}
use Rattle.icf_part.proofs.Paired.{classes_have, classes_tell}
use Rattle.icf_part.proofs.PlacesWide.{places_wide}
use Rattle.icf_part.proofs.PlacesWithin.{places_within}
use Rattle.icf_part.proofs.Relocs.{along, alike, same_words, sites_told, spread}
use Rattle.icf_part.proofs.Targets.{agrees_matched, matched_places, matched_words}

-- a numbering numbers each class by its first item
pub firsts_of : (words : ℕ → List ℕ) (n : ℕ) (c : List ℕ) → IsNumbering words n c → AreFirsts n c
firsts_of words n c is = record {
  wide = is.wide;
  within = is.within;
  own = λ a la. is.same (get_or c a 0) a (is.within a la) la (is.own a la);
  least = λ a b la lb e. is.least a b la lb (is.tells b a lb la e);
}

-- the classes to which an item leads
class_words : (c : List ℕ) → (sections : List ℕ) → FoldItem → List ℕ
class_words c sections i = flat_map (λ r. map (λ a. get_or c a 0) (reloc_places sections r)) i.relocs

ends_are : (items : List FoldItem) (c : List ℕ) (a : ℕ) → a < length items → end_classes c (all_places items) a ≡ class_words c (sections_of items) (item_at items a)
unfolding end_classes all_places places class_words
ends_are items c a lt =
    let secs = sections_of items in
    let at : ℕ → ℕ = λ k. get_or c k 0 in
    ap (map at) (get_or-map (places secs) items a no_item [] lt) ∙ spread at (reloc_places secs) (item_at items a).relocs

-- equal texts of two items have one number
text_of_item : (f : FoldItem → List ℕ) (items : List FoldItem) (a : ℕ) → a < length items → text_at (map f items) a ≡ f (item_at items a)
text_of_item f items a lt = get_or-map f items a no_item [] lt

pub one_number : (f : FoldItem → List ℕ) (items : List FoldItem) (a b : ℕ) → a < length items → b < length items → f (item_at items a) ≡ f (item_at items b) →
    get_or (text_numbers (map f items)) a 0 ≡ get_or (text_numbers (map f items)) b 0
one_number f items a b la lb e =
    numbers_same (map f items) a b (omega (arith, la, length-map items f)) (omega (arith, lb, length-map items f))
    (text_of_item f items a la ∙ e ∙ sym (text_of_item f items b lb))

pub one_text : (f : FoldItem → List ℕ) (items : List FoldItem) (a b : ℕ) → a < length items → b < length items →
    get_or (text_numbers (map f items)) a 0 ≡ get_or (text_numbers (map f items)) b 0 → f (item_at items a) ≡ f (item_at items b)
one_text f items a b la lb e =
    sym (text_of_item f items a la)
    ∙ numbers_tell (map f items) a b (omega (arith, la, length-map items f)) (omega (arith, lb, length-map items f)) e
    ∙ text_of_item f items b lb

module _ (items : List FoldItem) where
  inside : (pairs : List Pair) → IsCongruence items pairs → (a b : ℕ) → Contains pairs (pair a b) → (a < length items) × (b < length items)
  inside pairs is a b has = ((is.fits a b has).one, (is.fits a b has).two)

  -- equal keys have equal words, and the other way round
  key_same : (a b : ℕ) → a < length items → b < length items → key_of (item_at items a) ≡ key_of (item_at items b) → key items a ≡ key items b
  unfolding key_words
  key_same a b la lb e =
      let i = item_at items a in
      let j = item_at items b in
      let sites : map site_of i.relocs ≡ map site_of j.relocs = ap (λ (k : Key). k.sites) e in
      let flags : i.flags ≡ j.flags = ap (λ (k : Key). k.flags) e in
      let kind : i.sh_type ≡ j.sh_type = ap (λ (k : Key). k.sh_type) e in
      let align : i.align ≡ j.align = ap (λ (k : Key). k.align) e in
      let bytes = one_number bytes_of items a b la lb (ap (λ (k : Key). k.bytes) e) in
      let output = one_number output_of items a b la lb (ap (λ (k : Key). k.output) e) in
      let own : i.own ≡ j.own = ap (λ (k : Key). k.own) e in
      let frames : i.frames ≡ j.frames = ap (λ (k : Key). k.frames) e in
      let relocs = along site_words i.relocs j.relocs sites (λ k lt site. same_words (get_or i.relocs k no_reloc) (get_or j.relocs k no_reloc) site) in
      cc (bytes, output, flags, kind, align, own, frames, relocs)

  key_tells : (a b : ℕ) → a < length items → b < length items → key items a ≡ key items b → key_of (item_at items a) ≡ key_of (item_at items b)
  unfolding key_words
  key_tells a b la lb same =
      let i = item_at items a in
      let j = item_at items b in
      let rest = frames_apart i.frames j.frames (flat_map site_words i.relocs) (flat_map site_words j.relocs) (ap (λ l. get_or l 6 0) same) (ap (drop 7) same) in
      key_from (key_of i) (key_of j) (one_text bytes_of items a b la lb (ap (λ l. get_or l 0 0) same)) (ap (λ l. get_or l 2 0) same) (ap (λ l. get_or l 3 0) same)
      (ap (λ l. get_or l 4 0) same) (one_text output_of items a b la lb (ap (λ l. get_or l 1 0) same)) (ap (λ l. get_or l 5 0) same) rest.0
      (sites_told i.relocs j.relocs rest.1)

  -- what a congruence pairs leads to equal classes, where these join the pairs
  ends_fit : IsStrictlyIncreasing (sections_of items) → (pairs : List Pair) → IsCongruence items pairs → (c : List ℕ) → Joins pairs c → (a b : ℕ) → Contains pairs (pair a b) →
      end_classes c (all_places items) a ≡ end_classes c (all_places items) b
  unfolding class_words
  ends_fit order pairs is c joins a b has =
      let fit = is.fits a b has in
      let secs = sections_of items in
      let i = item_at items a in
      let j = item_at items b in
      let at : ℕ → ℕ = λ k. get_or c k 0 in
      let sites : map site_of i.relocs ≡ map site_of j.relocs = ap (λ (k : Key). k.sites) fit.key in
      let ends = along (λ r. map at (reloc_places secs r)) i.relocs j.relocs sites
      (λ k lt site. matched_places items order pairs c (inside pairs is) joins
      (get_or i.relocs k no_reloc).target (get_or j.relocs k no_reloc).target (fit.targets k lt)) in
      ends_are items c a fit.one ∙ ends ∙ sym (ends_are items c b fit.two)

  carried : IsStrictlyIncreasing (sections_of items) → (pairs : List Pair) → IsCongruence items pairs → AreCarried (all_places items) pairs
  carried order pairs is = record {
    one = λ a b has. omega (arith, (inside pairs is a b has).0, places_wide items);
    two = λ a b has. omega (arith, (inside pairs is a b has).1, places_wide items);
    leads = ends_fit order pairs is;
  }

  -- equally many of them
  counts_fit : IsStrictlyIncreasing (sections_of items) → (pairs : List Pair) → IsCongruence items pairs → (a b : ℕ) → Contains pairs (pair a b) →
      length (get_or (all_places items) a []) ≡ length (get_or (all_places items) b [])
  unfolding end_classes
  counts_fit order pairs is a b has =
      let at : ℕ → ℕ = λ k. get_or [] k 0 in
      sym (length-map (get_or (all_places items) a []) at) ∙ ap length (ends_fit order pairs is [] (λ x y got. refl) a b has) ∙ length-map (get_or (all_places items) b []) at

  -- the first classes, by the numbers of keys and of the rest
  pub refining_first : IsStrictlyIncreasing (sections_of items) → (keys c : List ℕ) → IsNumbering (key items) (length items) keys →
      IsNumbering (rest_at items keys (all_places items)) (length items) c → IsRefining items c
  unfolding rest_words
  refining_first order keys c by is = record {
    wide = is.wide;
    keys = λ a b la lb e. by.tells a b la lb (ap (λ l. get_or l 0 0) (is.tells a b la lb e));
    rests = λ a b la lb e. ap (drop 2) (is.tells a b la lb e);
    outer = λ pairs a b congr has.
        let fit = congr.fits a b has in
        let secs = sections_of items in
        let i = item_at items a in
        let j = item_at items b in
        let sites : map site_of i.relocs ≡ map site_of j.relocs = ap (λ (k : Key). k.sites) fit.key in
        let number = by.same a b fit.one fit.two (key_same a b fit.one fit.two fit.key) in
        let count = counts_fit order pairs congr a b has in
        let words = along (rest_words_of secs) i.relocs j.relocs sites
        (λ k lt site. matched_words items order pairs (inside pairs congr) (get_or i.relocs k no_reloc).target (get_or j.relocs k no_reloc).target (fit.targets k lt)) in
        is.same a b fit.one fit.two (cc (number, count, words));
  }

  -- the last ones
  pub refining_last : IsStrictlyIncreasing (sections_of items) → (c last : List ℕ) → IsRefining items c → IsRefined (all_places items) c last → IsRefining items last
  refining_last order c last r is =
      let wide = places_wide items in
      record {
        wide = is.firsts.wide ∙ wide;
        keys = λ a b la lb e. r.keys a b la lb (is.finer a b (omega (arith, la, wide)) (omega (arith, lb, wide)) e);
        rests = λ a b la lb e. r.rests a b la lb (is.finer a b (omega (arith, la, wide)) (omega (arith, lb, wide)) e);
        outer = λ pairs a b congr has. is.outer pairs (carried order pairs congr) (λ x y got. r.outer pairs x y congr got) a b has;
      }

  -- where the items lead
  pub ends_of : (keys c : List ℕ) → IsNumbering (rest_at items keys (all_places items)) (length items) c → AreEnds (all_places items) c
  unfolding rest_words
  ends_of keys c is = record {
    within = λ a k lt. omega (arith, places_within items a k lt, places_wide items);
    alike = λ a b la lb e. ap (λ l. get_or l 1 0) (is.tells a b (omega (arith, la, places_wide items)) (omega (arith, lb, places_wide items)) e);
  }

  -- classes of which each leads to one class in each place are a congruence
  pub stable_fits : (c : List ℕ) → IsRefining items c → IsStable (all_places items) c → IsCongruence items (classes c)
  unfolding class_words
  stable_fits c r s = record {
    fits = λ a b has.
        let wide = r.wide in
        let told = classes_tell c a b has in
        let one = told.one in
        let two = told.two in
        let la : a < length items = omega arith in
        let lb : b < length items = omega arith in
        let i = item_at items a in
        let j = item_at items b in
        let own = key_tells a b la lb (r.keys a b la lb told.same) in
        let sites : map site_of i.relocs ≡ map site_of j.relocs = ap (λ (k : Key). k.sites) own in
        let stays = s.stays a b (omega (arith, la, places_wide items)) (omega (arith, lb, places_wide items)) told.same in
        let ends = sym (ends_are items c a la) ∙ stays ∙ ends_are items c b lb in
        let targets = alike (sections_of items) c i.relocs j.relocs sites (r.rests a b la lb told.same) ends in
        record {
          one = la;
          two = lb;
          key = own;
          targets = λ k lt. agrees_matched items c wide (get_or i.relocs k no_reloc).target (get_or j.relocs k no_reloc).target (targets k lt);
        };
  }

  -- classes by their first items that are the greatest congruence are the leaders
  pub firsts_lead : (c : List ℕ) → AreFirsts (length items) c → IsCongruence items (classes c) → HoldsAll items c → AreLeaders items c
  firsts_lead c firsts congr holds =
      let wide = firsts.wide in
      record {
        count = wide;
        each = λ a la.
            let low = firsts.within a la in
            record {
              within = low;
              own = inr (record { pairs = classes c; congruence = congr; listed = classes_have c (get_or c a 0) a (omega (arith, low, wide)) (omega (arith, la, wide)) (firsts.own a la) });
              least = λ b stands. ⊎_elim
                  (λ (same : b ≡ a). firsts.least a b (omega (arith, la)) (omega (arith, la, same)) (ap (λ k. get_or c k 0) same))
                  (λ (folded : AreFolded items b a). firsts.least a b la (inside folded.pairs folded.congruence b a folded.listed).0 (holds folded.pairs b a folded.congruence folded.listed))
                  stands;
            };
      }

  -- and so are the numbers of the last ones
  pub stable_leads : (c : List ℕ) → AreFirsts (length items) c → IsRefining items c → IsStable (all_places items) c → AreLeaders items c
  stable_leads c firsts r s = firsts_lead c firsts (stable_fits c r s) r.outer

  -- classes of equal keys are as many as their first items
  pub keys_counted : (keys : List ℕ) → IsNumbering (key items) (length items) keys → key_count items ≡ leader_count keys
  keys_counted keys by =
      news_lead (length items) (λ b a. same_key (key_of (item_at items b)) (key_of (item_at items a))) keys (firsts_of (key items) (length items) keys by)
      (λ b a lb la is. by.same b a lb la (key_same b a lb la ((key_Decides (key_of (item_at items b)) (key_of (item_at items a))).0 is)))
      (λ b a lb la e. (key_Decides (key_of (item_at items b)) (key_of (item_at items a))).1 (key_tells b a lb la (by.tells b a lb la e)))

  -- and those of keys and rests are no fewer
  pub keys_fewer : (keys c : List ℕ) → IsNumbering (key items) (length items) keys → IsNumbering (rest_at items keys (all_places items)) (length items) c → leader_count keys ≤ leader_count c
  unfolding rest_words
  keys_fewer keys c by is =
      leads_fewer (length items) keys c (firsts_of (key items) (length items) keys by) (firsts_of (rest_at items keys (all_places items)) (length items) c is)
      (λ a b la lb e. ap (λ l. get_or l 0 0) (is.tells a b la lb e))
