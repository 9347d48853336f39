-- What several workers list, each of a run of files, is, joined, what one lists of all.
use Rattle.std.proofs.Common.{◌≡◌, ℕ, suc, ◌+◌, ◌-◌, ◌<◌, ◌≤◌, List, [], ◌∷◌, ◌++◌, length, map, drop, get_or, sym, ap, ◌∙◌, arith, append_assoc}
use Rattle.std.specs.Prelude.{flat_map}
use Rattle.std.specs.List.{range_with_len}
use Rattle.std.proofs.Math.Seq.{drop-cons}
use Rattle.std.proofs.lemmas.Grind.{flat_map-append}
use Rattle.std.proofs.lemmas.List.{append-nil, at_drop_all}
use Rattle.lk_base.proofs.Loops.{map_flat}
use Rattle.lk_base.proofs.Ranges.{two_parts}
use Rattle.lk_tables.specs.Files.{File}
use Rattle.work_split.proofs.RunsBeside.{GoesBeside}
use Rattle.name_numbers.specs.declared.keys.Listed.{Listed}
use Rattle.name_numbers.specs.Columns.{AreRuns, HasKeys, IsEmpty, IsJoin, Joins, firsts_of, symbols_of, texts_of}
use Rattle.name_numbers.specs.Keys.{firsts_in, keys_in, place_of_key, text_of_key}

-- one list of several runs
abbrev IsList : {Y : Type 0} → (Listed → List Y) → (ℕ → List Y) → (a b : ℕ) → List Listed → Type 0
IsList f g a b runs = flat_map f runs ≡ flat_map g (range_with_len a (b - a))

list_none : {Y : Type 0} (f : Listed → List Y) (g : ℕ → List Y) (a : ℕ) → IsList f g a a []
list_none f g a = let e : a - a ≡ 0 = omega arith in sym (ap (λ n. flat_map g (range_with_len a n)) e)

list_both : {Y : Type 0} (f : Listed → List Y) (g : ℕ → List Y) (a m b : ℕ) (xs ys : List Listed) → a ≤ m → m ≤ b → IsList f g a m xs → IsList f g m b ys → IsList f g a b (xs ++ ys)
list_both f g a m b xs ys low high one two =
    flat_map-append f xs ys ∙ ap (λ l. l ++ flat_map f ys) one ∙ ap (λ l. flat_map g (range_with_len a (m - a)) ++ l) two ∙ sym (two_parts g a m b low high)

list_one : {Y : Type 0} (f : Listed → List Y) (g : ℕ → List Y) (a b : ℕ) (run : Listed) → f run ≡ flat_map g (range_with_len a (b - a)) → IsList f g a b (run ∷ [])
list_one f g a b run is = append-nil (f run) ∙ is

module _ (files : List File) where
  pub runs_beside : GoesBeside {X = Listed} (AreRuns files)
  runs_beside = record {
    none = λ a. record {
      texts = list_none texts_of (λ f. map text_of_key (keys_in files f)) a;
      symbols = list_none symbols_of (λ f. map place_of_key (keys_in files f)) a;
      firsts = list_none firsts_of (firsts_in files) a;
    };
    both = λ a m b xs ys low high one two. record {
      texts = list_both texts_of (λ f. map text_of_key (keys_in files f)) a m b xs ys low high one.texts two.texts;
      symbols = list_both symbols_of (λ f. map place_of_key (keys_in files f)) a m b xs ys low high one.symbols two.symbols;
      firsts = list_both firsts_of (firsts_in files) a m b xs ys low high one.firsts two.firsts;
    };
  }

  pub run_one : (a b : ℕ) (run : Listed) → HasKeys files a b run → AreRuns files a b (run ∷ [])
  run_one a b run held =
      let ns = range_with_len a (b - a) in
      record {
        texts = list_one texts_of (λ f. map text_of_key (keys_in files f)) a b run (held.own.texts ∙ map_flat text_of_key (keys_in files) ns);
        symbols = list_one symbols_of (λ f. map place_of_key (keys_in files f)) a b run (held.own.symbols ∙ map_flat place_of_key (keys_in files) ns);
        firsts = list_one firsts_of (firsts_in files) a b run held.firsts;
      }

  pub runs_joined : (a b : ℕ) (runs : List Listed) (whole : Listed) → AreRuns files a b runs → IsJoin runs whole → HasKeys files a b whole
  runs_joined a b runs whole are is =
      let ns = range_with_len a (b - a) in
      record {
        own = record {
          texts = is.texts ∙ are.texts ∙ sym (map_flat text_of_key (keys_in files) ns);
          symbols = is.symbols ∙ are.symbols ∙ sym (map_flat place_of_key (keys_in files) ns);
        };
        firsts = is.firsts ∙ are.firsts;
      }

-- the first r runs are joined
pub record JoinedTo (runs : List Listed) (r : ℕ) (whole : Listed) : Type 0 where
  pub texts : texts_of whole ++ flat_map texts_of (drop r runs) ≡ flat_map texts_of runs
  pub symbols : symbols_of whole ++ flat_map symbols_of (drop r runs) ≡ flat_map symbols_of runs
  pub firsts : firsts_of whole ++ flat_map firsts_of (drop r runs) ≡ flat_map firsts_of runs

pub joined_none : (runs : List Listed) (whole : Listed) → IsEmpty whole → JoinedTo runs 0 whole
joined_none runs whole none = record {
  texts = ap (λ l. l ++ flat_map texts_of runs) none.texts;
  symbols = ap (λ l. l ++ flat_map symbols_of runs) none.symbols;
  firsts = ap (λ l. l ++ flat_map firsts_of runs) none.firsts;
}

rest_next : {Y : Type 0} (f : Listed → List Y) (runs : List Listed) (r : ℕ) (run old new : Listed) → r < length runs → run ≡ get_or runs r run → f new ≡ f old ++ f run →
    f old ++ flat_map f (drop r runs) ≡ flat_map f runs → f new ++ flat_map f (drop (r + 1) runs) ≡ flat_map f runs
rest_next f runs r run old new lt is push held =
    let one : suc r ≡ r + 1 = omega arith in
    let rest = flat_map f (drop (r + 1) runs) in
    let here : flat_map f (drop r runs) ≡ f run ++ rest =
    ap (flat_map f) (drop-cons runs r run lt) ∙ ap (λ x. f x ++ flat_map f (drop (suc r) runs)) (sym is) ∙ ap (λ k. f run ++ flat_map f (drop k runs)) one in
    ap (λ l. l ++ rest) push ∙ append_assoc (f old) (f run) rest ∙ ap (λ l. f old ++ l) (sym here) ∙ held

pub joined_next : (runs : List Listed) (r : ℕ) (run old new : Listed) → r < length runs → run ≡ get_or runs r run → Joins run old new → JoinedTo runs r old → JoinedTo runs (r + 1) new
joined_next runs r run old new lt is push held = record {
  texts = rest_next texts_of runs r run old new lt is push.texts held.texts;
  symbols = rest_next symbols_of runs r run old new lt is push.symbols held.symbols;
  firsts = rest_next firsts_of runs r run old new lt is push.firsts held.firsts;
}

rest_none : {Y : Type 0} (f : Listed → List Y) (runs : List Listed) (r : ℕ) (whole : Listed) → length runs ≤ r → f whole ++ flat_map f (drop r runs) ≡ flat_map f runs → f whole ≡ flat_map f runs
rest_none f runs r whole all held = sym (append-nil (f whole)) ∙ ap (λ l. f whole ++ l) (sym (at_drop_all (flat_map f) runs r all)) ∙ held

pub joined_all : (runs : List Listed) (r : ℕ) (whole : Listed) → length runs ≤ r → JoinedTo runs r whole → IsJoin runs whole
joined_all runs r whole all held = record {
  texts = rest_none texts_of runs r whole all held.texts;
  symbols = rest_none symbols_of runs r whole all held.symbols;
  firsts = rest_none firsts_of runs r whole all held.firsts;
}
