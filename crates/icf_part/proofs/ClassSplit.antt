-- One class is split, or stays as it is.
use Rattle.std.proofs.Common.{◌≡◌, ◌≢◌, ℕ, ◌+◌, ◌-◌, ◌<◌, ◌≤◌, ◌==◌, ◌^◌, Bool, true, false, List, [], ◌∷◌, ◌++◌, length, get_or, set, Contains, refl, sym, ap, ◌∙◌, subst, ⊎_elim, inl, inr, arith}
use Rattle.icf_part.specs.declared.classes.Classes.{Classes}
use Rattle.icf_part.specs.Classes.{Adds, AreKept, GoesOn, IsKept, IsPartSplit, Stands, class_count, lists_of, size_of}
use Rattle.icf_part.specs.Counts.{is_new}
use Rattle.icf_part.proofs.AddedClass.{IsNext, added_goes, added_kept}
use Rattle.icf_part.proofs.Counting.{most}
use Rattle.icf_part.proofs.Listed.{has_at}
use Rattle.icf_part.proofs.PartSplit.{part_split, split_counts, undone, whole_split}
use Rattle.icf_part.proofs.Relabelled.{IsRelabelled}
use Rattle.icf_part.proofs.SplitRuns.{stands_first}

-- a part of a class
pub record IsPart (n from : ℕ) (part labels : List ℕ) : Type 0 where
  pub some : 0 < length part
  pub items : (a : ℕ) → Contains part a → (a < n) × (get_or labels a 0 ≡ from)

-- there are at most twice as many labels as items
pub labels_few : (n : ℕ) (c : Classes) → AreKept n c → n < 2 ^ 31 → length c.sizes.items + 1 < 2 ^ 32
labels_few n c kept few =
    let room = kept.room in
    let labels = c.labels.items in
    omega (arith, room, few, kept.wide, most (is_new (λ b a. get_or labels b 0 == get_or labels a 0)) (length labels))

pub first_of : (part : List ℕ) → 0 < length part → Contains part (get_or part 0 0)
first_of part some = has_at part (get_or part 0 0) 0 some refl

module _ (n from : ℕ) (part : List ℕ) (c : Classes) (kept : AreKept n c) (is_part : IsPart n from part c.labels.items) where
  abbrev head : ℕ
  head = get_or part 0 0

  head_in : Contains part head
  head_in = first_of part is_part.some

  pub from_within : from < length c.sizes.items
  from_within =
      let at = is_part.items head head_in in
      omega (arith, kept.below head at.0, at.1)

  fresh : (a : ℕ) → a < length c.labels.items → get_or c.labels.items a 0 ≢ length c.sizes.items
  fresh a la e = omega (arith, kept.below a (omega (arith, la, kept.wide)), e)

  apart : from ≢ length c.sizes.items
  apart e = omega (arith, from_within, e)

  pub inside : (a : ℕ) → Contains part a → a < n
  inside a has = (is_part.items a has).0

  size_is : get_or c.sizes.items from 0 ≡ size_of from c.labels.items
  size_is = kept.counted from from_within

  module _ (labels : List ℕ) (moved : ℕ) (is : IsRelabelled c.labels.items part from (length c.sizes.items) labels moved) where
    -- no more are moved than there are
    pub moved_few : moved ≤ get_or c.sizes.items from 0
    moved_few = omega (arith, is.less, size_is)

    -- all items are in the part, and go back
    pub back_again : (back : List ℕ) (again : ℕ) → IsRelabelled labels part (length c.sizes.items) from back again → back ≡ c.labels.items
    back_again back again was = undone c.labels.items part from (length c.sizes.items) labels moved is fresh apart back again was

    pub whole_is : moved ≡ get_or c.sizes.items from 0 → IsPartSplit n from part c.labels.items c.labels.items
    whole_is all =
        let P : ℕ → Type 0 = λ k. IsPartSplit k from part c.labels.items c.labels.items in
        subst P kept.wide (whole_split c.labels.items part from (length c.sizes.items) labels moved is fresh apart (all ∙ size_is))

    pub part_is : IsPartSplit n from part c.labels.items labels
    part_is =
        let P : ℕ → Type 0 = λ k. IsPartSplit k from part c.labels.items labels in
        subst P kept.wide (part_split c.labels.items part from (length c.sizes.items) labels moved is fresh apart)

    one_more : moved ≢ get_or c.sizes.items from 0 → class_count labels ≡ class_count c.labels.items + 1
    one_more other =
        let at = is_part.items head head_in in
        split_counts c.labels.items part from (length c.sizes.items) labels moved is fresh apart head (omega (arith, at.0, kept.wide)) head_in at.1 (λ e. other (e ∙ sym size_is))

    -- the new class is added
    pub added : (mid new : Classes) (s t : ℕ) → Adds from mid new → moved ≢ get_or c.sizes.items from 0 → mid.sizes.items ≡ c.sizes.items → mid.members.items ≡ c.members.items → mid.waits.items ≡ c.waits.items →
        mid.queue.items ≡ c.queue.items → new.labels.items ≡ labels → lists_of new.members.items ≡ lists_of mid.members.items ++ part ∷ [] →
        new.sizes.items ≡ set mid.sizes.items from (get_or mid.sizes.items from 0 - moved) ++ moved ∷ [] → t ≡ s + 1 → Stands n c new s t
    added mid new s t adds other sizes members waits queue own lists sized tick =
        let count = one_more other in
        let next = adds.next in
        let P_sizes : List ℕ → Type 0 = λ l. new.sizes.items ≡ set l from (get_or l from 0 - moved) ++ moved ∷ [] in
        let e_sizes = subst P_sizes sizes sized in
        let e_members = lists ∙ ap (λ l. lists_of l ++ part ∷ []) members in
        let e_waits : new.waits.items ≡ set (c.waits.items ++ false ∷ []) next true = adds.waits ∙ ap (λ l. set (l ++ false ∷ []) next true) waits in
        let e_queue : new.queue.items ≡ c.queue.items ++ next ∷ [] = adds.queue ∙ ap (λ l. l ++ next ∷ []) queue in
        let which : IsNext c.waits.items from (length c.sizes.items) next = record {
          one = ⊎_elim (λ (e : next ≡ length mid.sizes.items). inl (e ∙ ap length sizes)) (λ (e : next ≡ from). inr e) adds.one;
          other = λ e w. let P : List Bool → Type 0 = λ l. get_or l from false ≡ true in adds.other e (subst P (sym waits) w);
        } in
        let all = added_kept n from moved next part c.labels.items labels c.sizes.items (lists_of c.members.items) c.waits.items c.queue.items kept from_within is inside which count in
        let goes = added_goes n from moved next part c.labels.items labels c.sizes.items (lists_of c.members.items) c.waits.items c.queue.items kept from_within is inside which count in
        let K1 : List ℕ → Type 0 = λ l. IsKept n l (set c.sizes.items from (get_or c.sizes.items from 0 - moved) ++ moved ∷ []) (lists_of c.members.items ++ part ∷ []) (set (c.waits.items ++ false ∷ []) next true) (c.queue.items ++ next ∷ []) in
        let K2 : List ℕ → Type 0 = λ l. IsKept n new.labels.items l (lists_of c.members.items ++ part ∷ []) (set (c.waits.items ++ false ∷ []) next true) (c.queue.items ++ next ∷ []) in
        let K3 : List (List ℕ) → Type 0 = λ l. IsKept n new.labels.items new.sizes.items l (set (c.waits.items ++ false ∷ []) next true) (c.queue.items ++ next ∷ []) in
        let K4 : List Bool → Type 0 = λ l. IsKept n new.labels.items new.sizes.items (lists_of new.members.items) l (c.queue.items ++ next ∷ []) in
        let K5 : List ℕ → Type 0 = λ l. IsKept n new.labels.items new.sizes.items (lists_of new.members.items) new.waits.items l in
        let G1 : List ℕ → Type 0 = λ l. GoesOn n c.labels.items c.waits.items c.queue.items l (set (c.waits.items ++ false ∷ []) next true) (c.queue.items ++ next ∷ []) in
        let G2 : List Bool → Type 0 = λ l. GoesOn n c.labels.items c.waits.items c.queue.items new.labels.items l (c.queue.items ++ next ∷ []) in
        let G3 : List ℕ → Type 0 = λ l. GoesOn n c.labels.items c.waits.items c.queue.items new.labels.items new.waits.items l in
        let counted = ap (λ l. class_count l) own in
        record {
          kept = subst K5 (sym e_queue) (subst K4 (sym e_waits) (subst K3 (sym e_members) (subst K2 (sym e_sizes) (subst K1 (sym own) all))));
          goes = subst G3 (sym e_queue) (subst G2 (sym e_waits) (subst G1 (sym own) goes));
          steps = omega (arith, tick, counted, count);
        }

-- nothing is changed but labels that went and came back
pub stays : (n : ℕ) (c new : Classes) (s : ℕ) → AreKept n c → new.labels.items ≡ c.labels.items → new.sizes.items ≡ c.sizes.items → new.members.items ≡ c.members.items →
    new.waits.items ≡ c.waits.items → new.queue.items ≡ c.queue.items → Stands n c new s s
stays n c new s kept labels sizes members waits queue =
    let K1 : List ℕ → Type 0 = λ l. IsKept n l c.sizes.items (lists_of c.members.items) c.waits.items c.queue.items in
    let K2 : List ℕ → Type 0 = λ l. IsKept n new.labels.items l (lists_of c.members.items) c.waits.items c.queue.items in
    let K3 : List (List ℕ) → Type 0 = λ l. IsKept n new.labels.items new.sizes.items l c.waits.items c.queue.items in
    let K4 : List Bool → Type 0 = λ l. IsKept n new.labels.items new.sizes.items (lists_of new.members.items) l c.queue.items in
    let K5 : List ℕ → Type 0 = λ l. IsKept n new.labels.items new.sizes.items (lists_of new.members.items) new.waits.items l in
    let own = stands_first n c s kept in
    let G1 : List ℕ → Type 0 = λ l. GoesOn n c.labels.items c.waits.items c.queue.items l c.waits.items c.queue.items in
    let G2 : List Bool → Type 0 = λ l. GoesOn n c.labels.items c.waits.items c.queue.items new.labels.items l c.queue.items in
    let G3 : List ℕ → Type 0 = λ l. GoesOn n c.labels.items c.waits.items c.queue.items new.labels.items new.waits.items l in
    let counted = ap (λ l. class_count l) labels in
    record {
      kept = subst K5 (sym queue) (subst K4 (sym waits) (subst K3 (sym (ap (λ l. lists_of l) members)) (subst K2 (sym sizes) (subst K1 (sym labels) kept))));
      goes = subst G3 (sym queue) (subst G2 (sym waits) (subst G1 (sym labels) own.goes));
      steps = omega (arith, counted);
    }

pub part_whole : (n from : ℕ) (part old new : List ℕ) → new ≡ old → IsPartSplit n from part old old → IsPartSplit n from part old new
part_whole n from part old new e is = let P : List ℕ → Type 0 = λ l. IsPartSplit n from part old l in subst P (sym e) is

pub part_sent : (n from : ℕ) (part old labels new : List ℕ) → new ≡ labels → IsPartSplit n from part old labels → IsPartSplit n from part old new
part_sent n from part old labels new e is = let P : List ℕ → Type 0 = λ l. IsPartSplit n from part old l in subst P (sym e) is
