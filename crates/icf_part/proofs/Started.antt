-- Before the first turn, and after the last one.
use Rattle.std.proofs.Common.{◌≡◌, ℕ, ◌/◌, ◌%◌, ◌<◌, ◌==◌, ◌^◌, Bool, List, [], length, map, get_or, Contains, sym, ap, ◌∙◌, subst, ⊎_elim, inl, inr, arith}
use Rattle.std.proofs.lemmas.Bool.{eq-eqb, eqb-true}
use Rattle.std.proofs.lemmas.List.{ext_get_or, get_or-map, length-map}
use Rattle.icf_part.specs.declared.classes.Classes.{Classes}
use Rattle.icf_part.specs.Classes.{AreItems, AreKept, AreSizes, IsKept, Waits, class_count, lists_of, word}
use Rattle.icf_part.specs.Counts.{how_many, is_new, leader_count}
use Rattle.icf_part.specs.declared.seeds.Waiting.{Waiting}
use Rattle.icf_part.specs.Edges.{AreInto, AreWaiting, IsDone, IsPending, end_at}
use Rattle.icf_part.specs.Folding.{Pair}
use Rattle.icf_part.specs.Numbered.{AreCarried, AreEnds, AreFirstItems, AreFirsts, IsRefined, IsStable, Joins}
use Rattle.icf_part.specs.Signatures.{end_classes}
use Rattle.icf_part.proofs.Counting.{news_lead}
use Rattle.icf_part.proofs.Turning.{way_ends}

pub kept_first : (n : ℕ) (ends : List (List ℕ)) (labels sizes : List ℕ) (members : List (List ℕ)) (waiting : Waiting) → n ≡ length labels → AreFirsts (length labels) labels → AreSizes labels sizes →
    AreItems labels (length labels) members → AreWaiting ends labels waiting → IsKept n labels sizes members waiting.waits.items waiting.queue.items
kept_first n ends labels sizes members waiting is firsts sized items waits =
    let count = sized.count in
    record {
      wide = sym is;
      below = λ a la. omega (arith, firsts.within a (omega (arith, la, is)), count);
      counted = λ label lt. sized.each label (omega (arith, lt, count));
      member_lists = items.count ∙ sym count;
      listed = λ a la. items.all a (omega (arith, la, is));
      within = λ label a has. omega (arith, items.only label a has, is);
      marks = waits.count ∙ sym count;
      queued = waits.queued;
      inside = λ label has. omega (arith, waits.inside label has, count);
      room = omega (arith, count, is);
    }

pub pending_first : (ends : List (List ℕ)) (labels : List ℕ) (waiting : Waiting) → AreEnds ends labels → AreWaiting ends labels waiting → IsPending ends labels waiting.waits.items
pending_first ends labels waiting ends_are waits = record {
  settled = λ a b k la lb e lk.
      let also : k < length (get_or ends b []) = omega (arith, lk, ends_are.alike a b la lb e) in
      ⊎_elim
      (λ (one : get_or labels (end_at ends a k) 0 ≡ get_or labels (end_at ends (get_or labels a 0) k) 0). ⊎_elim
      (λ (two : get_or labels (end_at ends b k) 0 ≡ get_or labels (end_at ends (get_or labels b 0) k) 0).
      inl (one ∙ ap (λ c. get_or labels (end_at ends c k) 0) e ∙ sym two))
      (λ (w : Waits waiting.waits.items (get_or labels (end_at ends b k) 0)). inr (inr w))
      (waits.told b k lb also))
      (λ (w : Waits waiting.waits.items (get_or labels (end_at ends a k) 0)). inr (inl w))
      (waits.told a k la lk);
}

pub empty_queue : (queue : List ℕ) (label : ℕ) → length queue ≡ 0 → Contains queue label → ⊥
empty_queue queue label none (k, lt, e) = omega (arith, none, lt)

pub refined_at_once : (ends : List (List ℕ)) (labels : List ℕ) (waiting : Waiting) → AreFirsts (length ends) labels → AreEnds ends labels → AreWaiting ends labels waiting →
    length waiting.queue.items ≡ 0 → IsRefined ends labels labels
refined_at_once ends labels waiting firsts ends_are waits none = record {
  firsts = firsts;
  finer = λ a b la lb e. e;
  stable = way_ends ends labels labels waiting.waits.items ends_are (λ a b la lb e. e) (λ label w. empty_queue waiting.queue.items label none (waits.queued label w))
      (pending_first ends labels waiting ends_are waits);
  outer = λ pairs carried joins. joins;
}

stable_firsts : (ends : List (List ℕ)) (labels last : List ℕ) → AreFirstItems (length ends) labels last → AreEnds ends labels → IsStable ends labels → IsStable ends last
unfolding end_classes
stable_firsts ends labels last firsts ends_are stable = record {
  stays = λ a b la lb e.
      let f : ℕ → ℕ = λ t. get_or labels t 0 in
      let g : ℕ → ℕ = λ t. get_or last t 0 in
      let own = stable.stays a b la lb (firsts.tells a b la lb e) in
      let wa = length-map (get_or ends a []) g in
      let wb = length-map (get_or ends b []) g in
      let wide : length (get_or ends a []) ≡ length (get_or ends b []) = sym (length-map (get_or ends a []) f) ∙ ap length own ∙ length-map (get_or ends b []) f in
      ext_get_or 0 (map g (get_or ends a [])) (map g (get_or ends b [])) (wa ∙ wide ∙ sym wb) (λ k lt.
      let lk : k < length (get_or ends a []) = omega (arith, lt, wa) in
      let also : k < length (get_or ends b []) = omega (arith, lk, wide) in
      let same : f (end_at ends a k) ≡ f (end_at ends b k) = sym (get_or-map f (get_or ends a []) k 0 0 lk) ∙ ap (λ l. get_or l k 0) own ∙ get_or-map f (get_or ends b []) k 0 0 also in
      get_or-map g (get_or ends a []) k 0 0 lk
      ∙ firsts.same (end_at ends a k) (end_at ends b k) (ends_are.within a k lk) (ends_are.within b k also) same
      ∙ sym (get_or-map g (get_or ends b []) k 0 0 also));
}

pub refined_last : (ends : List (List ℕ)) (start labels last : List ℕ) → AreEnds ends start → IsStable ends labels →
    ((a b : ℕ) → a < length ends → b < length ends → get_or labels a 0 ≡ get_or labels b 0 → get_or start a 0 ≡ get_or start b 0) →
    ((pairs : List Pair) → AreCarried ends pairs → Joins pairs start → Joins pairs labels) → AreFirstItems (length ends) labels last → IsRefined ends start last
refined_last ends start labels last ends_are stable finer outer firsts = record {
  firsts = firsts.firsts;
  finer = λ a b la lb e. finer a b la lb (firsts.tells a b la lb e);
  stable = stable_firsts ends labels last firsts (record { within = ends_are.within; alike = λ a b la lb e. ends_are.alike a b la lb (finer a b la lb e) }) stable;
  outer = λ pairs carried joins a b has. firsts.same a b (carried.one a b has) (carried.two a b has) (outer pairs carried joins a b has);
}

-- how many classes there are, by labels and by leaders
abbrev class_count_to : List ℕ → ℕ → ℕ
class_count_to labels n = how_many (is_new (λ b a. get_or labels b 0 == get_or labels a 0)) n

pub classes_lead : (n : ℕ) (labels last : List ℕ) → length labels ≡ n → AreFirstItems n labels last → class_count labels ≡ leader_count last
classes_lead n labels last wide firsts =
    ap (λ k. class_count_to labels k) wide
    ∙ news_lead n (λ b a. get_or labels b 0 == get_or labels a 0) last firsts.firsts
    (λ b a lb la is. firsts.same b a lb la (eqb-true (get_or labels b 0) (get_or labels a 0) is))
    (λ b a lb la e. eq-eqb (get_or labels b 0) (get_or labels a 0) (firsts.tells b a lb la e))

pub firsts_themselves : (n : ℕ) (labels : List ℕ) → AreFirsts n labels → AreFirstItems n labels labels
firsts_themselves n labels firsts = record { firsts = firsts; same = λ a b la lb e. e; tells = λ a b la lb e. e }

-- the first classes of all
pub kept_classes : (ends : List (List ℕ)) (start : List ℕ) (waiting : Waiting) (c : Classes) → AreFirsts (length start) start → AreWaiting ends start waiting → c.labels.items ≡ start →
    c.waits.items ≡ waiting.waits.items → c.queue.items ≡ waiting.queue.items → AreSizes start c.sizes.items → AreItems start (length start) (lists_of c.members.items) → AreKept (length c.labels.items) c
kept_classes ends start waiting c firsts waits labels marks queue sizes members =
    let n = length c.labels.items in
    let wide : n ≡ length start = ap length labels in
    let all = kept_first n ends start c.sizes.items (lists_of c.members.items) waiting wide firsts sizes members waits in
    let K1 : List ℕ → Type 0 = λ l. IsKept n l c.sizes.items (lists_of c.members.items) waiting.waits.items waiting.queue.items in
    let K2 : List Bool → Type 0 = λ l. IsKept n c.labels.items c.sizes.items (lists_of c.members.items) l waiting.queue.items in
    let K3 : List ℕ → Type 0 = λ l. IsKept n c.labels.items c.sizes.items (lists_of c.members.items) c.waits.items l in
    subst K3 (sym queue) (subst K2 (sym marks) (subst K1 (sym labels) all))

-- what leads to items are items
pub into_items : (ends into : List (List ℕ)) (n : ℕ) → n ≡ length ends → AreInto ends into → (t w : ℕ) → Contains (get_or into t []) w → w % 2 ^ 32 < n
into_items ends into n e are t w has =
    let is : w ≡ word (w / 2 ^ 32) (w % 2 ^ 32) = omega arith in
    let P : ℕ → Type 0 = Contains (get_or into t []) in
    let told = are.only t (w / 2 ^ 32) (w % 2 ^ 32) (omega arith) (subst P is has) in
    omega (arith, told.0, e)

pub firsts_wide : (n : ℕ) (start : List ℕ) → AreFirsts n start → AreFirsts (length start) start
firsts_wide n start firsts = let P : ℕ → Type 0 = λ k. AreFirsts k start in subst P (sym firsts.wide) firsts

-- what all turns leave is the refinement
pub refined_by : (ends into : List (List ℕ)) (start last : List ℕ) (waiting : Waiting) (c done : Classes) → AreEnds ends start → AreFirsts (length ends) start → AreInto ends into → AreWaiting ends start waiting →
    c.labels.items ≡ start → c.waits.items ≡ waiting.waits.items → IsDone into c done → AreFirstItems (length ends) done.labels.items last → IsRefined ends start last
refined_by ends into start last waiting c done ends_are firsts are waits labels marks is_done last_are =
    let L : List ℕ → Type 0 = λ l. AreEnds ends l in
    let E = subst L (sym labels) ends_are in
    let P1 : List ℕ → Type 0 = λ l. IsPending ends l waiting.waits.items in
    let P2 : List Bool → Type 0 = λ l. IsPending ends c.labels.items l in
    let pending : IsPending ends c.labels.items c.waits.items = subst P2 (sym marks) (subst P1 (sym labels) (pending_first ends start waiting ends_are waits)) in
    let n = length ends in
    let wide : length c.labels.items ≡ n = ap length labels ∙ firsts.wide in
    let F : List ℕ → Type 0 = λ l. (a b : ℕ) → a < n → b < n → get_or done.labels.items a 0 ≡ get_or done.labels.items b 0 → get_or l a 0 ≡ get_or l b 0 in
    let J : List ℕ → Type 0 = λ l. (pairs : List Pair) → AreCarried ends pairs → Joins pairs l → Joins pairs done.labels.items in
    refined_last ends start done.labels.items last ends_are (is_done.stable ends are E pending)
    (subst F labels (λ a b la lb e. is_done.finer a b (omega (arith, la, wide)) (omega (arith, lb, wide)) e))
    (subst J labels (λ pairs carried joins. is_done.outer ends pairs are E pending carried joins))
    last_are

pub first_items_are : (n : ℕ) (labels list last : List ℕ) → list ≡ labels → length labels ≡ n → AreFirstItems (length list) list last → AreFirstItems n labels last
first_items_are n labels list last is wide are =
    let P : List ℕ → Type 0 = λ l. AreFirstItems (length l) l last in
    let Q : ℕ → Type 0 = λ k. AreFirstItems k labels last in
    subst Q wide (subst P is are)
